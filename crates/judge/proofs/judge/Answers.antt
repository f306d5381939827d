-- `judge::judge` meets its contract: geometry, the walk from the root with no page marked, then the freelist page.
-- Assumes nothing.
use mathlib.Core.Path.{◌≡◌, sym, ap, ◌∙◌}
use mathlib.Core.Bool.{true}
use mathlib.Core.List.{[]}
use mathlib.Core.Option.{none}
use Rattle.std.proofs.Common.{rules}
use Rattle.std.specs.Prelude.{Err}
use Rattle.walk.specs.Tree.{walk as walk_of, Verdict as Walk}
use Rattle.judge.specs.Judge.{after_tree as after_tree_of, judge_of}
use Rattle.view.specs.Geometry.{SoundSizes}
use Rattle.view.specs.View.{view_of, pages_of}
use Rattle.judge.specs.Walk.{Says}
use Rattle.view.proofs.GeometryLaws.{geometry_sizes}
use Rattle.judge.proofs.MarksLaws.{marks_none}
use Rattle.judge.proofs.JudgeLaws.{judge_geometry, judge_tree}
use Rattle.judge.proofs.WalkLaws.{says_passed, says_broken}
use Rattle.judge.proofs.judge.Goals as goal
use Rattle.judge.proofs.judge.Goals.{After-walk, Else-geometry_bad}

pub returns-then-geometry_bad : goal.returns-then-geometry_bad
returns-then-geometry_bad c =
    let a = c.args in
    ap Err c.page_fault.ensures ∙ sym (judge_geometry a.image.now a.p a.n a.root a.f (sym c.geometry_bad.ensures ∙ c.if-geometry_bad.true))

sizes : (c : Else-geometry_bad) → let a = c.args in SoundSizes a.image.now a.p a.n
sizes c = let a = c.args in geometry_sizes a.image.now a.p a.n (sym c.geometry_bad.ensures ∙ c.if-geometry_bad.false)

pub walk-requires : goal.walk-requires
walk-requires c = sizes (goal.at.walk-requires c).Else-geometry_bad

-- the walk from the root, with no page marked before
walked : (c : After-walk)
    → let a = c.args in
    Says c.walk.result c.walk.new.marks (walk_of a.n (pages_of a.image.now a.p a.n) (view_of a.image.now a.p a.n) 16 true a.root [] none [])
walked c = c.walk.ensures.says [] (rw c.no_marks-marks.ensures marks_none)

-- the judge goes on from it
judged : (c : After-walk) (w : Walk)
    → let a = c.args in
    walk_of a.n (pages_of a.image.now a.p a.n) (view_of a.image.now a.p a.n) 16 true a.root [] none [] ≡ w
    → judge_of a.image.now a.p a.n a.root a.f ≡ after_tree_of a.image.now a.p a.n a.f w
judged c w e =
    let a = c.args in
    judge_tree a.image.now a.p a.n a.root a.f (sym c.geometry_bad.ensures ∙ c.if-geometry_bad.false) ∙ ap (after_tree_of a.image.now a.p a.n a.f) e

pub returns-in_err-entries : goal.returns-in_err-entries
returns-in_err-entries c =
    let same : c.from_residual.result ≡ Err c.in_err-entries.field-0.0 = search rules in
    same ∙ sym (judged (goal.at.returns-in_err-entries c).After-walk _ (says_broken c.walk.result _ _ c.in_err-entries.field-0.0 (walked (goal.at.returns-in_err-entries c).After-walk) c.in_err-entries.was))

pub after_tree-requires : goal.after_tree-requires
after_tree-requires c = sizes (goal.at.after_tree-requires c).Else-geometry_bad

pub returns : goal.returns
returns c =
    let k = says_passed c.walk.result _ _ c.in_ok-entries.entries (walked (goal.at.returns c).After-walk) c.in_ok-entries.was in
    c.after_tree.ensures k.0 k.2 ∙ sym (judged (goal.at.returns c).After-walk _ k.1)

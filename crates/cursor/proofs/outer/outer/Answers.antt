use Rattle.std.specs.Prelude.{Ok}
use mathlib.Core.List.{List}
use Rattle.path.specs.declared.Step.{Step}
use Rattle.path.specs.declared.Cursor.{Cursor}
use Rattle.path.specs.Path.{refused}
use Rattle.view.specs.declared.Fault.{Fault}
use Rattle.view.specs.declared.Value.{Value}
use mathlib.Core.Path.{◌≡◌, sym, ap, ◌∙◌}
use Prim.Native.Nat.{◌*◌}
use native.Mathlib.Omega.{arith}
use lib.Dec.{eqb}
use lib.ListN.{length, take}
use Rattle.page.specs.PageRules.{block_of}
use Rattle.page.proofs.RuleLaws.{sound_weaker}
use Rattle.view.specs.View.{value_item, view_of}
use Rattle.cursor.specs.Cursor.{moved_of}
use Rattle.cursor.specs.Working.{edge_of, under}
use Rattle.cursor.proofs.MetLaws.{BranchMet, LeafMet, bad_met, branch_met, leaf_met}
use Rattle.cursor.proofs.OuterLaws.{outer_bad, outer_branch, outer_leaf, outer_empty, outer_deep}
use Rattle.cursor.proofs.StepsLaws.{clear_set, made_at, under_turn, under_end, under_refused, under_at}
use Rattle.cursor.proofs.outer.outer.Goals as goal
use Rattle.cursor.proofs.outer.outer.Goals.{In-Ok-Branch, In-Ok-Leaf}

-- the branch that was met
branch-here : (c : In-Ok-Branch)
    → let a = c.args in
    BranchMet a.image.now a.p a.n c.loop-level.q (eqb c.loop-level.level 0) c.in-Ok-Branch.count
branch-here c =
    branch_met c.args.image.now c.args.p c.args.n c.loop-level.q (eqb c.loop-level.level 0) c.requires.0 _ (sym c.meet.ensures ∙ c.in-Ok-Branch.is ∙ ap Ok c.in-Ok-Branch.field-0-is)

pub edge-i-requires : goal.edge-i-requires
edge-i-requires c = (branch-here c).some

pub child_at-q-requires : goal.child_at-q-requires
child_at-q-requires c =
    let b = branch-here (goal.at.child_at-q-requires c).In-Ok-Branch in
    let l = c.edge-i.ensures.1 in
    (b.page, b.sound, rw b.counted at l)

pub loop-level-preserved : goal.loop-level-preserved
loop-level-preserved c =
    let b = branch-here (goal.at.loop-level-preserved c).In-Ok-Branch in
    let a = c.args in
    let i : c.edge-i.result ≡ edge_of a.way (length b.children) = c.edge-i.ensures.0 ∙ ap (edge_of a.way) (sym b.size) in
    let o = outer_branch a.n (view_of a.image.now a.p a.n) a.way c.loop-level.level c.loop-level.q (omega arith) b.children _ c.edge-i.result c.child_at-q.result
    b.seen i (b.child c.edge-i.result c.edge-i.ensures.1) c.child_at-q.ensures in (
      clear_set c.loop-level.steps c.loop-level.level _ (omega arith) c.loop-level.invariant.0,
      c.loop-level.invariant.1 ∙ ap (under (take c.loop-level.level c.loop-level.steps)) o
          ∙ under_turn c.loop-level.steps c.loop-level.level _ _ (omega arith) c.loop-level.invariant.0,
    )

leaf-here : (c : In-Ok-Leaf)
    → let a = c.args in
    LeafMet a.image.now a.p a.n c.loop-level.q (eqb c.loop-level.level 0) c.in-Ok-Leaf.count
leaf-here c =
    leaf_met c.args.image.now c.args.p c.args.n c.loop-level.q (eqb c.loop-level.level 0) c.requires.0 _ (sym c.meet.ensures ∙ c.in-Ok-Leaf.is ∙ ap Ok c.in-Ok-Leaf.field-0-is)

pub returns-then-count-eq0 : goal.returns-then-count-eq0
returns-then-count-eq0 c =
    let b = leaf-here (goal.at.returns-then-count-eq0 c).In-Ok-Leaf in
    let a = c.args in
    let o = outer_empty a.n (view_of a.image.now a.p a.n) a.way c.loop-level.level c.loop-level.q (omega arith) b.entries b.seen (b.size ∙ omega arith) in
    sym (ap (moved_of a.given) (c.loop-level.invariant.1 ∙ ap (under (take c.loop-level.level c.loop-level.steps)) o ∙ under_end (take c.loop-level.level c.loop-level.steps)))

pub entry_at-requires : goal.entry_at-requires
entry_at-requires c =
    let b = leaf-here (goal.at.entry_at-requires c).In-Ok-Leaf in
    let l = c.edge-i-in-Ok-Leaf.ensures.1 in
    (b.page, sound_weaker _ _ _ b.sound, rw b.counted at l)

pub returns-in-Ok-Leaf : goal.returns-in-Ok-Leaf
returns-in-Ok-Leaf c =
    let b = leaf-here (goal.at.returns-in-Ok-Leaf c).In-Ok-Leaf in
    let a = c.args in
    let i : c.edge-i-in-Ok-Leaf.result ≡ edge_of a.way (length b.entries) = c.edge-i-in-Ok-Leaf.ensures.0 ∙ ap (edge_of a.way) (sym b.size) in
    let o = outer_leaf a.n (view_of a.image.now a.p a.n) a.way c.loop-level.level c.loop-level.q (omega arith) b.entries _ c.edge-i-in-Ok-Leaf.result
    b.seen i (b.entry c.edge-i-in-Ok-Leaf.result c.edge-i-in-Ok-Leaf.ensures.1) in
    made_at a.given c.loop-level.steps c.loop-level.level _ _ (value_item (c.loop-level.q * a.p) (block_of a.image.now a.p c.loop-level.q) c.edge-i-in-Ok-Leaf.result) (omega arith) c.loop-level.invariant.0 c.entry_at.ensures
    ∙ sym (ap (moved_of a.given) (c.loop-level.invariant.1 ∙ ap (under (take c.loop-level.level c.loop-level.steps)) o ∙ under_at (take c.loop-level.level c.loop-level.steps) _ _))

-- a refusal, below the steps made
refused_here : (path : List Step) (given : Cursor) (f g : Fault) → f ≡ g
    → moved_of given (refused f.refusal f.page f.element f.common) ≡ moved_of given (under path (refused g.refusal g.page g.element g.common))
refused_here path given f g e = rw (e, under_refused {P = Value} path g.refusal g.page g.element g.common)

pub returns-in-Err : goal.returns-in-Err
returns-in-Err c =
    let a = c.args in
    let l = c.loop-level in
    let m = bad_met a.image.now a.p a.n l.q (eqb l.level 0) c.requires.0 _ (sym c.meet.ensures ∙ c.in-Err.is) in
    let o = outer_bad a.n (view_of a.image.now a.p a.n) a.way l.level l.q (omega arith) _ _ _ m in
    c.refuse.ensures ∙ refused_here (take l.level l.steps) a.given _ _ c.on_page.ensures ∙ sym (ap (moved_of a.given) (l.invariant.1 ∙ ap (under (take l.level l.steps)) o))

pub returns : goal.returns
returns c =
    let a = c.args in
    let l = c.loop-level in
    let o = outer_deep a.n (view_of a.image.now a.p a.n) a.way l.level (eqb l.level 0) l.q (omega arith) in
    c.refuse-2.ensures ∙ refused_here (take l.level l.steps) a.given _ _ c.fault.ensures ∙ sym (ap (moved_of a.given) (l.invariant.1 ∙ ap (under (take l.level l.steps)) o))

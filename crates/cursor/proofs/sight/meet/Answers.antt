-- `cursor::sight::meet` meets its contract: the number, then the header, then the block's check. Assumes nothing.
use Rattle.std.proofs.Common.{rules}
use Rattle.std.specs.Prelude.{Err}
use mathlib.Core.Path.{◌≡◌, sym, ap, ◌∙◌}
use mathlib.Core.Bool.{true, false}
use Prim.Native.Nat.{◌*◌}
use lib.ListN.{drop}
use Rattle.page.specs.PageRules.{header_bad}
use Rattle.walk.specs.Tree.{inside}
use Rattle.view.proofs.GeometryLaws.{inside_parts}
use Rattle.view.proofs.ViewFrame.{header_ends}
use Rattle.view.proofs.ViewLaws.{bad_header, leaf_bad_lem, branch_bad_lem, leaf_good, branch_good}
use Rattle.cursor.specs.Sight.{sight_of}
use Rattle.cursor.proofs.SightLaws.{met_inside, leaf_sight, branch_sight}
use Rattle.cursor.proofs.sight.meet.Goals as goal
use Rattle.cursor.proofs.sight.meet.Goals.{After-header_bad, Else-header_bad, Else-not-inside}

within : (c : Else-not-inside) → let a = c.args in inside a.n a.q ≡ true
within c = sym c.inside.ensures ∙ c.if-not-inside.false

-- what was found of the header
header : (c : After-header_bad)
    → let a = c.args in c.header_bad.result ≡ header_bad a.n a.q (drop (a.q * a.p) a.image.now)
header c = let a = c.args in c.header_bad.ensures ∙ ap (header_bad a.n a.q) c.from_page.ensures.0

pub returns-then-header_bad : goal.returns-then-header_bad
returns-then-header_bad c =
    let a = c.args in
    ap Err c.from-then-header_bad.ensures
    ∙ sym
    (ap sight_of
    (met_inside a.image.now a.p a.n a.q a.top (within (goal.at.returns-then-header_bad c).Else-not-inside)
    ∙ bad_header a.image.now a.p a.n a.q a.top (sym (header (goal.at.returns-then-header_bad c).After-header_bad) ∙ c.if-header_bad.true)))

good : (c : Else-header_bad)
    → let a = c.args in header_bad a.n a.q (drop (a.q * a.p) a.image.now) ≡ false
good c = sym (header (goal.at.Else-header_bad c).After-header_bad) ∙ c.if-header_bad.false

pub block-b-requires : goal.block-b-requires
block-b-requires c =
    (c.requires, (inside_parts _ _ (within (goal.at.block-b-requires c).Else-not-inside)).1, header_ends c.args.n c.args.q _ (good c))

pub returns-in_err-check : goal.returns-in_err-check
returns-in_err-check c =
    let a = c.args in
    rw (
      met_inside a.image.now a.p a.n a.q a.top (within (goal.at.returns-in_err-check c).Else-not-inside),
      leaf_bad_lem a.image.now a.p a.n a.q a.top c.block-b.result.now c.block-b.ensures.0 (good (goal.at.returns-in_err-check c).Else-header_bad) _ _ _
          (sym c.is_leaf.ensures ∙ c.if-is_leaf.true) (sym c.check.ensures ∙ c.in_err-check.was),
    )
    (search rules)

pub returns-then-is_leaf : goal.returns-then-is_leaf
returns-then-is_leaf c =
    let a = c.args in
    leaf_sight (a.q * a.p) _ _ c.count.ensures
    ∙ sym
    (ap sight_of
    (met_inside a.image.now a.p a.n a.q a.top (within (goal.at.returns-then-is_leaf c).Else-not-inside)
    ∙ leaf_good a.image.now a.p a.n a.q a.top c.block-b.result.now c.block-b.ensures.0 (good (goal.at.returns-then-is_leaf c).Else-header_bad)
    (sym c.is_leaf.ensures ∙ c.if-is_leaf.true) (sym c.check.ensures ∙ c.in_ok-check.was)))

pub returns-in_err-check-2 : goal.returns-in_err-check-2
returns-in_err-check-2 c =
    let a = c.args in
    rw (
      met_inside a.image.now a.p a.n a.q a.top (within (goal.at.returns-in_err-check-2 c).Else-not-inside),
      branch_bad_lem a.image.now a.p a.n a.q a.top c.block-b.result.now c.block-b.ensures.0 (good (goal.at.returns-in_err-check-2 c).Else-header_bad) _ _ _
          (sym c.is_leaf.ensures ∙ c.if-is_leaf.false) (sym c.check-2.ensures ∙ c.in_err-check-2.was),
    )
    (search rules)

pub returns : goal.returns
returns c =
    let a = c.args in
    branch_sight _ _ c.count-2.ensures
    ∙ sym
    (ap sight_of
    (met_inside a.image.now a.p a.n a.q a.top (within (goal.at.returns c).Else-not-inside)
    ∙ branch_good a.image.now a.p a.n a.q a.top c.block-b.result.now c.block-b.ensures.0 (good (goal.at.returns c).Else-header_bad)
    (sym c.is_leaf.ensures ∙ c.if-is_leaf.false) (sym c.check-2.ensures ∙ c.in_ok-check-2.was)))

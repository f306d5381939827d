-- `lookup::descent::look_at` meets its contract: the header, then the block's check, then its search. Assumes nothing.
use Rattle.std.proofs.Common.{rules}
use mathlib.Core.Path.{◌≡◌, sym, ap, ◌∙◌}
use mathlib.Core.Bool.{true, false}
use mathlib.Core.List.{List}
use Prim.Native.Nat.{ℕ, ◌+◌, ◌*◌, ◌<◌}
use native.Mathlib.Omega.{arith}
use lib.ListN.{length, drop}
use Rattle.std.specs.Prelude.{Ok}
use Rattle.page.specs.Layout.{overflow_of}
use Rattle.page.specs.PageRules.{header_bad, check_of}
use Rattle.page.proofs.RuleLaws.{check_sound, sound_weaker}
use Rattle.walk.specs.Tree.{View}
use Rattle.view.specs.declared.Value.{Value}
use Rattle.view.proofs.ViewFrame.{header_ends}
use Rattle.view.proofs.ViewLaws.{bad_header, leaf_bad_lem, branch_bad_lem, leaf_good, branch_good}
use Rattle.view.proofs.ImageLaws.{block_fits}
use Rattle.lookup.specs.Step.{step_of}
use Rattle.lookup.proofs.descent.look_at.Goals as goal
use Rattle.lookup.proofs.descent.look_at.Goals.{After-header_bad, Else-header_bad, In_ok-check, In_ok-check-2}

-- what was found of the header
header : (c : After-header_bad)
    → let a = c.args in c.header_bad.result ≡ header_bad a.n a.q (drop (a.q * a.p) a.image.now)
header c = let a = c.args in c.header_bad.ensures ∙ ap (header_bad a.n a.q) c.from_page.ensures.0

pub returns-then-header_bad : goal.returns-then-header_bad
unfolding step_of
returns-then-header_bad c =
    let a = c.args in
    rw (bad_header a.image.now a.p a.n a.q a.top (sym (header (goal.at.returns-then-header_bad c).After-header_bad) ∙ c.if-header_bad.true)) (search rules)

good : (c : Else-header_bad)
    → let a = c.args in header_bad a.n a.q (drop (a.q * a.p) a.image.now) ≡ false
good c = sym (header (goal.at.Else-header_bad c).After-header_bad) ∙ c.if-header_bad.false

ends : (c : Else-header_bad)
    → let a = c.args in a.q + overflow_of (drop (a.q * a.p) a.image.now) < a.n
ends c = let a = c.args in header_ends a.n a.q (drop (a.q * a.p) a.image.now) (good c)

pub block-b-requires : goal.block-b-requires
block-b-requires c = (c.requires.0, c.requires.1, ends c)

-- a leaf that is sound
leaf_passed : (c : In_ok-check) → check_of true c.args.top c.block-b.result.now ≡ Ok tt
leaf_passed c = sym c.check.ensures ∙ c.in_ok-check.was

-- a branch that is sound
branch_passed : (c : In_ok-check-2) → check_of false false c.block-b.result.now ≡ Ok tt
branch_passed c = sym c.check-2.ensures ∙ c.in_ok-check-2.was

pub seek-requires : goal.seek-requires
seek-requires c =
    let e = c.block-b.ensures.0 in
    let f = block_fits c.args.image.now c.args.p c.args.n c.args.q c.requires.0 (ends (goal.at.seek-requires c).Else-header_bad) in
    let l = ap (λ (x : List ℕ). length x) e in
    (sound_weaker _ c.args.top c.block-b.result.now (check_sound _ c.args.top c.block-b.result.now (leaf_passed (goal.at.seek-requires c).In_ok-check)), omega arith)

pub child_for-requires : goal.child_for-requires
child_for-requires c =
    check_sound _ _ c.block-b.result.now (branch_passed (goal.at.child_for-requires c).In_ok-check-2)

pub returns-in_err-check : goal.returns-in_err-check
unfolding step_of
returns-in_err-check c =
    let a = c.args in
    rw
    (leaf_bad_lem a.image.now a.p a.n a.q a.top c.block-b.result.now c.block-b.ensures.0 (good (goal.at.returns-in_err-check c).Else-header_bad) _ _ _
    (sym c.is_leaf.ensures ∙ c.if-is_leaf.true) (sym c.check.ensures ∙ c.in_err-check.was))
    (search rules)

pub returns-then-is_leaf : goal.returns-then-is_leaf
returns-then-is_leaf c =
    let a = c.args in
    c.seek.ensures
    ∙ sym
    (ap (λ (v : View Value). step_of v a.key.now)
    (leaf_good a.image.now a.p a.n a.q a.top c.block-b.result.now c.block-b.ensures.0 (good (goal.at.returns-then-is_leaf c).Else-header_bad)
    (sym c.is_leaf.ensures ∙ c.if-is_leaf.true) (leaf_passed (goal.at.returns-then-is_leaf c).In_ok-check)))

pub returns-in_err-check-2 : goal.returns-in_err-check-2
unfolding step_of
returns-in_err-check-2 c =
    let a = c.args in
    rw
    (branch_bad_lem a.image.now a.p a.n a.q a.top c.block-b.result.now c.block-b.ensures.0 (good (goal.at.returns-in_err-check-2 c).Else-header_bad) _ _ _
    (sym c.is_leaf.ensures ∙ c.if-is_leaf.false) (sym c.check-2.ensures ∙ c.in_err-check-2.was))
    (search rules)

pub returns : goal.returns
unfolding step_of
returns c =
    let a = c.args in
    rw (
      c.child_for.ensures,
      branch_good a.image.now a.p a.n a.q a.top c.block-b.result.now c.block-b.ensures.0 (good (goal.at.returns c).Else-header_bad)
          (sym c.is_leaf.ensures ∙ c.if-is_leaf.false) (branch_passed (goal.at.returns c).In_ok-check-2),
    )

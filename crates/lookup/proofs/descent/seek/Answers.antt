-- `lookup::descent::seek` meets its contract: the entry at the place found, or none. Assumes nothing.
use mathlib.Core.Path.{◌≡◌, sym, ap, ◌∙◌}
use mathlib.Core.Bool.{true}
use Prim.Native.Nat.{◌<◌}
use native.Mathlib.Omega.{arith}
use Rattle.page.specs.declared.search.Leaf.{Leaf}
use Rattle.page.specs.declared.search.Place.{Place}
use Rattle.page.specs.Layout.{count_of}
use Rattle.lookup.specs.declared.descent.Step.TheVariants.{Found}
use Rattle.std.specs.Prelude.{Ok}
use Rattle.walk.specs.Tree.{leaf}
use Rattle.lookup.specs.Step.{step_of}
use Rattle.view.specs.View.{row, value_item}
use Rattle.lookup.proofs.FindLaws.{value_told_lem, leaf_found, leaf_missing}
use Rattle.view.specs.declared.Value.{Value}
use Rattle.lookup.proofs.descent.seek.Goals as goal
use Rattle.lookup.proofs.descent.seek.Goals.{After-leaf_at-e, Then-place}

-- what the search found: an element, and what the leaf says of the key
sought : (c : Then-place)
    → let a = c.args in
    (c.find-place.result.at < count_of a.b.now)
    × (step_of (leaf (row (value_item a.start a.b.now) (count_of a.b.now) 0)) a.key.now ≡ Ok (Found (value_item a.start a.b.now c.find-place.result.at).value))
sought c =
    let e = c.find-place.ensures in
    let f = leaf_found true c.args.b.now c.args.key.now c.args.start c.requires.0 (sym (ap (λ (x : Place). x.found) e) ∙ c.if-place.true) in
    rw (sym e) at f

pub leaf_at-e-requires : goal.leaf_at-e-requires
leaf_at-e-requires c = ((sought c).0, c.requires.0)

pub overflow_add-result : goal.overflow_add-result
overflow_add-result c =
    let v = ap (λ (x : Leaf). x.value) c.leaf_at-e.ensures in
    let w = c.requires.0.within c.find-place.result.at (sought (goal.at.overflow_add-result c).Then-place).0 in
    let p = c.requires.1 in
    omega arith

pub returns-then-place : goal.returns-then-place
returns-then-place c =
    ap (λ (v : Value). Ok (Found v)) (value_told_lem c.args.start c.args.b.now c.find-place.result.at c.leaf_at-e.result c.leaf_at-e.ensures) ∙ sym (sought (goal.at.returns-then-place c).Then-place).1

pub returns : goal.returns
returns c =
    sym (leaf_missing true c.args.b.now c.args.key.now c.args.start c.requires.0 (sym (ap (λ (x : Place). x.found) c.find-place.ensures) ∙ c.if-place.false))

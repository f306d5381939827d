use mathlib.Core.Path.{◌≡◌, sym, ap, ◌∙◌}
use mathlib.Core.Bool.{true, false}
use Prim.Native.Nat.{◌+◌, ◌/◌, ◌<◌}
use native.Mathlib.Omega.{arith}
use Rattle.std.specs.Prelude.{Ok}
use Rattle.page.specs.Layout.{count_of}
use Rattle.page.specs.PageRules.{element_bad}
use Rattle.page.proofs.LayoutLaws.{element_room}
use Rattle.page.proofs.RuleLaws.{element_good}
use Rattle.quick.proofs.TurnLaws.{halfway, halves_all, halve_end, halve_breach, halve_equal, halve_lower, halve_higher}
use Rattle.quick.proofs.leaf_halving.halve_leaf.Goals as goal
use Rattle.quick.proofs.leaf_halving.halve_leaf.Goals.{Else-leaf_bad}

pub loop-low-init : goal.loop-low-init
loop-low-init c =
    (omega arith, omega arith, halves_all true c.args.b.now c.args.key.now c.args.n c.requires.0)

pub returns-then-leaf_bad : goal.returns-then-leaf_bad
returns-then-leaf_bad c =
    let a = c.args in
    sym (c.loop-low.invariant.2 ∙ halve_breach true a.b.now a.key.now c.loop-low.low c.loop-low.high (omega arith) _ (halfway c.loop-low.low c.loop-low.high (omega arith)) (sym c.leaf_bad.ensures ∙ c.if-leaf_bad.true))

-- the element at the middle keeps rule 6
good : (c : Else-leaf_bad)
    → element_bad true c.args.b.now ((c.loop-low.low + c.loop-low.high) / 2) ≡ false
good c = sym c.leaf_bad.ensures ∙ c.if-leaf_bad.false

pub key_order-requires : goal.key_order-requires
key_order-requires c =
    let b = c.args.b.now in
    let m = (c.loop-low.low + c.loop-low.high) / 2 in
    let e = c.requires.0 in
    let h = c.loop-low.invariant.1 in
    let i : m < count_of b = omega arith in
    let w = (element_good true b m (good c)).1 in
    (element_room true b m i c.requires.1, omega arith)

pub loop-low-preserved-in-Less : goal.loop-low-preserved-in-Less
loop-low-preserved-in-Less c =
    let a = c.args in
    let o = sym c.key_order.ensures ∙ c.in-Less.is in
    let h = c.loop-low.invariant.1 in
    (omega arith, omega arith, c.loop-low.invariant.2 ∙ halve_lower true a.b.now a.key.now c.loop-low.low c.loop-low.high (omega arith) _ (halfway c.loop-low.low c.loop-low.high (omega arith)) (good (goal.at.loop-low-preserved-in-Less c).Else-leaf_bad) o)

pub returns-in-Equal : goal.returns-in-Equal
returns-in-Equal c =
    let a = c.args in
    let o = sym c.key_order.ensures ∙ c.in-Equal.is in
    sym (c.loop-low.invariant.2 ∙ halve_equal true a.b.now a.key.now c.loop-low.low c.loop-low.high (omega arith) _ (halfway c.loop-low.low c.loop-low.high (omega arith)) (good (goal.at.returns-in-Equal c).Else-leaf_bad) o)

pub loop-low-preserved : goal.loop-low-preserved
loop-low-preserved c =
    let a = c.args in
    let o = sym c.key_order.ensures ∙ c.in-Greater.is in
    let h = c.loop-low.invariant.1 in
    (omega arith, omega arith, c.loop-low.invariant.2 ∙ halve_higher true a.b.now a.key.now c.loop-low.low c.loop-low.high (omega arith) _ (halfway c.loop-low.low c.loop-low.high (omega arith)) (good (goal.at.loop-low-preserved c).Else-leaf_bad) o)

pub returns : goal.returns
returns c =
    let a = c.args in
    ap Ok c.place_at.ensures ∙ sym (c.loop-low.invariant.2 ∙ halve_end true a.b.now a.key.now c.loop-low.low c.loop-low.high (omega arith))

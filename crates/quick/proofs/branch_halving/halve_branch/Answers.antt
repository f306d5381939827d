use mathlib.Core.Path.{◌≡◌, sym, ap, ◌∙◌}
use mathlib.Core.Bool.{false}
use Prim.Native.Nat.{◌+◌, ◌/◌, ◌<◌}
use native.Mathlib.Omega.{arith}
use Rattle.std.specs.Prelude.{Ok}
use Rattle.page.specs.Layout.{count_of}
use Rattle.page.specs.PageRules.{element_bad}
use Rattle.page.proofs.LayoutLaws.{element_room}
use Rattle.page.proofs.RuleLaws.{element_good}
use Rattle.quick.proofs.TurnLaws.{halfway, halves_all, halve_end, halve_breach, halve_equal, halve_lower, halve_higher}
use Rattle.quick.proofs.branch_halving.halve_branch.Goals as goal
use Rattle.quick.proofs.branch_halving.halve_branch.Goals.{Else-branch_bad}

pub loop-low-init : goal.loop-low-init
loop-low-init c =
    (omega arith, omega arith, halves_all false c.args.b.now c.args.key.now c.args.n c.requires.0)

pub returns-then-branch_bad : goal.returns-then-branch_bad
returns-then-branch_bad c =
    let a = c.args in
    sym (c.loop-low.invariant.2 ∙ halve_breach false a.b.now a.key.now c.loop-low.low c.loop-low.high (omega arith) _ (halfway c.loop-low.low c.loop-low.high (omega arith)) (sym c.branch_bad.ensures ∙ c.if-branch_bad.true))

-- the element at the middle keeps rule 6
good : (c : Else-branch_bad)
    → element_bad false c.args.b.now ((c.loop-low.low + c.loop-low.high) / 2) ≡ false
good c = sym c.branch_bad.ensures ∙ c.if-branch_bad.false

pub key_order-requires : goal.key_order-requires
key_order-requires c =
    let b = c.args.b.now in
    let m = (c.loop-low.low + c.loop-low.high) / 2 in
    let e = c.requires.0 in
    let h = c.loop-low.invariant.1 in
    let i : m < count_of b = omega arith in
    let w = (element_good false b m (good c)).1 in
    (element_room false b m i c.requires.1, omega arith)

pub loop-low-preserved-in-Less : goal.loop-low-preserved-in-Less
loop-low-preserved-in-Less c =
    let a = c.args in
    let o = sym c.key_order.ensures ∙ c.in-Less.is in
    let h = c.loop-low.invariant.1 in
    (omega arith, omega arith, c.loop-low.invariant.2 ∙ halve_lower false a.b.now a.key.now c.loop-low.low c.loop-low.high (omega arith) _ (halfway c.loop-low.low c.loop-low.high (omega arith)) (good (goal.at.loop-low-preserved-in-Less c).Else-branch_bad) o)

pub returns-in-Equal : goal.returns-in-Equal
returns-in-Equal c =
    let a = c.args in
    let o = sym c.key_order.ensures ∙ c.in-Equal.is in
    sym (c.loop-low.invariant.2 ∙ halve_equal false a.b.now a.key.now c.loop-low.low c.loop-low.high (omega arith) _ (halfway c.loop-low.low c.loop-low.high (omega arith)) (good (goal.at.returns-in-Equal c).Else-branch_bad) o)

pub loop-low-preserved : goal.loop-low-preserved
loop-low-preserved c =
    let a = c.args in
    let o = sym c.key_order.ensures ∙ c.in-Greater.is in
    let h = c.loop-low.invariant.1 in
    (omega arith, omega arith, c.loop-low.invariant.2 ∙ halve_higher false a.b.now a.key.now c.loop-low.low c.loop-low.high (omega arith) _ (halfway c.loop-low.low c.loop-low.high (omega arith)) (good (goal.at.loop-low-preserved c).Else-branch_bad) o)

pub returns : goal.returns
returns c =
    let a = c.args in
    ap Ok c.place_at.ensures ∙ sym (c.loop-low.invariant.2 ∙ halve_end false a.b.now a.key.now c.loop-low.low c.loop-low.high (omega arith))

use Prim.Native.Nat.{ℕ, ◌+◌, ◌/◌}
use Rattle.page.specs.declared.search.Place.{Place}
use mathlib.Core.Path.{sym, ap, ◌∙◌}
use mathlib.Core.Bool.{true, false}
use native.Mathlib.Omega.{arith}
use Rattle.page.proofs.LayoutLaws.{element_room, twice_room}
use Rattle.page.proofs.SearchLaws.{index_found, index_missing, before_equal, up_to_lower, from_higher_on}
use Rattle.page.proofs.search.find.Goals as goal

pub loop-lo-init : goal.loop-lo-init
loop-lo-init c = (omega arith, omega arith, λ k l. absurd (omega arith), λ k l m. absurd (omega arith))

pub overflow_add-mid : goal.overflow_add-mid
overflow_add-mid c =
    let e = c.requires.0 in
    let h = c.loop-lo.invariant.1 in
    omega (arith, twice_room c.args.leaf c.args.b.now c.requires.1.fits)

pub key_order-requires : goal.key_order-requires
key_order-requires c =
    let l = c.loop-lo in
    let mid = (l.lo + l.hi) / 2 in
    let e = c.requires.0 in
    let w = c.requires.1.within mid (omega arith) in
    (element_room c.args.leaf c.args.b.now mid (omega arith) c.requires.1.fits, omega arith)

pub loop-lo-preserved-in-Less : goal.loop-lo-preserved-in-Less
loop-lo-preserved-in-Less c =
    let l = c.loop-lo in
    let e = c.requires.0 in
    let mid = (l.lo + l.hi) / 2 in
    let order = sym c.key_order.ensures ∙ c.in-Less.is in
    let lower = up_to_lower c.args.leaf true c.args.b.now c.requires.1 c.args.key.now mid (omega arith) order in
    (omega arith, omega arith, lower, l.invariant.3)

pub returns-in-Equal : goal.returns-in-Equal
returns-in-Equal c =
    let a = c.args in
    let l = c.loop-lo in
    let mid = (l.lo + l.hi) / 2 in
    let e = c.requires.0 in
    let same = sym c.key_order.ensures ∙ c.in-Equal.is in
    sym (index_found a.leaf a.b.now a.key.now a.n e mid (before_equal a.leaf true a.b.now c.requires.1 a.key.now mid (omega arith) same) (omega arith) same)

pub loop-lo-preserved : goal.loop-lo-preserved
loop-lo-preserved c =
    let l = c.loop-lo in
    let e = c.requires.0 in
    let mid = (l.lo + l.hi) / 2 in
    let order = sym c.key_order.ensures ∙ c.in-Greater.is in
    let higher = from_higher_on c.args.leaf true c.args.b.now c.requires.1 c.args.key.now mid (omega arith) order in
    (omega arith, omega arith, l.invariant.2, λ k q m. higher k q (omega arith))

abbrev absent_at : ℕ → Place
absent_at n = record { at = n; found = false }

pub returns : goal.returns
returns c =
    let a = c.args in
    let l = c.loop-lo in
    ap absent_at c.saturating_sub.ensures
    ∙ sym (index_missing a.leaf a.b.now a.key.now a.n c.requires.0 l.lo l.invariant.2 (omega arith) (λ k q m. l.invariant.3 k (omega arith) m))

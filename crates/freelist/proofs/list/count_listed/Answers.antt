use mathlib.Core.Path.{sym, ap, ◌∙◌}
use native.Mathlib.Omega.{arith}
use lib.ListN.{length}
use Rattle.freelist.proofs.ListLaws.{listing_start, listing_few, count_next, count_skip, count_end}
use Rattle.freelist.proofs.list.count_listed.Goals as goal
use Rattle.freelist.proofs.list.count_listed.Goals.{then-is_listed, else-is_listed}

pub loop-i-init : goal.loop-i-init
loop-i-init c = let a = c.args in omega (arith, ap length (listing_start a.t.now a.n))

pub overflow_add-count : goal.overflow_add-count
overflow_add-count c = let a = c.args in omega (arith, listing_few a.t.now a.n)

pub loop-i-preserved : goal.loop-i-preserved
loop-i-preserved c =
    let a = c.args in
    let l = c.loop-i in
    let f = l.invariant in
    elim c.if-is_listed.branch [
      | then-is_listed w ↦ (omega (arith, count_next a.t.now a.n l.i c.loop-i-test.true (sym c.is_listed.ensures ∙ w.if-is_listed.true)))
      | else-is_listed w ↦ (omega (arith, count_skip a.t.now a.n l.i c.loop-i-test.true (sym c.is_listed.ensures ∙ w.if-is_listed.false)))
    ]

pub returns : goal.returns
returns c =
    let a = c.args in
    let l = c.loop-i in
    let e = count_end a.t.now a.n l.i c.loop-i-test.false in
    (omega (arith, l.invariant), omega (arith, l.invariant, listing_few a.t.now a.n))

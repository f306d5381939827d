use Prim.Native.Nat.{◌+◌}
use mathlib.Core.Path.{◌∙◌}
use native.Mathlib.Omega.{arith}
use Rattle.size.proofs.SizeLaws.{entries_next, entries_none, counted_most, counted_step, counted_end}
use Rattle.size.proofs.add_entries.Goals as goal

pub loop-i-preserved : goal.loop-i-preserved
loop-i-preserved c =
    let a = c.args in
    let l = c.loop-i in
    let n = entries_next a.leaf a.b.now l.i a.to (omega arith) in
    let e = c.entry_size.ensures in
    let m = counted_most (l.total + c.entry_size.result) in
    (omega (arith, c.add_size-total.ensures), counted_step l.total c.entry_size.result _ c.add_size-total.ensures (rw e n) ∙ l.invariant.1)

pub returns : goal.returns
returns c =
    let a = c.args in
    let l = c.loop-i in
    let z = entries_none a.leaf a.b.now l.i a.to (omega arith) in
    counted_end l.total _ l.invariant.0 z ∙ l.invariant.1

-- `field::order::order_of` meets its contract. The loop's invariant: the two are alike before `i`, and so before the last word too, which ends with the shorter.
-- Where two words differ, the lower word is that of the lower key. Assumes nothing.
use Prim.Native.Nat.{◌-◌, ◌≤◌}
use lib.ListN.{length}
use Rattle.field.specs.Order.{common_of}
use Rattle.field.proofs.order.order_of.Given as goal

abbrev pub invariant-loop-i : goal.invariant-loop-i
invariant-loop-i l = (l.i ≤ l.n) × (8 ≤ l.n) × (l.n ≤ length l.a) × (l.n ≤ length l.b) × (l.i ≤ common_of l.a l.b)

abbrev pub decreases-loop-i : goal.decreases-loop-i
decreases-loop-i l = l.n - l.i

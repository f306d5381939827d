-- `field::order::common_of` meets its contract. The loop's invariant: the two are alike before `i`.
-- Assumes nothing.
use Prim.Native.Nat.{◌≤◌}
use Rattle.field.specs.Order.{common_of}
use Rattle.field.proofs.order.common_of.Given as goal

abbrev pub invariant-loop-i : goal.invariant-loop-i
invariant-loop-i l = l.i ≤ common_of l.a l.b

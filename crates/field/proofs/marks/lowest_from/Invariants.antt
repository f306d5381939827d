-- `field::marks::lowest_from` meets its contract. The loop's invariant: the lowest marked page of those that are left is the one that is asked for.
-- Assumes nothing.
use mathlib.Core.Path.{◌≡◌}
use Prim.Native.Nat.{◌-◌}
use Rattle.field.specs.Marks.{lowest_marked}
use Rattle.field.proofs.marks.lowest_from.Given as goal

abbrev pub invariant-loop-at : goal.invariant-loop-at
invariant-loop-at l = lowest_marked l.marks l.at (l.to - l.at) ≡ lowest_marked l.marks l.from (l.to - l.from)

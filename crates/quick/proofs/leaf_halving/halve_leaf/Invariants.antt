-- `quick::leaf_halving::halve_leaf` meets its contract. The loop's invariant: what is left between `low` and `high` comes to what all elements do.
-- The measure is the gap. Assumes nothing.
use mathlib.Core.Path.{◌≡◌}
use mathlib.Core.Bool.{true}
use Prim.Native.Nat.{◌-◌, ◌≤◌}
use Rattle.quick.specs.Halving.{halve, halves_of}
use Rattle.quick.proofs.leaf_halving.halve_leaf.Given as goal

abbrev pub invariant-loop-low : goal.invariant-loop-low
invariant-loop-low l = (l.low ≤ l.high) × (l.high ≤ l.n) × (halves_of true l.b l.key ≡ halve true l.b l.key (l.high - l.low) l.low l.high)

abbrev pub decreases-loop-low : goal.decreases-loop-low
decreases-loop-low l = l.high - l.low

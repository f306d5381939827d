-- `field::marks::mark_pages` meets its contract. The loop's invariant: the marks that are left to set give the set that is promised.
-- Assumes nothing.
use mathlib.Core.Path.{◌≡◌}
use Prim.Native.Nat.{◌-◌, ◌≤◌}
use lib.ListN.{length}
use Rattle.field.specs.Marks.{with_marks}
use Rattle.field.proofs.marks.mark_pages.Given as goal

abbrev pub invariant-loop-at : goal.invariant-loop-at
invariant-loop-at l = (length l.marks ≡ 512) × (l.from ≤ l.at) × (l.at ≤ l.to) × (with_marks l.marks l.at (l.to - l.at) ≡ with_marks l.initial.marks l.from (l.to - l.from))

abbrev pub decreases-loop-at : goal.decreases-loop-at
decreases-loop-at l = l.to - l.at

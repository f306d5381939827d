-- `field::marks::count_marks` meets its contract. The loop's invariant: `n` counts the marked pages of the words so far.
-- Assumes nothing.
use mathlib.Core.Path.{◌≡◌}
use Prim.Native.Nat.{◌*◌}
use Rattle.field.specs.Marks.{count_below}
use Rattle.field.proofs.marks.count_marks.Given as goal

abbrev pub invariant-loop-word : goal.invariant-loop-word
invariant-loop-word l = l.n ≡ count_below l.word-items (64 * l.word-index)

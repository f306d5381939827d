-- `page::leaf_pass::leaf_keeps` meets its contract. The loop's invariant: the pass stands at an element, with the key before it at hand, and what is left decides.
-- Assumes nothing.
use Prim.Native.Nat.{◌+◌, ◌*◌}
use mathlib.Core.Bool.{true}
use Rattle.page.proofs.PassLaws.{Pass}
use Rattle.page.proofs.leaf_pass.leaf_keeps.Given as goal

abbrev pub invariant-loop-i : goal.invariant-loop-i
invariant-loop-i l = Pass true l.b (32 + 32 * l.i) l.start l.stop

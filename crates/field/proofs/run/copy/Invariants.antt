-- `field::run::copy` meets its contract. The loop's invariant: what is left, put at the frontier, gives what is to be. Assumes nothing.
use Prim.Native.Nat.{◌+◌}
use mathlib.Core.Path.{◌≡◌}
use lib.ListN.{length, drop}
use Rattle.field.specs.Run.{put_at}
use Rattle.field.proofs.run.copy.Given as goal

abbrev pub invariant-loop-j : goal.invariant-loop-j
invariant-loop-j l = (length l.out ≡ length l.initial.out) × (put_at l.out (l.at + l.j) (drop l.j l.src) ≡ put_at l.initial.out l.at l.src)

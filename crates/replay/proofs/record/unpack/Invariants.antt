-- The loop's invariant: what is written is within the buffer. The measure is what is left of the packed bytes.
use Rattle.std.proofs.Common.{length, ◌-◌, ◌≤◌}
use Rattle.replay.proofs.record.unpack.Given as goal

abbrev pub invariant-loop-i : goal.invariant-loop-i
invariant-loop-i l = l.n ≤ length l.out

abbrev pub decreases-loop-i : goal.decreases-loop-i
decreases-loop-i l = length l.packed - l.i

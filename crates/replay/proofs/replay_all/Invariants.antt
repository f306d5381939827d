-- The loop needs no invariant. The measure is what is left of the file.
use Rattle.std.proofs.Common.{length, ◌-◌}
use Rattle.replay.proofs.replay_all.Given as goal

abbrev pub decreases-loop-at : goal.decreases-loop-at
decreases-loop-at g l = length l.file - l.at

-- `cuts::write_cuts` meets its contract. The loop's invariant: the cuts after `from`, put where those written end, leave the list that all of them
-- put from the start would leave. The measure is what is left of the entries. Assumes nothing.
use mathlib.Core.Path.{◌≡◌}
use Prim.Native.Nat.{◌+◌, ◌-◌, ◌≤◌}
use lib.ListN.{length}
use Rattle.field.specs.Run.{put_at}
use Rattle.cuts.specs.Run.{cuts_after}
use Rattle.cuts.proofs.write_cuts.Given as goal

abbrev pub invariant-loop-cut : goal.invariant-loop-cut
invariant-loop-cut l =
    (l.from ≤ l.end) × (length l.cuts ≡ length l.initial.cuts) × (l.at + length (cuts_after l.leaf l.t l.b l.end l.from) ≤ length l.cuts)
    × (put_at l.cuts l.at (cuts_after l.leaf l.t l.b l.end l.from) ≡ put_at l.initial.cuts 0 (cuts_after l.leaf l.t l.b l.end 0))

abbrev pub decreases-loop-cut : goal.decreases-loop-cut
decreases-loop-cut l = l.end - l.from

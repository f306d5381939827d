-- `cuts::count_cuts` meets its contract. The loop's invariant: the cuts made, and those after `c`, are as many as all. The measure is what is
-- left of the entries. Assumes nothing.
use mathlib.Core.Path.{◌≡◌}
use Prim.Native.Nat.{◌+◌, ◌-◌, ◌≤◌}
use lib.ListN.{length}
use Rattle.cuts.specs.Run.{cuts_after}
use Rattle.cuts.proofs.count_cuts.Given as goal

abbrev pub invariant-loop-next : goal.invariant-loop-next
invariant-loop-next l =
    (l.c ≤ l.end) × (l.made ≤ l.c) × (l.made + length (cuts_after l.leaf l.t l.b l.end l.c) ≡ length (cuts_after l.leaf l.t l.b l.end 0))

abbrev pub decreases-loop-next : goal.decreases-loop-next
decreases-loop-next l = l.end - l.c

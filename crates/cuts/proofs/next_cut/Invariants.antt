-- `cuts::next_cut` meets its contract. The loop's invariant: the run from entry `i` on, with the sum so far and a count of those since `c`, makes
-- the cuts that come after `c`. Assumes nothing.
use mathlib.Core.Path.{◌≡◌}
use Prim.Native.Nat.{◌-◌}
use Rattle.pack.specs.Plan.{range}
use Rattle.cuts.specs.Split.{cuts_from}
use Rattle.cuts.specs.Run.{cuts_after}
use Rattle.cuts.proofs.next_cut.Given as goal

abbrev pub invariant-loop-i : goal.invariant-loop-i
invariant-loop-i l = cuts_from l.leaf l.t l.i l.sum (l.i - l.c) (range l.leaf l.b l.i l.end) ≡ cuts_after l.leaf l.t l.b l.end l.c

-- `freelist::list::count_listed` meets its contract. The loop's invariant: what was counted and what is left from page i on are the listing.
-- Assumes nothing.
use mathlib.Core.Path.{◌≡◌}
use Prim.Native.Nat.{◌+◌}
use lib.ListN.{length}
use Rattle.freelist.specs.Freelist.{listing}
use Rattle.freelist.proofs.ListLaws.{listed_from}
use Rattle.freelist.proofs.list.count_listed.Given as goal

abbrev pub invariant-loop-i : goal.invariant-loop-i
invariant-loop-i l = l.count + length (listed_from l.t l.n l.i) ≡ length (listing l.t l.n)

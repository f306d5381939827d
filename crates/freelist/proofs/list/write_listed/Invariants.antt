-- `freelist::list::write_listed` meets its contract. The loop's invariant: there is room for what is left from page i on, and writing it at
-- `at` gives the list that is promised. Assumes nothing.
use mathlib.Core.Path.{◌≡◌}
use Prim.Native.Nat.{◌+◌, ◌≤◌}
use lib.ListN.{length}
use Rattle.field.specs.Run.{put_at}
use Rattle.freelist.specs.Freelist.{listing}
use Rattle.freelist.proofs.ListLaws.{listed_from}
use Rattle.freelist.proofs.list.write_listed.Given as goal

abbrev pub invariant-loop-i : goal.invariant-loop-i
invariant-loop-i l =
    (l.at + length (listed_from l.t l.n l.i) ≤ length l.initial.ids) × (put_at l.ids l.at (listed_from l.t l.n l.i) ≡ put_at l.initial.ids 0 (listing l.t l.n))

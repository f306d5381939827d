-- `split::fits` meets its contract. The loop's invariant: the pieces that are left fit in what is left of the room if all fit in all of it.
-- Assumes nothing.
use mathlib.Core.Path.{◌≡◌}
use Prim.Native.Nat.{◌-◌, ◌≤◌}
use lib.Dec.{leb}
use Rattle.page.specs.Layout.{count_of}
use Rattle.cuts.specs.Run.{pieces_after}
use Rattle.split.specs.Write.{bytes_in, capped_spans}
use Rattle.split.proofs.fits.Given as goal

abbrev pub invariant-loop : goal.invariant-loop
invariant-loop l =
    (l.c ≤ count_of l.b)
    × (leb (bytes_in l.p (capped_spans l.leaf l.p (pieces_after l.leaf l.t l.b l.end (l.pieces - l.counter) l.c))) l.rest ≡ leb (bytes_in l.p (capped_spans l.leaf l.p (pieces_after l.leaf l.t l.b l.end l.pieces 0))) l.room)

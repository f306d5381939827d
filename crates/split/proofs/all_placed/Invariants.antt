-- `split::all_placed` meets its contract. The loop's invariant: the pass over the rest of the list and the pieces from `c` on, with these marks,
-- finds whether all are placed. Assumes nothing.
use mathlib.Core.Path.{◌≡◌}
use Prim.Native.Nat.{◌-◌, ◌≤◌}
use lib.ListN.{length, drop}
use Rattle.page.specs.Layout.{count_of}
use Rattle.cuts.specs.Run.{pieces_after}
use Rattle.split.specs.Write.{placed, capped_spans}
use Rattle.split.proofs.PlacedLaws.{placed_in}
use Rattle.split.proofs.all_placed.Given as goal

abbrev pub invariant-loop-page : goal.invariant-loop-page
invariant-loop-page l =
    (l.c ≤ count_of l.b)
    × (length l.marks ≡ 512)
    × (placed_in l.n l.marks (drop l.page-index l.pages) (capped_spans l.leaf l.p (pieces_after l.leaf l.t l.b l.end (length l.pages - l.page-index) l.c))
    ≡ placed l.n l.pages (capped_spans l.leaf l.p (pieces_after l.leaf l.t l.b l.end (length l.pages) 0)))

-- `split::write_pieces` meets its contract. The loop's invariant: the packed pieces from `c` on, put at `at`, leave what all of them put from the
-- start would leave. Assumes nothing.
use mathlib.Core.Path.{◌≡◌}
use Prim.Native.Nat.{◌+◌, ◌-◌, ◌≤◌}
use lib.ListN.{length, drop}
use Rattle.field.specs.Run.{put_at}
use Rattle.page.specs.Layout.{count_of}
use Rattle.cuts.specs.Run.{pieces_after}
use Rattle.split.specs.Write.{spans_of, bytes_in, pack_all}
use Rattle.split.proofs.write_pieces.Given as goal

abbrev pub invariant-loop-id : goal.invariant-loop-id
invariant-loop-id l =
    (l.c ≤ count_of l.b) × (length l.out ≡ length l.initial.out)
    × (l.at + bytes_in l.p (spans_of l.leaf l.p (pieces_after l.leaf l.t l.b l.end (length l.pages - l.id-index) l.c)) ≡ bytes_in l.p (spans_of l.leaf l.p (pieces_after l.leaf l.t l.b l.end (length l.pages) 0)))
    × (put_at l.out l.at (pack_all l.leaf l.p (drop l.id-index l.pages) (pieces_after l.leaf l.t l.b l.end (length l.pages - l.id-index) l.c))
    ≡ put_at l.initial.out 0 (pack_all l.leaf l.p l.pages (pieces_after l.leaf l.t l.b l.end (length l.pages) 0)))

-- `pack::write::copy_table` meets its contract. The loop's invariant: the elements that are left, put at the frontier, give what is to be.
-- Assumes nothing.
use Prim.Native.Nat.{◌+◌, ◌-◌, ◌*◌, ◌≤◌}
use mathlib.Core.Path.{◌≡◌}
use lib.ListN.{length}
use Rattle.field.specs.Run.{put_at}
use Rattle.page.specs.Layout.{element_size}
use Rattle.pack.specs.Pack.{table, bodies}
use Rattle.pack.specs.Plan.{range}
use Rattle.pack.proofs.write.copy_table.Given as goal

abbrev pub invariant-loop-i : goal.invariant-loop-i
invariant-loop-i l =
    (length l.out ≡ length l.initial.out) × (l.w + element_size l.leaf * (l.to - l.i) ≤ l.e)
    × (l.e + length (bodies (range l.leaf l.block l.i l.to)) ≡ l.d + length (bodies (range l.leaf l.block l.from l.to)))
    × (put_at l.out l.w (table l.leaf l.w l.e (range l.leaf l.block l.i l.to)) ≡ put_at l.initial.out l.at (table l.leaf l.at l.d (range l.leaf l.block l.from l.to)))

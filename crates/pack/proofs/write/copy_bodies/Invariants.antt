-- `pack::write::copy_bodies` meets its contract. The loop's invariant: the keys and values that are left, put at the frontier, give what is to be.
-- Assumes nothing.
use Prim.Native.Nat.{◌+◌, ◌-◌, ◌≤◌}
use mathlib.Core.Path.{◌≡◌}
use lib.ListN.{length}
use Rattle.field.specs.Run.{put_at}
use Rattle.pack.specs.Pack.{bodies}
use Rattle.pack.specs.Plan.{range}
use Rattle.pack.proofs.write.copy_bodies.Given as goal

abbrev pub invariant-loop-i : goal.invariant-loop-i
invariant-loop-i l =
    (l.i ≤ l.to) × (length l.out ≡ length l.initial.out)
    × (l.w + length (bodies (range l.leaf l.block l.i l.to)) ≡ l.at + length (bodies (range l.leaf l.block l.from l.to)))
    × (put_at l.out l.w (bodies (range l.leaf l.block l.i l.to)) ≡ put_at l.initial.out l.at (bodies (range l.leaf l.block l.from l.to)))

abbrev pub decreases-loop-i : goal.decreases-loop-i
decreases-loop-i l = l.to - l.i

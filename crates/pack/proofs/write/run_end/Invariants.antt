-- `pack::write::run_end` meets its contract. The loop's invariant: the keys and values so far are one part of the block, up to `end`.
-- Assumes nothing.
use Prim.Native.Nat.{◌-◌, ◌≤◌}
use mathlib.Core.Path.{◌≡◌}
use lib.ListN.{take, drop}
use Rattle.page.specs.Layout.{key_at, value_end}
use Rattle.pack.specs.Pack.{bodies}
use Rattle.pack.specs.Plan.{range}
use Rattle.pack.proofs.write.run_end.Given as goal

abbrev pub invariant-loop-i : goal.invariant-loop-i
invariant-loop-i l =
    (l.end ≡ value_end l.leaf l.block (l.i - 1)) × (key_at l.leaf l.block l.from ≤ l.end)
    × (bodies (range l.leaf l.block l.from l.i) ≡ take (l.end - key_at l.leaf l.block l.from) (drop (key_at l.leaf l.block l.from) l.block))

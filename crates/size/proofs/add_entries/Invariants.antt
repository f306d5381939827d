-- `size::add_entries` meets its contract. The loop's invariant: the total, with the entries from `i` on, counts what the sum does with all of them.
-- Assumes nothing.
use Prim.Native.Nat.{◌+◌, ◌≤◌}
use mathlib.Core.Path.{◌≡◌}
use Rattle.pack.specs.Plan.{range}
use Rattle.size.specs.Size.{node_limit, capped_size, entries_size}
use Rattle.size.proofs.add_entries.Given as goal

abbrev pub invariant-loop-i : goal.invariant-loop-i
invariant-loop-i l =
    (l.total ≤ node_limit + 1) × (capped_size (l.total + entries_size l.leaf (range l.leaf l.b l.i l.to)) ≡ capped_size (l.sum + entries_size l.leaf (range l.leaf l.b l.from l.to)))

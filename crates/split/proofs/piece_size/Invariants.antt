-- `split::piece_size` meets its contract. The loop's invariant: the sum with the node size of the entries from `k` on, 40 of them counted twice,
-- is the node size of all, up to the cap. Assumes nothing.
use mathlib.Core.Path.{◌≡◌}
use Prim.Native.Nat.{◌+◌, ◌≤◌, min}
use Rattle.pack.specs.Pack.{node_size}
use Rattle.pack.specs.Plan.{range}
use Rattle.split.proofs.piece_size.Given as goal

abbrev pub invariant-loop-k : goal.invariant-loop-k
invariant-loop-k l =
    (l.sum ≤ 2147483649) × (min (l.sum + node_size l.leaf (range l.leaf l.b l.k l.j)) 2147483689 ≡ min (40 + node_size l.leaf (range l.leaf l.b l.i l.j)) 2147483689)

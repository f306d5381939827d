-- `cursor::follow::follow` meets its contract. The loop's invariant: whether the whole path stands is whether what is left of it does, from `q` on.
-- Assumes nothing.
use mathlib.Core.Path.{◌≡◌}
use mathlib.Core.Bool.{true}
use Prim.Native.Nat.{◌-◌, ◌≤◌}
use lib.Dec.{eqb}
use lib.ListN.{take, drop}
use Rattle.path.specs.Path.{follow}
use Rattle.view.specs.View.{view_of}
use Rattle.cursor.specs.Working.{followed_of}
use Rattle.cursor.proofs.follow.follow.Given as goal

abbrev pub invariant-loop-k : goal.invariant-loop-k
invariant-loop-k l =
    (l.length ≤ 16)
    × (followed_of (follow l.n (view_of l.image l.p l.n) 16 true l.root (take l.length l.steps))
    ≡ followed_of (follow l.n (view_of l.image l.p l.n) (16 - l.k) (eqb l.k 0) l.q (drop l.k (take l.length l.steps))))

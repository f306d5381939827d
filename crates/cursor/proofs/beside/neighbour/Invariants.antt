-- `cursor::beside::neighbour` meets its contract. The loop's invariant: from `level` on down the path has nothing beside it.
-- Assumes nothing.
use mathlib.Core.Path.{◌≡◌}
use Prim.Native.Nat.{◌-◌}
use lib.Dec.{eqb}
use lib.ListN.{drop}
use Rattle.path.specs.Path.{end, neighbour}
use Rattle.view.specs.View.{view_of}
use Rattle.cursor.specs.Cursor.{path_of}
use Rattle.cursor.specs.Working.{page_at}
use Rattle.cursor.proofs.beside.neighbour.Given as goal

abbrev pub invariant-loop-k : goal.invariant-loop-k
invariant-loop-k l =
    neighbour l.n (view_of l.image l.p l.n) l.way (16 - l.k) (eqb l.k 0) (page_at l.c l.k) (drop l.k (path_of l.c)) ≡ end

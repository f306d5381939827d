-- `cursor::outer::outer` meets its contract. The loop's invariant: the descent from the page given, below its path, is the descent from `q`, below the
-- steps made so far, and the steps after these are zero. Assumes nothing.
use mathlib.Core.Path.{◌≡◌}
use Prim.Native.Nat.{◌-◌}
use lib.Dec.{eqb}
use lib.ListN.{take}
use Rattle.path.specs.Path.{outer}
use Rattle.view.specs.View.{view_of}
use Rattle.cursor.specs.Working.{Clear, under}
use Rattle.cursor.proofs.outer.outer.Given as goal

abbrev pub invariant-loop-level : goal.invariant-loop-level
invariant-loop-level l =
    Clear l.steps l.level
    × (under (take l.initial.level l.initial.steps) (outer l.n (view_of l.image l.p l.n) l.way (16 - l.initial.level) (eqb l.initial.level 0) l.page)
    ≡ under (take l.level l.steps) (outer l.n (view_of l.image l.p l.n) l.way (16 - l.level) (eqb l.level 0) l.q))

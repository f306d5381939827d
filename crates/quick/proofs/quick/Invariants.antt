-- `quick::quick` meets its contract. The loop's invariant: the descent from the root with all levels is the descent from `q` with those that are left at this depth.
-- Assumes nothing.
use mathlib.Core.Path.{◌≡◌}
use mathlib.Core.Bool.{true}
use Prim.Native.Nat.{◌-◌}
use lib.Dec.{eqb}
use Rattle.lookup.specs.Descent.{descend}
use Rattle.quick.specs.Quick.{page_says}
use Rattle.quick.proofs.quick.Given as goal

abbrev pub invariant-loop-depth : goal.invariant-loop-depth
invariant-loop-depth l =
    descend l.n (page_says l.image l.p l.n l.key) 16 true l.root ≡ descend l.n (page_says l.image l.p l.n l.key) (16 - l.depth) (eqb l.depth 0) l.q

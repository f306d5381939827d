-- Lists of runs: what holds of each run of two lists, and how many bytes there are in both.
-- Assumes nothing.
use mathlib.Core.Path.{◌≡◌}
use mathlib.Core.List.{List, [], ◌∷◌, ◌++◌}
use Prim.Native.Nat.{◌+◌}
use native.Mathlib.Omega.{arith}
use Rattle.walk.specs.Tree.{Every}
use Rattle.reads.specs.Reads.{Run, total}

-- what holds of each element of two lists, one after the other, holds of each of either
pub every_split : {A : Type 0} (Q : A → Type 0) (xs ys : List A) → Every Q (xs ++ ys) → Every Q xs × Every Q ys
every_split Q [] ys h = (tt, h)
every_split Q (x ∷ xs) ys h = let r = every_split Q xs ys h.1 in ((h.0, r.0), r.1)

-- the runs of two lists have in all as many bytes as those of the one and those of the other
pub total-append : (rs ss : List Run) → total (rs ++ ss) ≡ total rs + total ss
unfolding total
total-append [] ss = omega arith
total-append (r ∷ rs) ss = omega (arith, total-append rs ss)

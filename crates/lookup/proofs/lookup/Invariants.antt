-- `lookup::lookup` meets its contract. The loop's invariant: the descent from the root with all levels is the descent from `q` with those that are left at this depth.
-- Assumes nothing.
use mathlib.Core.Path.{◌≡◌}
use mathlib.Core.Bool.{Bool, true}
use mathlib.Core.List.{List}
use Prim.Native.Nat.{ℕ, ◌-◌}
use lib.Dec.{eqb}
use Rattle.walk.specs.Tree.{Key}
use Rattle.view.specs.View.{view_of}
use Rattle.lookup.specs.Step.{step_of}
use Rattle.lookup.specs.Descent.{Stepped, descend}
use Rattle.lookup.proofs.lookup.Given as goal

-- what a page says of a key
abbrev pub says : List ℕ → ℕ → ℕ → Key → ℕ → Bool → Stepped
says image p n key q t = step_of (view_of image p n q t) key

abbrev pub invariant-loop-depth : goal.invariant-loop-depth
invariant-loop-depth l =
    descend l.n (says l.image l.p l.n l.key) 16 true l.root ≡ descend l.n (says l.image l.p l.n l.key) (16 - l.depth) (eqb l.depth 0) l.q

-- The judge: geometry, then the tree.
-- Assumes nothing.
use mathlib.Core.Path.{◌≡◌}
use mathlib.Core.Bool.{true, false}
use mathlib.Core.List.{List, []}
use mathlib.Core.Option.{none}
use Prim.Native.Nat.{ℕ}
use Rattle.std.specs.Prelude.{Err}
use Rattle.field.specs.declared.refusal.Refusal.TheVariants.{Geometry}
use Rattle.walk.specs.Tree.{walk}
use Rattle.view.specs.Geometry.{geometry_bad}
use Rattle.view.specs.Fault.{fault_at}
use Rattle.view.specs.View.{view_of, pages_of}
use Rattle.judge.specs.Judge.{after_tree, judge_of}

module _ (image : List ℕ) (P N root f : ℕ) where
  pub judge_geometry : geometry_bad image P N ≡ true → judge_of image P N root f ≡ Err (fault_at Geometry 0 0 0)
  unfolding judge_of
  judge_geometry e = rw e

  pub judge_tree : geometry_bad image P N ≡ false → judge_of image P N root f ≡ after_tree image P N f (walk N (pages_of image P N) (view_of image P N) 16 true root [] none [])
  unfolding judge_of
  judge_tree e = rw e

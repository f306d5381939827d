-- One page of the descent to the outermost entry, over any view.
-- Assumes nothing.
use mathlib.Core.Path.{◌≡◌, refl, sym}
use mathlib.Core.Bool.{Bool, true, false}
use mathlib.Core.List.{List, [], ◌∷◌}
use mathlib.Core.Option.{some}
use Prim.Native.Nat.{ℕ, suc, ◌+◌, ◌-◌, ◌≤◌, ◌<◌}
use native.Mathlib.Omega.{arith}
use borrow.Author.Tests.{eqb-true}
use lib.Dec.{eqb}
use lib.ListN.{length}
use Rattle.walk.specs.Tree.{Item, View, bad, branch, leaf}
use Rattle.path.specs.declared.Direction.{Direction}
use Rattle.path.specs.declared.Direction.TheVariants.{Onward, Back}
use Rattle.path.specs.Path.{step, nth, placed, outermost, at, end, refused, below, met, outer}
use Rattle.cursor.specs.Working.{edge_of}
use Rattle.cursor.proofs.MetLaws.{nth_none}
use Rattle.field.specs.declared.refusal.Refusal.TheVariants.{TooDeep}
use Rattle.field.specs.declared.refusal.Refusal.{Refusal}

-- a level below the root's
pub not_first : (k : ℕ) → eqb (k + 1) 0 ≡ false
not_first k = go (eqb (k + 1) 0) refl
  where
    go : (t : Bool) → eqb (k + 1) 0 ≡ t → t ≡ false
    go true e = absurd (let x = eqb-true (k + 1) 0 e in omega arith)
    go false e = refl

-- the outermost element, by its index
pub outermost_is : {A : Type 0} (way : Direction) (xs : List A) → outermost way xs ≡ placed (edge_of way (length xs)) (nth xs (edge_of way (length xs)))
unfolding outermost
outermost_is Onward xs = refl
outermost_is Back xs = refl

module _ {P : Type 0} (N : ℕ) (view : ℕ → Bool → View P) (way : Direction) (level q : ℕ) (within : level < 16) where
  left : 16 - level ≡ suc (16 - (level + 1))
  left = omega arith

  pub outer_bad : (r : Refusal) (e c : ℕ) → met N view q (eqb level 0) ≡ bad r e c → outer N view way (16 - level) (eqb level 0) q ≡ refused r q e c
  unfolding outer
  outer_bad r e c m = rw (left, m)

  pub outer_branch : (cs : List (Item ℕ)) (c : Item ℕ) (i child : ℕ) → met N view q (eqb level 0) ≡ branch cs → i ≡ edge_of way (length cs) → nth cs i ≡ some c → child ≡ c.value
      → outer N view way (16 - level) (eqb level 0) q ≡ below (step q i) (outer N view way (16 - (level + 1)) (eqb (level + 1) 0) child)
  unfolding outer
  outer_branch cs c i child m j e f = rw (left, m, outermost_is way cs, sym j, e, not_first level, f)

  pub outer_leaf : (es : List (Item P)) (x : Item P) (i : ℕ) → met N view q (eqb level 0) ≡ leaf es → i ≡ edge_of way (length es) → nth es i ≡ some x
      → outer N view way (16 - level) (eqb level 0) q ≡ at (step q i ∷ []) x
  unfolding outer
  outer_leaf es x i m j e = rw (left, m, outermost_is way es, sym j, e)

  pub outer_empty : (es : List (Item P)) → met N view q (eqb level 0) ≡ leaf es → length es ≡ 0 → outer N view way (16 - level) (eqb level 0) q ≡ end
  unfolding outer
  outer_empty es m z = rw (left, m, outermost_is way es, nth_none es (edge_of way (length es)) (omega arith))

pub outer_deep : {P : Type 0} (N : ℕ) (view : ℕ → Bool → View P) (way : Direction) (level : ℕ) (top : Bool) (q : ℕ) → 16 ≤ level
    → outer N view way (16 - level) top q ≡ refused TooDeep q 0 0
unfolding outer
outer_deep N view way level top q l = let e : 16 - level ≡ 0 = omega arith in rw e

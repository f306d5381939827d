-- One page of a path that is followed, over any view.
-- Assumes nothing.
use mathlib.Core.Path.{◌≡◌, refl}
use mathlib.Core.Bool.{Bool, true, false}
use mathlib.Core.List.{List, [], ◌∷◌}
use mathlib.Core.Option.{none, some}
use Prim.Native.Nat.{ℕ, suc, ◌+◌, ◌-◌, ◌<◌}
use native.Mathlib.Omega.{arith}
use lib.Dec.{eqb}
use Rattle.walk.specs.Tree.{Item, View, bad, branch, leaf}
use Rattle.path.specs.declared.Step.{Step}
use Rattle.path.specs.Path.{step, nth, Move, at, refused, lacking, below, met, follow}
use Rattle.view.specs.declared.Value.{Value}
use Rattle.cursor.specs.Working.{followed_of}
use Rattle.cursor.proofs.OuterLaws.{not_first}
use Rattle.field.specs.declared.refusal.Refusal.{Refusal}

-- a step more or less on the way does not change whether a path stands
pub followed_below : (s : Step) (m : Move Value) → followed_of (below s m) ≡ followed_of m
followed_below s (at path e) = refl
followed_below s Rattle.path.specs.Path.end = refl
followed_below s (refused r p e c) = refl

module _ {P : Type 0} (N : ℕ) (view : ℕ → Bool → View P) (k q : ℕ) (within : k < 16) (s : Step) (rest : List Step) where
  left : 16 - k ≡ suc (16 - (k + 1))
  left = omega arith

  pub follow_astray : eqb s.page q ≡ false → follow N view (16 - k) (eqb k 0) q (s ∷ rest) ≡ lacking
  unfolding follow
  follow_astray f = rw (left, f)

  module _ (same : eqb s.page q ≡ true) where
    pub follow_bad : (r : Refusal) (e c : ℕ) → met N view q (eqb k 0) ≡ bad r e c → follow N view (16 - k) (eqb k 0) q (s ∷ rest) ≡ refused r q e c
    unfolding follow
    follow_bad r e c m = rw (left, same, m)

    pub follow_branch : (cs : List (Item ℕ)) (c : Item ℕ) (child : ℕ) → met N view q (eqb k 0) ≡ branch cs → nth cs s.index ≡ some c → child ≡ c.value
        → follow N view (16 - k) (eqb k 0) q (s ∷ rest) ≡ below (step q s.index) (follow N view (16 - (k + 1)) (eqb (k + 1) 0) child rest)
    unfolding follow
    follow_branch cs c child m n e = rw (left, same, m, n, not_first k, e)

    pub follow_no_child : (cs : List (Item ℕ)) → met N view q (eqb k 0) ≡ branch cs → nth cs s.index ≡ none
        → follow N view (16 - k) (eqb k 0) q (s ∷ rest) ≡ lacking
    unfolding follow
    follow_no_child cs m n = rw (left, same, m, n)

    pub follow_no_entry : (es : List (Item P)) → met N view q (eqb k 0) ≡ leaf es → nth es s.index ≡ none
        → follow N view (16 - k) (eqb k 0) q (s ∷ rest) ≡ lacking
    unfolding follow
    follow_no_entry es m n = rw (left, same, m, n)

    pub follow_long : (es : List (Item P)) (e : Item P) (t : Step) (more : List Step) → met N view q (eqb k 0) ≡ leaf es → nth es s.index ≡ some e → rest ≡ t ∷ more
        → follow N view (16 - k) (eqb k 0) q (s ∷ rest) ≡ lacking
    unfolding follow
    follow_long es e t more m n r = rw (left, same, m, n, r)

    pub follow_leaf_lem : (es : List (Item P)) (e : Item P) → met N view q (eqb k 0) ≡ leaf es → nth es s.index ≡ some e → rest ≡ []
        → follow N view (16 - k) (eqb k 0) q (s ∷ rest) ≡ at (step q s.index ∷ []) e
    unfolding follow
    follow_leaf_lem es e m n r = rw (left, same, m, n, r)

pub follow_none : {P : Type 0} (N : ℕ) (view : ℕ → Bool → View P) (d : ℕ) (top : Bool) (q : ℕ) → follow N view d top q [] ≡ lacking
unfolding follow
follow_none N view d top q = refl

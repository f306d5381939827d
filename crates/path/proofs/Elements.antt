-- The elements of a page: what `beside`, `outermost`, `leading` and `not_below` name is there.
-- Assumes nothing.
use Prim.Native.Nat.{ℕ, zero, suc, ◌+◌, ◌-◌}
use native.Mathlib.Omega.{arith}
use mathlib.Core.Path.{◌≡◌, refl}
use mathlib.Core.List.{List, [], ◌∷◌}
use mathlib.Core.Bool.{Bool, true, false, cond}
use mathlib.Core.Option.{Option, none, some}
use lib.ListN.{length}
use Rattle.walk.specs.Tree.{Key, lower, under, Item, At, next}
use Rattle.path.specs.declared.Direction.{Direction}
use Rattle.path.specs.declared.Direction.TheVariants.{Onward, Back}
use Rattle.path.specs.Path.{Placed, placed, nth, beside, outermost, not_below, leading}

module _ {A : Type 0} where
  -- an element, if any, is the one of its index
  abbrev pub There : List A → Option (Placed A) → Type 0
  There xs none = Unit
  There xs (some x) = nth xs x.index ≡ some x.item

  -- xs is what is left of a list from index k on
  abbrev pub Rest : List A → ℕ → List A → Type 0
  Rest all k xs = (j : ℕ) → nth all (j + k) ≡ nth xs j

  pub rest_whole : (xs : List A) → Rest xs 0 xs
  rest_whole xs j = let e : j + 0 ≡ j = omega arith in rw e

  pub rest_head : (all : List A) (k : ℕ) (x : A) (xs : List A) → Rest all k (x ∷ xs) → nth all k ≡ some x
  unfolding nth
  rest_head all k x xs r = let e : 0 + k ≡ k = omega arith in rw e at (r 0)

  pub rest_tail : (all : List A) (k : ℕ) (x : A) (xs : List A) → Rest all k (x ∷ xs) → Rest all (suc k) xs
  unfolding nth
  rest_tail all k x xs r j = let e : j + suc k ≡ suc j + k = omega arith in rw e (r (suc j))

  pub nth_at : (xs : List A) (i : ℕ) (x : A) → nth xs i ≡ some x → At xs i x
  unfolding nth
  nth_at [] i x e = absurd cc
  nth_at (y ∷ ys) zero x e = cc
  nth_at (y ∷ ys) (suc i) x e = nth_at ys i x e

  placed_there : (xs : List A) (i : ℕ) → There xs (placed i (nth xs i))
  placed_there xs i = go (nth xs i) refl
    where
      go : (o : Option A) → nth xs i ≡ o → There xs (placed i o)
      go none e = tt
      go (some x) e = e

  pub outermost_there : (way : Direction) (xs : List A) → There xs (outermost way xs)
  unfolding outermost
  outermost_there Onward xs = search placed_there
  outermost_there Back xs = search placed_there

  pub beside_there : (way : Direction) (xs : List A) (i : ℕ) → There xs (beside way xs i)
  unfolding beside
  beside_there way xs i = go way i (placed_there xs)
    where
      go : (way : Direction) (i : ℕ) → ((j : ℕ) → There xs (placed j (nth xs j))) → There xs (beside way xs i)
      go Onward i h = search
      go Back zero h = search
      go Back (suc i) h = search

  -- going back from behind the last element comes to it
  pub beside_end : (xs : List A) → beside Back xs (length xs) ≡ outermost Back xs
  unfolding beside outermost nth
  beside_end [] = refl
  beside_end (x ∷ xs) = let e : length (x ∷ xs) - 1 ≡ length xs = omega arith in rw e

pub not_below_there : {P : Type 0} (all es : List (Item P)) (key : Key) (k : ℕ) → Rest all k es → There all (not_below es key k)
unfolding not_below
not_below_there all [] key k r = tt
not_below_there all (e ∷ es) key k r = go (lower e.key key) (not_below_there all es key (suc k) (rest_tail all k e es r))
  where
    go : (b : Bool) → There all (not_below es key (suc k)) → There all (cond b (not_below es key (suc k)) (placed k (some e)))
    go true h = h
    go false h = rest_head all k e es r

pub leading_there : (all cs : List (Item ℕ)) (key : Key) (k : ℕ) → Rest all k cs → There all (leading cs key k)
unfolding leading
leading_there all [] key k r = tt
leading_there all (c ∷ cs) key k r = go (under key (next cs none)) (leading_there all cs key (suc k) (rest_tail all k c cs r))
  where
    go : (b : Bool) → There all (leading cs key (suc k)) → There all (cond b (placed k (some c)) (leading cs key (suc k)))
    go true h = rest_head all k c cs r
    go false h = h

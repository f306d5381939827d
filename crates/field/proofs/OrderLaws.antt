-- The laws of the keys' order: Equal is equality, Less is transitive and not reflexive, and Less one way is Greater the other.
-- Below them, what a loop that compares from the front has to know of two lists from index i on.
-- Assumes nothing.
use Prim.Native.Nat.{ℕ, ◌+◌, ◌<◌, ◌≤◌}
use native.Mathlib.Numerals.{add-one}
use native.Mathlib.Omega.{arith}
use mathlib.Core.Path.{◌≡◌, refl, sym, ap, ◌∙◌}
use mathlib.Core.List.{List, [], ◌∷◌}
use mathlib.Core.Bool.{Bool, true, false}
use mathlib.Core.Logic.{◌⊎◌, inl, inr, ⊎_elim, ◌↔◌}
use lib.Dec.{ltb}
use lib.ListN.{length, get_or, drop, drop_of_length-le}
use lib.Seq.{drop-cons}
use borrow.Author.Tests.{lt-ltb, le-ltb, ltb-true, ltb-false}
use Rattle.std.specs.declared.cmp.Ordering.{Ordering}
use Rattle.std.specs.declared.cmp.Ordering.TheVariants.{Less, Equal, Greater}
use Rattle.field.specs.Order.{order_of}
use Rattle.std.specs.Ordering.{is_lt, is_eq}

-- ---- what the tests of an order tell
pub is_lt_lem : (o : Ordering) → is_lt o ≡ true → o ≡ Less
is_lt_lem Less e = refl
is_lt_lem Equal e = cc
is_lt_lem Greater e = cc

pub is_eq_lem : (o : Ordering) → is_eq o ≡ true → o ≡ Equal
is_eq_lem Less e = cc
is_eq_lem Equal e = refl
is_eq_lem Greater e = cc

-- ---- a first byte decides, or the rest does
pub head_lower : (x y : ℕ) (xs ys : List ℕ) → x < y → order_of (x ∷ xs) (y ∷ ys) ≡ Less
unfolding order_of
head_lower x y xs ys h = simp (lt-ltb x y h)

pub head_higher : (x y : ℕ) (xs ys : List ℕ) → y < x → order_of (x ∷ xs) (y ∷ ys) ≡ Greater
unfolding order_of
head_higher x y xs ys h =
    let l : y ≤ x = omega arith in
    simp (le-ltb x y l, lt-ltb y x h)

pub head_same : (x y : ℕ) (xs ys : List ℕ) → x ≡ y → order_of (x ∷ xs) (y ∷ ys) ≡ order_of xs ys
unfolding order_of
head_same x y xs ys h =
    let l : y ≤ x = omega arith in
    let m : x ≤ y = omega arith in
    simp (le-ltb x y l, le-ltb y x m)

-- the three ways in which two bytes stand
pub data Ways (x y : ℕ) : Type 0 where
  less : x < y → Ways x y
  same : x ≡ y → Ways x y
  more : y < x → Ways x y

pub ways : (x y : ℕ) → Ways x y
ways x y = go (ltb x y) (ltb y x) refl refl
  where
    go : (t u : Bool) → ltb x y ≡ t → ltb y x ≡ u → Ways x y
    go true u p q = less (ltb-true x y p)
    go false true p q = more (ltb-true y x q)
    go false false p q =
        let l : y ≤ x = ltb-false x y p in
        let m : x ≤ y = ltb-false y x q in
        same (omega arith)

-- ---- Equal is equality
pub order_refl : (a : List ℕ) → order_of a a ≡ Equal
unfolding order_of
order_refl [] = refl
order_refl (x ∷ xs) = head_same x x xs xs refl ∙ order_refl xs

pub order_equal : (a b : List ℕ) → order_of a b ≡ Equal → a ≡ b
unfolding order_of
order_equal [] [] e = refl
order_equal [] (y ∷ ys) e = absurd (let z : ◌≡◌ {A = ℕ} 0 1 = cc in omega arith)
order_equal (x ∷ xs) [] e = absurd (let z : ◌≡◌ {A = ℕ} 0 1 = cc in omega arith)
order_equal (x ∷ xs) (y ∷ ys) e = go (order_equal xs ys) (ways x y)
  where
    go : (order_of xs ys ≡ Equal → xs ≡ ys) → Ways x y → x ∷ xs ≡ y ∷ ys
    go ih (less h) = absurd (let f = head_lower x y xs ys h in let z : ◌≡◌ {A = ℕ} 0 1 = cc in omega arith)
    go ih (same h) = let t = ih (sym (head_same x y xs ys h) ∙ e) in cc
    go ih (more h) = absurd (let f = head_higher x y xs ys h in let z : ◌≡◌ {A = ℕ} 0 1 = cc in omega arith)

pub equal_iff : (a b : List ℕ) → (order_of a b ≡ Equal) ↔ (a ≡ b)
equal_iff a b = (order_equal a b, λ e. ap (order_of a) (sym e) ∙ order_refl a)

-- ---- the other way round
abbrev pub flip : Ordering → Ordering
flip Less = Greater
flip Equal = Equal
flip Greater = Less

pub order_flip : (a b : List ℕ) → order_of b a ≡ flip (order_of a b)
unfolding order_of
order_flip [] [] = refl
order_flip [] (y ∷ ys) = refl
order_flip (x ∷ xs) [] = refl
order_flip (x ∷ xs) (y ∷ ys) = go (order_flip xs ys) (ways x y)
  where
    go : order_of ys xs ≡ flip (order_of xs ys) → Ways x y → order_of (y ∷ ys) (x ∷ xs) ≡ flip (order_of (x ∷ xs) (y ∷ ys))
    go ih (less h) = head_higher y x ys xs h ∙ sym (ap flip (head_lower x y xs ys h))
    go ih (same h) = head_same y x ys xs (sym h) ∙ ih ∙ sym (ap flip (head_same x y xs ys h))
    go ih (more h) = head_lower y x ys xs h ∙ sym (ap flip (head_higher x y xs ys h))

pub lower_iff : (a b : List ℕ) → (order_of a b ≡ Less) ↔ (order_of b a ≡ Greater)
lower_iff a b = (λ e. order_flip a b ∙ ap flip e, λ e. order_flip b a ∙ ap flip e)

-- ---- Less is transitive
lower_split : (x y : ℕ) (xs ys : List ℕ) → order_of (x ∷ xs) (y ∷ ys) ≡ Less → (x < y) ⊎ ((x ≡ y) × (order_of xs ys ≡ Less))
lower_split x y xs ys e = go (ways x y)
  where
    go : Ways x y → (x < y) ⊎ ((x ≡ y) × (order_of xs ys ≡ Less))
    go (less h) = inl h
    go (same h) = inr (h, sym (head_same x y xs ys h) ∙ e)
    go (more h) = absurd (let f = head_higher x y xs ys h in let z : ◌≡◌ {A = ℕ} 0 1 = cc in omega arith)

pub lower_trans : (a b c : List ℕ) → order_of a b ≡ Less → order_of b c ≡ Less → order_of a c ≡ Less
unfolding order_of
lower_trans [] [] c p q = absurd (let z : ◌≡◌ {A = ℕ} 0 1 = cc in omega arith)
lower_trans [] (y ∷ ys) [] p q = absurd (let z : ◌≡◌ {A = ℕ} 0 1 = cc in omega arith)
lower_trans [] (y ∷ ys) (z ∷ zs) p q = refl
lower_trans (x ∷ xs) [] c p q = absurd (let z : ◌≡◌ {A = ℕ} 0 1 = cc in omega arith)
lower_trans (x ∷ xs) (y ∷ ys) [] p q = absurd (let z : ◌≡◌ {A = ℕ} 0 1 = cc in omega arith)
lower_trans (x ∷ xs) (y ∷ ys) (z ∷ zs) p q =
    ⊎_elim
    (λ l. ⊎_elim (λ m. head_lower x z xs zs (omega arith)) (λ m. head_lower x z xs zs (omega arith)) (lower_split y z ys zs q))
    (λ l.
    ⊎_elim
    (λ m. head_lower x z xs zs (omega arith))
    (λ m. head_same x z xs zs (l.0 ∙ m.0) ∙ lower_trans xs ys zs l.1 m.1)
    (lower_split y z ys zs q))
    (lower_split x y xs ys p)

-- ---- two lists from index i on
module _ (a b : List ℕ) (i : ℕ) where
  pub from_lower : i < length a → i < length b → get_or a i 0 < get_or b i 0 → order_of (drop i a) (drop i b) ≡ Less
  from_lower p q h = rw (drop-cons a i 0, drop-cons b i 0) (head_lower _ _ _ _ h)

  pub from_higher : i < length a → i < length b → get_or b i 0 < get_or a i 0 → order_of (drop i a) (drop i b) ≡ Greater
  from_higher p q h = rw (drop-cons a i 0, drop-cons b i 0) (head_higher _ _ _ _ h)

  pub from_same : i < length a → i < length b → get_or a i 0 ≡ get_or b i 0 → order_of (drop i a) (drop i b) ≡ order_of (drop (i + 1) a) (drop (i + 1) b)
  from_same p q h = rw (drop-cons a i 0 p, drop-cons b i 0 q, add-one) (head_same _ _ _ _ h)

  pub from_longer : i < length a → length b ≤ i → order_of (drop i a) (drop i b) ≡ Greater
  unfolding order_of
  from_longer p q = rw (drop-cons a i 0, drop_of_length-le b q)

  pub from_shorter : length a ≤ i → i < length b → order_of (drop i a) (drop i b) ≡ Less
  unfolding order_of
  from_shorter p q = rw (drop_of_length-le a p, drop-cons b i 0)

  pub from_ended : length a ≤ i → length b ≤ i → order_of (drop i a) (drop i b) ≡ Equal
  unfolding order_of
  from_ended p q = rw (drop_of_length-le a p, drop_of_length-le b q)

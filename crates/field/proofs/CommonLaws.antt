-- The laws of the common beginning of two keys: both begin with it, they begin alike with nothing longer, it is the same either way round, and it is the whole of
-- both for equal keys alone. Below them, what a loop that compares from the front has to know, and that the byte after the common beginning decides the order.
-- Assumes nothing.
use Prim.Native.Nat.{ℕ, zero, suc, ◌+◌, ◌<◌, ◌≤◌, min}
use native.Mathlib.Nat.{zero-add, eq-or-lt_of_le}
use native.Mathlib.Numerals.{add-one}
use native.Mathlib.Omega.{arith}
use mathlib.Core.Path.{◌≡◌, refl, sym, ap, ap₂, ◌∙◌}
use mathlib.Core.List.{List, [], ◌∷◌}
use mathlib.Core.Bool.{Bool, true, false}
use mathlib.Core.Logic.{◌⊎◌, inl, inr, ⊎_elim, ◌↔◌}
use lib.Dec.{ltb, eqb}
use lib.ListN.{length, get_or, take, drop}
use lib.Seq.{drop-cons}
use borrow.Author.Tests.{lt-ltb, le-ltb, eq-eqb, ne_eqb, eqb-true, eqb-false}
use Rattle.std.specs.declared.cmp.Ordering.{Ordering}
use Rattle.std.specs.declared.cmp.Ordering.TheVariants.{Less, Equal, Greater}
use Rattle.field.specs.Order.{order_of, common_of}
use Rattle.std.specs.Ordering.{is_lt}
use Rattle.field.proofs.OrderLaws.{Ways, less, same, more, ways, head_same, order_equal, from_lower, from_higher, from_longer, from_shorter, from_ended}

-- ---- a first byte that differs ends it
pub head_apart : (x y : ℕ) (xs ys : List ℕ) → (x ≡ y → ⊥) → common_of (x ∷ xs) (y ∷ ys) ≡ 0
unfolding common_of
head_apart x y xs ys h = rw (ne_eqb x y h)

pub head_alike : (x y : ℕ) (xs ys : List ℕ) → x ≡ y → common_of (x ∷ xs) (y ∷ ys) ≡ suc (common_of xs ys)
unfolding common_of
head_alike x y xs ys h = rw (eq-eqb x y h)

-- two bytes are the same, or not
same_or_not : (x y : ℕ) → (x ≡ y) ⊎ (x ≡ y → ⊥)
same_or_not x y = go (eqb x y) refl
  where
    go : (t : Bool) → eqb x y ≡ t → (x ≡ y) ⊎ (x ≡ y → ⊥)
    go true e = inl (eqb-true x y e)
    go false e = inr (eqb-false x y e)

-- ---- the same either way round
pub common_flip : (a b : List ℕ) → common_of a b ≡ common_of b a
unfolding common_of
common_flip [] [] = refl
common_flip [] (y ∷ ys) = refl
common_flip (x ∷ xs) [] = refl
common_flip (x ∷ xs) (y ∷ ys) = go (common_flip xs ys) (same_or_not x y)
  where
    go : common_of xs ys ≡ common_of ys xs → (x ≡ y) ⊎ (x ≡ y → ⊥) → common_of (x ∷ xs) (y ∷ ys) ≡ common_of (y ∷ ys) (x ∷ xs)
    go ih (inl e) = head_alike x y xs ys e ∙ ap suc ih ∙ sym (head_alike y x ys xs (sym e))
    go ih (inr n) = head_apart x y xs ys n ∙ sym (head_apart y x ys xs (λ e. n (sym e)))

-- the lower of two numbers
pub least : (n a b : ℕ) → n ≡ min a b → (n ≤ a) × (n ≤ b) × ((n ≡ a) ⊎ (n ≡ b))
least n a b e =
    let l : n ≤ a = omega arith in
    (l, omega arith, ⊎_elim inl (λ m. inr (omega arith)) (eq-or-lt_of_le l))

-- ---- what both begin with
pub common_within : (a b : List ℕ) → common_of a b ≤ length a
unfolding common_of
common_within [] ys = omega arith
common_within (x ∷ xs) [] = omega arith
common_within (x ∷ xs) (y ∷ ys) = go (common_within xs ys) (same_or_not x y)
  where
    go : common_of xs ys ≤ length xs → (x ≡ y) ⊎ (x ≡ y → ⊥) → common_of (x ∷ xs) (y ∷ ys) ≤ length (x ∷ xs)
    go ih (inl e) = omega (arith, head_alike x y xs ys e)
    go ih (inr n) = omega (arith, head_apart x y xs ys n)

pub common_begins : (a b : List ℕ) → take (common_of a b) a ≡ take (common_of a b) b
unfolding common_of
common_begins [] [] = refl
common_begins [] (y ∷ ys) = refl
common_begins (x ∷ xs) [] = refl
common_begins (x ∷ xs) (y ∷ ys) = go (common_begins xs ys) (same_or_not x y)
  where
    go : take (common_of xs ys) xs ≡ take (common_of xs ys) ys → (x ≡ y) ⊎ (x ≡ y → ⊥)
        → take (common_of (x ∷ xs) (y ∷ ys)) (x ∷ xs) ≡ take (common_of (x ∷ xs) (y ∷ ys)) (y ∷ ys)
    go ih (inl e) = rw (head_alike x y xs ys e) (ap₂ (λ (h : ℕ) (t : List ℕ). h ∷ t) e ih)
    go ih (inr n) = rw (head_apart x y xs ys n)

-- ---- and with nothing longer
pub common_longest : (a b : List ℕ) (k : ℕ) → k ≤ length a → k ≤ length b → take k a ≡ take k b → k ≤ common_of a b
common_longest a b zero p q e = omega arith
common_longest [] b (suc k) p q e = absurd (omega arith)
common_longest (x ∷ xs) [] (suc k) p q e = absurd (omega arith)
common_longest (x ∷ xs) (y ∷ ys) (suc k) p q e =
    let same : x ≡ y = cc in
    let rest : take k xs ≡ take k ys = cc in
    omega (arith, head_alike x y xs ys same, common_longest xs ys k (omega arith) (omega arith) rest)

-- ---- the whole of both for equal keys alone
pub common_refl : (a : List ℕ) → common_of a a ≡ length a
unfolding common_of
common_refl [] = refl
common_refl (x ∷ xs) = head_alike x x xs xs refl ∙ ap suc (common_refl xs)

whole_same : (a b : List ℕ) → common_of a b ≡ length a → common_of a b ≡ length b → a ≡ b
unfolding common_of
whole_same [] [] p q = refl
whole_same [] (y ∷ ys) p q = absurd (omega arith)
whole_same (x ∷ xs) [] p q = absurd (omega arith)
whole_same (x ∷ xs) (y ∷ ys) p q = go (whole_same xs ys) (same_or_not x y)
  where
    go : (common_of xs ys ≡ length xs → common_of xs ys ≡ length ys → xs ≡ ys) → (x ≡ y) ⊎ (x ≡ y → ⊥) → x ∷ xs ≡ y ∷ ys
    go ih (inl e) =
        let one = head_alike x y xs ys e in
        ap₂ (λ (h : ℕ) (t : List ℕ). h ∷ t) e (ih (omega arith) (omega arith))
    go ih (inr n) = absurd (omega (arith, head_apart x y xs ys n))

pub whole_iff : (a b : List ℕ) → ((common_of a b ≡ length a) × (common_of a b ≡ length b)) ↔ (a ≡ b)
whole_iff a b = (λ h. whole_same a b h.0 h.1, λ e. (ap (common_of a) (sym e) ∙ common_refl a, ap (λ (x : List ℕ). common_of x b) e ∙ common_refl b))

-- ---- byte by byte
pub common_byte : (a b : List ℕ) (i : ℕ) → i < common_of a b → get_or a i 0 ≡ get_or b i 0
unfolding common_of
common_byte [] b i l = absurd (omega arith)
common_byte (x ∷ xs) [] i l = absurd (omega arith)
common_byte (x ∷ xs) (y ∷ ys) zero l = first (same_or_not x y)
  where
    first : (x ≡ y) ⊎ (x ≡ y → ⊥) → x ≡ y
    first (inl e) = e
    first (inr n) = absurd (omega (arith, head_apart x y xs ys n))
common_byte (x ∷ xs) (y ∷ ys) (suc i) l = go (common_byte xs ys i) (same_or_not x y)
  where
    go : (i < common_of xs ys → get_or xs i 0 ≡ get_or ys i 0) → (x ≡ y) ⊎ (x ≡ y → ⊥) → get_or xs i 0 ≡ get_or ys i 0
    go ih (inl e) = ih (omega (arith, head_alike x y xs ys e))
    go ih (inr n) = absurd (omega (arith, head_apart x y xs ys n))

pub common_more : (a b : List ℕ) (i : ℕ) → i ≤ common_of a b → i < length a → i < length b → get_or a i 0 ≡ get_or b i 0 → i + 1 ≤ common_of a b
unfolding common_of
common_more [] b i l p q e = absurd (omega arith)
common_more (x ∷ xs) [] i l p q e = absurd (omega arith)
common_more (x ∷ xs) (y ∷ ys) zero l p q e = omega (arith, head_alike x y xs ys e)
common_more (x ∷ xs) (y ∷ ys) (suc i) l p q e = go (common_more xs ys i) (same_or_not x y)
  where
    go : (i ≤ common_of xs ys → i < length xs → i < length ys → get_or xs i 0 ≡ get_or ys i 0 → i + 1 ≤ common_of xs ys) → (x ≡ y) ⊎ (x ≡ y → ⊥)
        → suc i + 1 ≤ common_of (x ∷ xs) (y ∷ ys)
    go ih (inl f) =
        let one = head_alike x y xs ys f in
        omega (arith, ih (omega arith) (omega arith) (omega arith) e)
    go ih (inr n) = absurd (omega (arith, head_apart x y xs ys n))

-- the byte after the common beginning is where they part
pub common_ends : (a b : List ℕ) (i : ℕ) → i ≤ common_of a b → (get_or a i 0 ≡ get_or b i 0 → ⊥) → common_of a b ≡ i
common_ends a b i l n = ⊎_elim (λ e. sym e) (λ m. absurd (n (common_byte a b i m))) (eq-or-lt_of_le l)

-- ---- what is left from byte i on, where the two are alike before it
pub common_skip : (a b : List ℕ) (i : ℕ) → i ≤ common_of a b → (order_of a b ≡ order_of (drop i a) (drop i b)) × (common_of a b ≡ i + common_of (drop i a) (drop i b))
unfolding common_of
common_skip a b zero l = (refl, sym (zero-add (common_of a b)))
common_skip [] b (suc i) l = absurd (omega arith)
common_skip (x ∷ xs) [] (suc i) l = absurd (omega arith)
common_skip (x ∷ xs) (y ∷ ys) (suc i) l = go (common_skip xs ys i) (same_or_not x y)
  where
    go : (i ≤ common_of xs ys → (order_of xs ys ≡ order_of (drop i xs) (drop i ys)) × (common_of xs ys ≡ i + common_of (drop i xs) (drop i ys)))
        → (x ≡ y) ⊎ (x ≡ y → ⊥)
        → (order_of (x ∷ xs) (y ∷ ys) ≡ order_of (drop i xs) (drop i ys)) × (common_of (x ∷ xs) (y ∷ ys) ≡ suc i + common_of (drop i xs) (drop i ys))
    go ih (inl e) =
        let one = head_alike x y xs ys e in
        let rest = ih (omega arith) in
        (head_same x y xs ys e ∙ rest.0, omega arith)
    go ih (inr n) = absurd (omega (arith, head_apart x y xs ys n))

module _ (a b : List ℕ) (i : ℕ) where
  pub from_alike : i < length a → i < length b → get_or a i 0 ≡ get_or b i 0 → common_of (drop i a) (drop i b) ≡ suc (common_of (drop (i + 1) a) (drop (i + 1) b))
  from_alike p q h = rw (drop-cons a i 0 p, drop-cons b i 0 q, add-one) (head_alike _ _ _ _ h)

-- ---- the order, by the byte at c after the common beginning
module _ (a b : List ℕ) (c : ℕ) (e : c ≡ common_of a b) where
  rest : order_of a b ≡ order_of (drop c a) (drop c b)
  rest = (common_skip a b c (omega arith)).0

  pub second_ended : length b ≤ c → is_lt (order_of a b) ≡ false
  second_ended l = go (eq-or-lt_of_le most)
    where
      most : c ≤ length a
      most = omega (arith, common_within a b)

      go : (c ≡ length a) ⊎ (c < length a) → is_lt (order_of a b) ≡ false
      go (inl q) = ap is_lt (rest ∙ from_ended a b c (omega arith) l)
      go (inr q) = ap is_lt (rest ∙ from_longer a b c q l)

  pub first_ended : length a ≤ c → c < length b → is_lt (order_of a b) ≡ true
  first_ended l q = ap is_lt (rest ∙ from_shorter a b c l q)

  pub by_byte : c < length a → c < length b → is_lt (order_of a b) ≡ ltb (get_or a c 0) (get_or b c 0)
  by_byte p q = go (ways (get_or a c 0) (get_or b c 0))
    where
      go : Ways (get_or a c 0) (get_or b c 0) → is_lt (order_of a b) ≡ ltb (get_or a c 0) (get_or b c 0)
      go (less h) = ap is_lt (rest ∙ from_lower a b c p q h) ∙ sym (lt-ltb (get_or a c 0) (get_or b c 0) h)
      go (same h) = absurd (omega (arith, common_more a b c (omega arith) p q h))
      go (more h) = let l : get_or b c 0 ≤ get_or a c 0 = omega arith in ap is_lt (rest ∙ from_higher a b c p q h) ∙ sym (le-ltb (get_or a c 0) (get_or b c 0) l)

  pub left_over : is_lt (order_of a b) ≡ false → c < length a → order_of a b ≡ Greater
  left_over n l = go (order_of a b) refl
    where
      go : (o : Ordering) → order_of a b ≡ o → order_of a b ≡ Greater
      go Less f = absurd (let z : ◌≡◌ {A = ℕ} 0 1 = cc in omega arith)
      go Equal f = absurd (omega (arith, ((whole_iff a b).1 (order_equal a b f)).0))
      go Greater f = f

  pub none_over : is_lt (order_of a b) ≡ false → length a ≤ c → order_of a b ≡ Equal
  none_over n l = go (eq-or-lt_of_le most)
    where
      most : length a ≤ length b
      most = omega (arith, common_within b a, common_flip a b)

      go : (length a ≡ length b) ⊎ (length a < length b) → order_of a b ≡ Equal
      go (inl q) = rest ∙ from_ended a b c l (omega arith)
      go (inr q) = absurd (let f = first_ended l (omega (arith, common_within a b)) in let z : ◌≡◌ {A = ℕ} 0 1 = cc in omega arith)

-- ---- two keys that are alike in n bytes, which is the whole of one
module _ (a b : List ℕ) (n : ℕ) (alike : n ≤ common_of a b) (whole : (n ≡ length a) ⊎ (n ≡ length b)) where
  pub ended : n ≡ common_of a b
  ended = ⊎_elim (λ e. omega (arith, common_within a b)) (λ e. omega (arith, common_within b a, common_flip a b)) whole

  shorter : (n ≤ length a) × (n ≤ length b)
  shorter = (omega (arith, common_within a b), omega (arith, common_within b a, common_flip a b))

  pub by_length : is_lt (order_of a b) ≡ ltb (length a) (length b)
  by_length = go (ways (length a) (length b))
    where
      none : length b ≤ length a → is_lt (order_of a b) ≡ ltb (length a) (length b)
      none l =
          let all : length b ≤ n = ⊎_elim (λ e. omega arith) (λ e. omega arith) whole in
          second_ended a b n ended all ∙ sym (le-ltb _ _ l)

      go : Ways (length a) (length b) → is_lt (order_of a b) ≡ ltb (length a) (length b)
      go (less l) =
          let all : n ≡ length a = ⊎_elim (λ e. e) (λ e. omega (arith, shorter.0)) whole in
          first_ended a b n ended (omega arith) (omega arith) ∙ sym (lt-ltb _ _ l)
      go (same e) = none (omega arith)
      go (more l) = none (omega arith)

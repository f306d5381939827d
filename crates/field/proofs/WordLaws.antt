-- Keys compared by words: where two words of the same width differ, the lower word is that of the lower key.
-- Assumes nothing.
use mathlib.Core.Path.{◌≡◌, refl, sym, ap, ap₂, ◌∙◌}
use mathlib.Core.Bool.{Bool, true, false, not, cond}
use mathlib.Core.List.{List}
use mathlib.Core.Logic.{◌⊎◌, inl, inr, ⊎_elim}
use Prim.Native.Nat.{ℕ, zero, suc, ◌+◌, ◌-◌, ◌*◌, ◌^◌, ◌≤◌, ◌<◌}
use native.Mathlib.Nat.{add-zero, zero-add}
use native.Mathlib.Omega.{arith}
use lib.Dec.{ltb, eqb}
use lib.ListN.{length, get_or, drop}
use borrow.Author.Tests.{lt-ltb, le-ltb, eqb-true, eqb-false}
use Rattle.std.specs.declared.cmp.Ordering.TheVariants.{Less, Greater}
use Rattle.field.specs.Field.{big_field}
use Rattle.field.specs.Order.{order_of, common_of}
use Rattle.std.specs.Ordering.{is_lt}
use Rattle.field.proofs.FieldLaws.{Bytes, big_fits, times_below}
use Rattle.field.proofs.CommonLaws.{common_skip, from_alike}
use Rattle.field.proofs.OrderLaws.{Ways, less, same, more, ways, from_lower, from_same, order_flip, flip}

-- ---- the first byte of a word decides, or the rest of it does
first_byte : (k x y p q : ℕ) → p < k → q < k → k * x + p < k * y + q → (x < y) ⊎ ((x ≡ y) × (p < q))
first_byte k x y p q hp hq h = go (ways x y)
  where
    go : Ways x y → (x < y) ⊎ ((x ≡ y) × (p < q))
    go (less l) = inl l
    go (same e) = inr (e, omega (arith, ap (λ (n : ℕ). k * n) e))
    go (more m) = absurd (omega (arith, times_below k y x m))

first-same : (k x y p q : ℕ) → p < k → q < k → k * x + p ≡ k * y + q → (x ≡ y) × (p ≡ q)
first-same k x y p q hp hq h = go (ways x y)
  where
    go : Ways x y → (x ≡ y) × (p ≡ q)
    go (less l) = absurd (omega (arith, times_below k x y l))
    go (same e) = (e, omega (arith, ap (λ (n : ℕ). k * n) e))
    go (more m) = absurd (omega (arith, times_below k y x m))

module _ (a b : List ℕ) (ha : Bytes a) (hb : Bytes b) where
  pub word_lower : (w i : ℕ) → i + w ≤ length a → i + w ≤ length b → big_field w a i < big_field w b i → order_of (drop i a) (drop i b) ≡ Less
  unfolding big_field
  word_lower zero i la lb h = absurd (omega arith)
  word_lower (suc w) i la lb h =
      ⊎_elim
      (λ l. from_lower a b i (omega arith) (omega arith) l)
      (λ e. from_same a b i (omega arith) (omega arith) e.0 ∙ word_lower w (i + 1) (omega arith) (omega arith) e.1)
      (first_byte (256 ^ w) (get_or a i 0) (get_or b i 0) (big_field w a (i + 1)) (big_field w b (i + 1)) (big_fits w a (i + 1) ha) (big_fits w b (i + 1) hb) h)

-- the other way round
pub word_higher : (a b : List ℕ) → Bytes a → Bytes b → (w i : ℕ) → i + w ≤ length a → i + w ≤ length b → big_field w b i < big_field w a i
    → order_of (drop i a) (drop i b) ≡ Greater
word_higher a b ha hb w i la lb h = order_flip (drop i b) (drop i a) ∙ ap flip (word_lower b a hb ha w i lb la h)

module _ (a b : List ℕ) (ha : Bytes a) (hb : Bytes b) where
  -- two words that are the same are alike in all their bytes
  pub word_alike : (w i : ℕ) → i + w ≤ length a → i + w ≤ length b → big_field w a i ≡ big_field w b i
      → common_of (drop i a) (drop i b) ≡ w + common_of (drop (i + w) a) (drop (i + w) b)
  unfolding big_field
  word_alike zero i la lb h = rw (add-zero, zero-add)
  word_alike (suc w) i la lb h =
      let e = first-same (256 ^ w) (get_or a i 0) (get_or b i 0) (big_field w a (i + 1)) (big_field w b (i + 1)) (big_fits w a (i + 1) ha) (big_fits w b (i + 1) hb) h in
      let n : i + 1 + w ≡ i + suc w = omega arith in
      let rest : common_of (drop (i + 1) a) (drop (i + 1) b) ≡ w + common_of (drop (i + suc w) a) (drop (i + suc w) b) =
      rw n at (word_alike w (i + 1) (omega arith) (omega arith) e.1) in
      omega (arith, from_alike a b i (omega arith) (omega arith) e.0)

-- ---- two keys that are alike before byte i, by the words there
module _ (a b : List ℕ) (ha : Bytes a) (hb : Bytes b) (i : ℕ) (alike : i ≤ common_of a b) (la : i + 8 ≤ length a) (lb : i + 8 ≤ length b) where
  pub lower_here : big_field 8 a i < big_field 8 b i → order_of a b ≡ Less
  lower_here h = (common_skip a b i alike).0 ∙ word_lower a b ha hb 8 i la lb h

  pub higher_here : big_field 8 b i < big_field 8 a i → order_of a b ≡ Greater
  higher_here h = (common_skip a b i alike).0 ∙ word_higher a b ha hb 8 i la lb h

  -- of two words that differ
  pub parts_here : (big_field 8 a i ≡ big_field 8 b i → ⊥) → is_lt (order_of a b) ≡ ltb (big_field 8 a i) (big_field 8 b i)
  parts_here h = go (ways (big_field 8 a i) (big_field 8 b i))
    where
      go : Ways (big_field 8 a i) (big_field 8 b i) → is_lt (order_of a b) ≡ ltb (big_field 8 a i) (big_field 8 b i)
      go (less l) = ap is_lt (lower_here l) ∙ sym (lt-ltb _ _ l)
      go (same e) = absurd (h e)
      go (more m) = let l : big_field 8 b i ≤ big_field 8 a i = omega arith in ap is_lt (higher_here m) ∙ sym (le-ltb _ _ l)

  pub goes_on : big_field 8 a i ≡ big_field 8 b i → i + 8 ≤ common_of a b
  goes_on h = omega (arith, (common_skip a b i alike).1, word_alike a b ha hb 8 i la lb h)

-- ---- two keys that are alike in their first eight bytes, and of which the shorter has n, at most 32, by the first of three words that differ
module _ (a b : List ℕ) (ha : Bytes a) (hb : Bytes b) (n k : ℕ) (most : n ≤ 32) (la : n ≤ length a) (lb : n ≤ length b)
    (third : (k ≤ n - 8) × (k ≤ 16) × ((k ≡ n - 8) ⊎ (k ≡ 16))) (alike : 8 ≤ common_of a b) (room : 16 ≤ n)
    (x1 y1 x2 y2 x3 y3 : ℕ) (e1 : x1 ≡ big_field 8 a 8) (f1 : y1 ≡ big_field 8 b 8) (e2 : x2 ≡ big_field 8 a k) (f2 : y2 ≡ big_field 8 b k)
    (e3 : x3 ≡ big_field 8 a (n - 8)) (f3 : y3 ≡ big_field 8 b (n - 8)) where
  -- what the two words that are picked tell
  abbrev Tells : ℕ → ℕ → Type 0
  Tells x y = ((x ≡ y → ⊥) → ltb x y ≡ is_lt (order_of a b)) × (x ≡ y → n ≤ common_of a b)

  -- those at byte i, up to which the keys are alike
  at_word : (i x y : ℕ) → i ≤ common_of a b → i + 8 ≤ n → x ≡ big_field 8 a i → y ≡ big_field 8 b i → (x ≡ y → ⊥) → ltb x y ≡ is_lt (order_of a b)
  at_word i x y l r e f ne =
      ap₂ ltb e f ∙ sym (parts_here a b ha hb i l (omega arith) (omega arith) (λ z. ne (e ∙ z ∙ sym f)))

  next_word : (i x y : ℕ) → i ≤ common_of a b → i + 8 ≤ n → x ≡ big_field 8 a i → y ≡ big_field 8 b i → x ≡ y → i + 8 ≤ common_of a b
  next_word i x y l r e f z = goes_on a b ha hb i l (omega arith) (omega arith) (sym e ∙ z ∙ f)

  last_two : k + 8 ≤ common_of a b → Tells x3 y3
  last_two l =
      let m : n - 8 ≤ common_of a b = ⊎_elim (λ e. omega arith) (λ e. omega arith) third.2 in
      (at_word (n - 8) x3 y3 m (omega arith) e3 f3, λ z. omega (arith, next_word (n - 8) x3 y3 m (omega arith) e3 f3 z))

  last_three : (t : Bool) → eqb x2 y2 ≡ t → 16 ≤ common_of a b → Tells (cond (not t) x2 x3) (cond (not t) y2 y3)
  last_three false e l = (at_word k x2 y2 (omega (arith, third.1)) (omega (arith, third.0)) e2 f2, λ z. absurd (eqb-false x2 y2 e z))
  last_three true e l = last_two (next_word k x2 y2 (omega (arith, third.1)) (omega (arith, third.0)) e2 f2 (eqb-true x2 y2 e))

  words_tell : (t : Bool) → eqb x1 y1 ≡ t → Tells (cond (not t) x1 (cond (not (eqb x2 y2)) x2 x3)) (cond (not t) y1 (cond (not (eqb x2 y2)) y2 y3))
  words_tell false e = (at_word 8 x1 y1 alike room e1 f1, λ z. absurd (eqb-false x1 y1 e z))
  words_tell true e = last_three (eqb x2 y2) refl (next_word 8 x1 y1 alike room e1 f1 (eqb-true x1 y1 e))

  pub picked_tell : Tells (cond (not (eqb x1 y1)) x1 (cond (not (eqb x2 y2)) x2 x3)) (cond (not (eqb x1 y1)) y1 (cond (not (eqb x2 y2)) y2 y3))
  picked_tell = words_tell (eqb x1 y1) refl

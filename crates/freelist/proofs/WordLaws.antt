-- A word of free bits and the word of pending bits of the same pages: no page of them has both bits where no digit is in both words,
-- and a page is listed where its digit is in one of them.
-- Assumes nothing.
use mathlib.Core.Path.{◌≡◌, refl, sym, ap, ap₂, ◌∙◌}
use mathlib.Core.List.{List}
use mathlib.Core.Bool.{Bool, true, ◌&&◌, and_assoc, and-true}
use Prim.Native.Nat.{ℕ, zero, suc, ◌+◌, ◌-◌, ◌*◌, ◌/◌, ◌%◌, ◌^◌, ◌≤◌, ◌<◌, min}
use native.Mathlib.Nat.{zero-div, zero-mul, div-one, mul-one, mod-eq_of_lt}
use native.Mathlib.Omega.{arith}
use borrow.Author.Tests.{eq-eqb, eqb-true, ne_eqb}
use lib.Dec.{eqb}
use lib.Bits.{bit_and, bit_or, bit_xor, differ, or_zero_l, or_add_and, and_le_l, and_le_r}
use lib.Pow.{shr-shr, shl-shr}
use lib.ListN.{get_or}
use Rattle.field.proofs.BitLaws.{digit_and, digit_xor, low_digits_zero, low_digits_of_zero, shl_low}
use Rattle.freelist.specs.Table.{bit, state_from, state_of, is_state, is_listed}
use Rattle.freelist.specs.Pages.{pages_from, pages_of, all}
use Rattle.freelist.proofs.PageLaws.{same_test, all_none, all_part, all_row_of, all_row_at}

-- two digits are in one of the three states where they are not both 1
state_digits : (a b x : ℕ) → a < 2 → b < 2 → eqb (min a b) 0 ≡ is_state (state_from (eqb a 1) (eqb b 1) x)
state_digits zero zero x l m = refl
state_digits zero (suc zero) x l m = refl
state_digits (suc zero) zero x l m = refl
state_digits (suc zero) (suc zero) x l m = refl
state_digits zero (suc (suc b)) x l m = absurd (omega arith)
state_digits (suc zero) (suc (suc b)) x l m = absurd (omega arith)
state_digits (suc (suc a)) b x l m = absurd (omega arith)

-- and they are free or pending where they differ
listed_digits : (a b x : ℕ) → a < 2 → b < 2 → eqb (differ a b) 1 ≡ is_listed (state_from (eqb a 1) (eqb b 1) x)
listed_digits zero zero x l m = refl
listed_digits zero (suc zero) x l m = refl
listed_digits (suc zero) zero x l m = refl
listed_digits (suc zero) (suc zero) x l m = refl
listed_digits zero (suc (suc b)) x l m = absurd (omega arith)
listed_digits (suc zero) (suc (suc b)) x l m = absurd (omega arith)
listed_digits (suc (suc a)) b x l m = absurd (omega arith)

-- page k is listed where its digit is in just one of the two words
pub listed_test : (t : List ℕ) (k : ℕ) → eqb (bit_xor (get_or t (k / 64) 0) (get_or t (512 + k / 64) 0) / 2 ^ (k % 64) % 2) 1 ≡ is_listed (state_of t k)
unfolding bit state_of
listed_test t k =
    let a = get_or t (k / 64) 0 in
    let b = get_or t (512 + k / 64) 0 in
    let w : (32768 + k) / 64 ≡ 512 + k / 64 = omega arith in
    let d : (32768 + k) % 64 ≡ k % 64 = omega arith in
    rw (w, d, digit_xor a b (k % 64))
    (listed_digits (a / 2 ^ (k % 64) % 2) (b / 2 ^ (k % 64) % 2) (get_or t (1024 + k) 0) (omega arith) (omega arith))

-- the digits that the word of free bits and that of pending bits share, from page i's on
abbrev both : List ℕ → ℕ → ℕ
both t i = bit_and (get_or t (i / 64) 0) (get_or t (512 + i / 64) 0) / 2 ^ (i % 64)

module _ (t : List ℕ) (i k : ℕ) (some : 1 ≤ k) (fit : i % 64 + k ≤ 64) where
  -- page i + j is in one of the three states where their digit j is 0
  page_digit : (j : ℕ) → j < k → eqb (both t i / 2 ^ j % 2) 0 ≡ is_state (state_of t (i + j))
  unfolding bit state_of
  page_digit j l =
      let a = get_or t (i / 64) 0 in
      let b = get_or t (512 + i / 64) 0 in
      let w : (i + j) / 64 ≡ i / 64 = omega arith in
      let d : (i + j) % 64 ≡ i % 64 + j = omega arith in
      let w' : (32768 + (i + j)) / 64 ≡ 512 + i / 64 = omega arith in
      let d' : (32768 + (i + j)) % 64 ≡ i % 64 + j = omega arith in
      rw (w, d, w', d', shr-shr (bit_and a b) (i % 64) j, digit_and a b (i % 64 + j))
      (state_digits (a / 2 ^ (i % 64 + j) % 2) (b / 2 ^ (i % 64 + j) % 2) (get_or t (1024 + (i + j)) 0) (omega arith) (omega arith))

  -- the k lowest of them, shifted to the top of a word
  shifted : (both t i * 2 ^ (64 - k)) % 2 ^ 64 ≡ both t i % 2 ^ k * 2 ^ (64 - k)
  shifted =
      let e : 64 ≡ k + (64 - k) = omega arith in
      ap (λ (n : ℕ). (both t i * 2 ^ (64 - k)) % 2 ^ n) e ∙ shl_low (both t i) k (64 - k)

  pub word_test : eqb ((both t i * 2 ^ (64 - k)) % 2 ^ 64) 0 ≡ all (λ p. is_state (state_of t p)) (pages_from i k)
  word_test = same_test _ _ there back
    where
      there : eqb ((both t i * 2 ^ (64 - k)) % 2 ^ 64) 0 ≡ true → all (λ p. is_state (state_of t p)) (pages_from i k) ≡ true
      there e = all_row_of (λ p. is_state (state_of t p)) i k page
        where
          low : both t i % 2 ^ k ≡ 0
          low = sym (shl-shr (both t i % 2 ^ k) (64 - k)) ∙ ap (λ (n : ℕ). n / 2 ^ (64 - k)) (sym shifted ∙ eqb-true _ 0 e) ∙ zero-div (2 ^ (64 - k))

          page : (q : ℕ) → i ≤ q → q < i + k → is_state (state_of t q) ≡ true
          page q a b =
              let f : i + (q - i) ≡ q = omega arith in
              ap (λ (p : ℕ). is_state (state_of t p)) (sym f) ∙ sym (page_digit (q - i) (omega arith))
              ∙ eq-eqb _ 0 (low_digits_zero (both t i) k low (q - i) (omega arith))

      back : all (λ p. is_state (state_of t p)) (pages_from i k) ≡ true → eqb ((both t i * 2 ^ (64 - k)) % 2 ^ 64) 0 ≡ true
      back h =
          let low = low_digits_of_zero (both t i) k (λ j l. eqb-true _ 0 (page_digit j l ∙ all_row_at (λ p. is_state (state_of t p)) i k h (i + j) (omega arith) (omega arith))) in
          eq-eqb _ 0 (shifted ∙ ap (λ (n : ℕ). n * 2 ^ (64 - k)) low ∙ zero-mul (2 ^ (64 - k)))

-- ---- whole words

-- two words gathered in one are 0 where each of them is
or_test : (a b : ℕ) → eqb (bit_or a b) 0 ≡ (eqb a 0 && eqb b 0)
or_test zero b = ap (λ (x : ℕ). eqb x 0) (or_zero_l b)
or_test (suc a) b =
    ne_eqb (bit_or (suc a) b) 0 (λ e. omega (arith, or_add_and (suc a) b, and_le_r (suc a) b))
    ∙ ap (λ (x : Bool). x && eqb b 0) (sym (ne_eqb (suc a) 0 (λ e. omega arith)))

module _ (t : List ℕ) (i : ℕ) (fits : get_or t i 0 < 2 ^ 64) where
  -- word i shares no digit with its word of pending bits where each of the 64 pages is in one of the three states
  whole_test : eqb (bit_and (get_or t i 0) (get_or t (512 + i) 0)) 0 ≡ all (λ p. is_state (state_of t p)) (pages_from (64 * i) 64)
  whole_test =
      let w = bit_and (get_or t i 0) (get_or t (512 + i) 0) in
      let q : 64 * i / 64 ≡ i = omega arith in
      let r : 64 * i % 64 ≡ 0 = omega arith in
      let b : both t (64 * i) ≡ w = rw (q, r) (div-one w) in
      let l : w < 2 ^ 64 = omega (arith, and_le_l (get_or t i 0) (get_or t (512 + i) 0)) in
      let e : (both t (64 * i) * 2 ^ (64 - 64)) % 2 ^ 64 ≡ w = rw b (ap (λ (x : ℕ). x % 2 ^ 64) (mul-one w) ∙ mod-eq_of_lt l) in
      ap (λ (x : ℕ). eqb x 0) (sym e) ∙ word_test t (64 * i) 64 (omega arith) (omega arith)

  -- a turn over the words below m: what word i has is gathered, and the words after it are left to ask
  pub words_turn : (m bad : ℕ) → i < m
      → (eqb (bit_or bad (bit_and (get_or t i 0) (get_or t (512 + i) 0))) 0 && all (λ p. is_state (state_of t p)) (pages_from (64 * (i + 1)) (64 * m - 64 * (i + 1))))
      ≡ (eqb bad 0 && all (λ p. is_state (state_of t p)) (pages_from (64 * i) (64 * m - 64 * i)))
  words_turn m bad l =
      let ok : ℕ → Bool = λ p. is_state (state_of t p) in
      let w = bit_and (get_or t i 0) (get_or t (512 + i) 0) in
      let f : 64 * i + 64 ≡ 64 * (i + 1) = omega arith in
      let s : all ok (pages_from (64 * i) (64 * m - 64 * i)) ≡ (eqb w 0 && all ok (pages_from (64 * (i + 1)) (64 * m - 64 * (i + 1)))) =
      all_part ok (64 * i) 64 (64 * m) (omega arith) ∙ ap₂ (λ (x : Bool) (p : ℕ). x && all ok (pages_from p (64 * m - p))) (sym whole_test) f in
      ap (λ (x : Bool). x && all ok (pages_from (64 * (i + 1)) (64 * m - 64 * (i + 1)))) (or_test bad w)
      ∙ and_assoc (eqb bad 0) (eqb w 0) (all ok (pages_from (64 * (i + 1)) (64 * m - 64 * (i + 1)))) ∙ ap (λ (x : Bool). eqb bad 0 && x) (sym s)

-- no word is left
pub words_end : (t : List ℕ) (m i bad : ℕ) → m ≤ i → eqb bad 0 ≡ (eqb bad 0 && all (λ p. is_state (state_of t p)) (pages_from (64 * i) (64 * m - 64 * i)))
words_end t m i bad l =
    sym (ap (λ (x : Bool). eqb bad 0 && x) (all_none (λ p. is_state (state_of t p)) (64 * i) (64 * m) (omega arith)) ∙ and-true (eqb bad 0))

-- the pages from 2 to n - 1: those of the first word, of the whole words after it, and of the last word
pub all_words : (ok : ℕ → Bool) (n : ℕ) → 64 ≤ n
    → all ok (pages_of n) ≡ (all ok (pages_from 2 62) && (all ok (pages_from 64 (64 * (n / 64) - 64)) && all ok (pages_from (n - n % 64) (n % 64))))
all_words ok n l =
    let a = all_part ok 2 62 n (omega arith) in
    let k = 64 * (n / 64) - 64 in
    let e : 64 + k ≡ n - n % 64 = omega arith in
    let d : n - (64 + k) ≡ n % 64 = omega arith in
    let b : all ok (pages_from 64 (n - 64)) ≡ (all ok (pages_from 64 k) && all ok (pages_from (n - n % 64) (n % 64))) =
    all_part ok 64 k n (omega arith) ∙ ap₂ (λ (p m : ℕ). all ok (pages_from 64 k) && all ok (pages_from p m)) e d in
    a ∙ ap (λ (x : Bool). all ok (pages_from 2 62) && x) b

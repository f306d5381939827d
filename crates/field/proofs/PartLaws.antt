-- The marks of a row of pages that share a word: they are tested and set at once, by the row's digits.
-- Assumes nothing.
use mathlib.Core.Path.{◌≡◌, sym, ap, ap₂, ◌∙◌}
use mathlib.Core.List.{List}
use mathlib.Core.Bool.{true, false}
use Prim.Native.Nat.{ℕ, zero, suc, ◌+◌, ◌-◌, ◌*◌, ◌/◌, ◌%◌, ◌^◌, ◌≤◌, ◌<◌, max}
use native.Mathlib.Nat.{one-mul, add-mul, mul_comm, zero-mul}
use native.Mathlib.Omega.{arith}
use borrow.Author.Tests.{eqb-true, ne_eqb}
use lib.Arith.{bin_ind, digits_mod, digits_div}
use lib.Dec.{eqb}
use lib.Bits.{bit_or, or_step, or_zero_l, or_zero_r, or_shifted_r}
use lib.Pow.{pow_pos, pow-add, shl_lt, shl_exact, shr-shr, ones_lt, ones_split}
use lib.ListN.{length, get_or, set}
use lib.Seq.{get_or-set_same, set-get_or, set-set}
use Rattle.field.proofs.BitLaws.{low_digits_zero, shl_low}
use Rattle.field.proofs.MarkLaws.{with_rows}
use Rattle.field.specs.Marks.{mark, is_marked, with_mark, with_marks}

-- ---- an or of three

or_half : (a b : ℕ) → bit_or a b / 2 ≡ bit_or (a / 2) (b / 2)
or_half a b = ap (λ (x : ℕ). x / 2) (or_step a b) ∙ digits_div (bit_or (a / 2) (b / 2)) (omega arith)

or_odd : (a b : ℕ) → bit_or a b % 2 ≡ max (a % 2) (b % 2)
or_odd a b = ap (λ (x : ℕ). x % 2) (or_step a b) ∙ digits_mod (bit_or (a / 2) (b / 2)) (omega arith)

or_assoc : (a b c : ℕ) → bit_or (bit_or a b) c ≡ bit_or a (bit_or b c)
or_assoc =
    bin_ind (λ a. (b c : ℕ) → bit_or (bit_or a b) c ≡ bit_or a (bit_or b c))
    (λ b c. ap (λ (x : ℕ). bit_or x c) (or_zero_l b) ∙ sym (or_zero_l (bit_or b c)))
    turn
  where
    turn : (a : ℕ) → ((b c : ℕ) → bit_or (bit_or (a / 2) b) c ≡ bit_or (a / 2) (bit_or b c)) → (b c : ℕ) → bit_or (bit_or a b) c ≡ bit_or a (bit_or b c)
    turn a ih b c =
        let l : bit_or (bit_or a b) c ≡ bit_or (bit_or (a / 2) (b / 2)) (c / 2) * 2 + max (max (a % 2) (b % 2)) (c % 2) =
        or_step (bit_or a b) c ∙ ap₂ (λ (x y : ℕ). bit_or x (c / 2) * 2 + max y (c % 2)) (or_half a b) (or_odd a b) in
        let r : bit_or a (bit_or b c) ≡ bit_or (a / 2) (bit_or (b / 2) (c / 2)) * 2 + max (a % 2) (max (b % 2) (c % 2)) =
        or_step a (bit_or b c) ∙ ap₂ (λ (x y : ℕ). bit_or (a / 2) x * 2 + max (a % 2) y) (or_half b c) (or_odd b c) in
        omega (arith, ih (b / 2) (c / 2))

-- ---- the test

-- the k lowest digits, shifted to the top of a word, are 0 where they were
pub top_test : (x k : ℕ) → k ≤ 64 → eqb ((x * 2 ^ (64 - k)) % 2 ^ 64) 0 ≡ eqb (x % 2 ^ k) 0
top_test x k h =
    let e : 64 ≡ k + (64 - k) = omega arith in
    ap (λ (n : ℕ). eqb n 0) (ap (λ (n : ℕ). (x * 2 ^ (64 - k)) % 2 ^ n) e ∙ shl_low x k (64 - k)) ∙ scaled (x % 2 ^ k)
  where
    scaled : (y : ℕ) → eqb (y * 2 ^ (64 - k)) 0 ≡ eqb y 0
    scaled zero = ap (λ (n : ℕ). eqb n 0) (zero-mul (2 ^ (64 - k)))
    scaled (suc y) = ne_eqb (suc y * 2 ^ (64 - k)) 0 (λ e. omega (arith, pow_pos (64 - k))) ∙ sym (ne_eqb (suc y) 0 (λ e. omega arith))

-- the k digits from page p's on are 0: none of the k pages is marked
pub part_clear : (m : List ℕ) (p k : ℕ) → p % 64 + k ≤ 64 → eqb (get_or m (p / 64) 0 / 2 ^ (p % 64) % 2 ^ k) 0 ≡ true
    → (j : ℕ) → j < k → is_marked m (p + j) ≡ false
unfolding mark
part_clear m p k fit z j l =
    let w = get_or m (p / 64) 0 in
    let q : (p + j) / 64 ≡ p / 64 = omega arith in
    let d : (p + j) % 64 ≡ p % 64 + j = omega arith in
    let o : w / 2 ^ (p % 64 + j) % 2 ≡ 0 =
    ap (λ (x : ℕ). x % 2) (sym (shr-shr w (p % 64) j)) ∙ low_digits_zero (w / 2 ^ (p % 64)) k (eqb-true _ 0 z) j l in
    rw (q, d, o)

-- ---- the marks

-- k ones from digit a on
pub ones_at : (a k : ℕ) → a + k ≤ 64 → ((2 ^ 64 - 1) / 2 ^ (64 - k) * 2 ^ a) % 2 ^ 64 ≡ (2 ^ k - 1) * 2 ^ a
ones_at a k h =
    let d = 64 - k in
    let e : 64 ≡ k + d = omega arith in
    let f : (2 ^ 64 - 1) / 2 ^ d ≡ 2 ^ k - 1 =
    ap (λ (n : ℕ). (2 ^ n - 1) / 2 ^ d) e ∙ ap (λ (n : ℕ). n / 2 ^ d) (ones_split k d) ∙ digits_div (2 ^ k - 1) (ones_lt d) in
    ap (λ (n : ℕ). (n * 2 ^ a) % 2 ^ 64) f ∙ shl_exact k a 64 (ones_lt k) (omega arith)

-- one more digit set above k of them
ones_next : (w a k : ℕ) → bit_or (bit_or w ((2 ^ k - 1) * 2 ^ a)) (2 ^ (a + k)) ≡ bit_or w ((2 ^ (1 + k) - 1) * 2 ^ a)
ones_next w a k = or_assoc w ((2 ^ k - 1) * 2 ^ a) (2 ^ (a + k)) ∙ ap (bit_or w) (joined ∙ summed)
  where
    low : ℕ
    low = (2 ^ k - 1) * 2 ^ a

    small : low < 2 ^ (a + k)
    small = let e : k + a ≡ a + k = omega arith in let s : low < 2 ^ (k + a) = shl_lt k a (ones_lt k) in rw e at s

    joined : bit_or low (2 ^ (a + k)) ≡ 1 * 2 ^ (a + k) + low
    joined = let e : 2 ^ (a + k) ≡ 1 * 2 ^ (a + k) = omega arith in ap (bit_or low) e ∙ or_shifted_r 1 (a + k) low small

    summed : 1 * 2 ^ (a + k) + low ≡ (2 ^ (1 + k) - 1) * 2 ^ a
    summed =
        let e : (2 ^ (1 + k) - 1) * 2 ^ a ≡ (1 * 2 ^ k) * 2 ^ a + low =
        ap (λ (n : ℕ). n * 2 ^ a) (ones_split 1 k) ∙ add-mul (1 * 2 ^ k) (2 ^ k - 1) (2 ^ a) in
        let f : (1 * 2 ^ k) * 2 ^ a ≡ 2 ^ (a + k) =
        ap (λ (n : ℕ). n * 2 ^ a) (one-mul (2 ^ k)) ∙ mul_comm (2 ^ k) (2 ^ a) ∙ sym (pow-add 2 a k) in
        omega arith

-- the k digits from page p's on set: the set with the k pages in it
pub part_set : (m : List ℕ) (p k : ℕ) → p / 64 < length m → p % 64 + k ≤ 64
    → set m (p / 64) (bit_or (get_or m (p / 64) 0) ((2 ^ k - 1) * 2 ^ (p % 64))) ≡ with_marks m p k
unfolding with_marks with_mark
part_set m p zero l fit =
    ap (set m (p / 64)) (ap (bit_or (get_or m (p / 64) 0)) (zero-mul (2 ^ (p % 64))) ∙ or_zero_r (get_or m (p / 64) 0)) ∙ set-get_or m (p / 64) 0
part_set m p (suc k) l fit =
    let i = p / 64 in
    let w = get_or m i 0 in
    let v = bit_or w ((2 ^ k - 1) * 2 ^ (p % 64)) in
    let q : (p + k) / 64 ≡ p / 64 = omega arith in
    let d : (p + k) % 64 ≡ p % 64 + k = omega arith in
    let s : suc k ≡ 1 + k = omega arith in
    let t : k + 1 ≡ suc k = omega arith in
    let word : set (set m i v) i (bit_or (get_or (set m i v) i 0) (2 ^ (p % 64 + k))) ≡ set m i (bit_or w ((2 ^ (1 + k) - 1) * 2 ^ (p % 64))) =
    set-set m i v (bit_or (get_or (set m i v) i 0) (2 ^ (p % 64 + k)))
    ∙ ap (λ (x : ℕ). set m i (bit_or x (2 ^ (p % 64 + k)))) (get_or-set_same m i v 0 l)
    ∙ ap (set m i) (ones_next w (p % 64) k) in
    let marked : with_marks (set m i v) (p + k) 1 ≡ set (set m i v) i (bit_or (get_or (set m i v) i 0) (2 ^ (p % 64 + k))) = rw (q, d) in
    ap (λ (n : ℕ). set m i (bit_or w ((2 ^ n - 1) * 2 ^ (p % 64)))) s ∙ sym word ∙ sym marked
    ∙ ap (λ (n : List ℕ). with_marks n (p + k) 1) (part_set m p k l (omega arith))
    ∙ sym (with_rows m p k 1) ∙ ap (with_marks m p) t

-- the pages from `at` up to `to`
module _ (m : List ℕ) (at to : ℕ) where
  -- those up to `end` are marked by their word, and the others are left
  pub marks_turn : (end : ℕ) → at ≤ end → end ≤ to → at / 64 < length m → at % 64 + (end - at) ≤ 64
      → with_marks (set m (at / 64) (bit_or (get_or m (at / 64) 0) ((2 ^ (end - at) - 1) * 2 ^ (at % 64)))) end (to - end) ≡ with_marks m at (to - at)
  marks_turn end a b l fit =
      let e : (end - at) + (to - end) ≡ to - at = omega arith in
      let f : end ≡ at + (end - at) = omega arith in
      ap₂ (λ (t : List ℕ) (x : ℕ). with_marks t x (to - end)) (part_set m at (end - at) l fit) f
      ∙ sym (with_rows m at (end - at) (to - end)) ∙ ap (with_marks m at) e

  -- none is left
  pub marks_done : to ≤ at → with_marks m at (to - at) ≡ m
  unfolding with_marks
  marks_done l = let e : to - at ≡ 0 = omega arith in ap (with_marks m at) e

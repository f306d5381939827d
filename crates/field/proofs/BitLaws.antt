-- Three ways in which two numbers stand, and the binary digits of words: of an and, an or, an xor, a single one, and the lowest.
-- Assumes nothing.
use mathlib.Core.Path.{◌≡◌, refl, sym, ap, ap₂, ◌∙◌}
use mathlib.Core.Logic.{◌⊎◌, inl, inr, ⊎_elim}
use Prim.Native.Nat.{ℕ, zero, suc, ◌+◌, ◌-◌, ◌*◌, ◌/◌, ◌%◌, ◌^◌, ◌≤◌, ◌<◌, max, min}
use native.Mathlib.Nat.{add-zero, one-mul, mod-lt, mod-one, zero-div, div-eq_of_lt, mul-mod_left}
use native.Mathlib.Numerals.{one-add}
use native.Mathlib.Omega.{arith}
use lib.Dec.{lit<}
use lib.Arith.{digits_mod}
use lib.Pow.{pow_pos, pow-lt, pow-add, shl-shr, shl_exact, split, field, mod-mod-pow, mod-pow-add}
use lib.Bits.{bit_and, bit_or, bit_xor, differ, and_shr, and_step, or_shr, or_step, xor_shr, xor_step, shifted_even, and_block, and_mask, and_zero_r}

pub tri : (a b : ℕ) → (a < b) ⊎ ((a ≡ b) ⊎ (b < a))
tri zero zero = inr (inl refl)
tri zero (suc b) = inl (omega arith)
tri (suc a) zero = inr (inr (omega arith))
tri (suc a) (suc b) = ⊎_elim (λ h. inl (omega arith)) (λ o. inr (⊎_elim (λ e. inl (ap suc e)) (λ h. inr (omega arith)) o)) (tri a b)

-- equal, or not
pub same_or : (a b : ℕ) → (a ≡ b) ⊎ (a ≡ b → ⊥)
same_or a b = ⊎_elim (λ h. inr (λ e. omega arith)) (⊎_elim inl (λ h. inr (λ e. omega arith))) (tri a b)

pub lt_or_le : (a b : ℕ) → (a < b) ⊎ (b ≤ a)
lt_or_le a b = ⊎_elim inl (⊎_elim (λ e. inr (omega arith)) (λ h. inr (omega arith))) (tri a b)

pub one_shl : (k : ℕ) → k < 64 → (1 * 2 ^ k) % 2 ^ 64 ≡ 2 ^ k
one_shl k h = shl_exact 1 k 64 (lit< tt) (omega arith) ∙ one-mul (2 ^ k)

-- ---- digits

pub digit_or : (a b k : ℕ) → bit_or a b / 2 ^ k % 2 ≡ max (a / 2 ^ k % 2) (b / 2 ^ k % 2)
digit_or a b k =
    ap (λ (x : ℕ). x % 2) (or_shr a b k ∙ or_step (a / 2 ^ k) (b / 2 ^ k))
    ∙ digits_mod (bit_or (a / 2 ^ k / 2) (b / 2 ^ k / 2)) (omega arith)

differ_lt : (x y : ℕ) → x < 2 → y < 2 → differ x y < 2
differ_lt zero y a b = b
differ_lt (suc zero) zero a b = a
differ_lt (suc zero) (suc y) a b = omega arith
differ_lt (suc (suc x)) y a b = absurd (omega arith)

pub digit_xor : (a b k : ℕ) → bit_xor a b / 2 ^ k % 2 ≡ differ (a / 2 ^ k % 2) (b / 2 ^ k % 2)
digit_xor a b k =
    ap (λ (x : ℕ). x % 2) (xor_shr a b k ∙ xor_step (a / 2 ^ k) (b / 2 ^ k))
    ∙ digits_mod (bit_xor (a / 2 ^ k / 2) (b / 2 ^ k / 2)) (differ_lt (a / 2 ^ k % 2) (b / 2 ^ k % 2) (omega arith) (omega arith))

pub differ-zero : (x : ℕ) → differ x 0 ≡ x
differ-zero zero = refl
differ-zero (suc x) = refl

pub digit_pow_same : (k : ℕ) → 2 ^ k / 2 ^ k % 2 ≡ 1
digit_pow_same k = ap (λ (x : ℕ). x % 2) (ap (λ (x : ℕ). x / 2 ^ k) (omega arith) ∙ shl-shr 1 k)

digit_pow_below : (j k : ℕ) → j < k → 2 ^ j / 2 ^ k % 2 ≡ 0
digit_pow_below j k h = ap (λ (x : ℕ). x % 2) (div-eq_of_lt (pow-lt h))

digit_pow_above : (d k : ℕ) → 2 ^ (suc d + k) / 2 ^ k % 2 ≡ 0
digit_pow_above d k =
    ap (λ (x : ℕ). x / 2 ^ k % 2) (pow-add 2 (suc d) k)
    ∙ ap (λ (x : ℕ). x % 2) (shl-shr (2 ^ suc d) k)
    ∙ ap (λ (x : ℕ). x % 2) (omega arith)
    ∙ shifted_even 1 d

pub digit_pow_other : (j k : ℕ) → (j ≡ k → ⊥) → 2 ^ j / 2 ^ k % 2 ≡ 0
digit_pow_other j k n = ⊎_elim (digit_pow_below j k) (⊎_elim (λ e. absurd (n e)) above) (tri j k)
  where
    above : k < j → 2 ^ j / 2 ^ k % 2 ≡ 0
    above h =
        let e : j ≡ suc (j - k - 1) + k = omega arith in
        ap (λ (x : ℕ). 2 ^ x / 2 ^ k % 2) e ∙ digit_pow_above (j - k - 1) k

pub and_pow : (w k : ℕ) → bit_and w (2 ^ k) ≡ (w / 2 ^ k % 2) * 2 ^ k
and_pow w k =
    let e : 2 ^ k ≡ 1 * 2 ^ k + 0 = omega arith in
    ap₂ bit_and (sym (split w k)) e ∙ and_block k (w / 2 ^ k) 1 (w % 2 ^ k) 0 (mod-lt w (pow_pos k)) (pow_pos k)
    ∙ ap₂ (λ (x y : ℕ). x * 2 ^ k + y) (and_mask (w / 2 ^ k) 1) (and_zero_r (w % 2 ^ k)) ∙ add-zero ((w / 2 ^ k % 2) * 2 ^ k)

pub digit_and : (a b k : ℕ) → bit_and a b / 2 ^ k % 2 ≡ min (a / 2 ^ k % 2) (b / 2 ^ k % 2)
digit_and a b k =
    ap (λ (x : ℕ). x % 2) (and_shr a b k ∙ and_step (a / 2 ^ k) (b / 2 ^ k))
    ∙ digits_mod (bit_and (a / 2 ^ k / 2) (b / 2 ^ k / 2)) (omega arith)

-- ---- the k lowest digits

-- they are all 0 where the number is a multiple of 2 ^ k, and only there
pub low_digits_zero : (x k : ℕ) → x % 2 ^ k ≡ 0 → (j : ℕ) → j < k → x / 2 ^ j % 2 ≡ 0
low_digits_zero x k e j l =
    let y = x / 2 ^ j in
    let d = k - j - 1 in
    let f : k ≡ d + 1 + j = omega arith in
    let h : y % 2 ^ (d + 1) ≡ 0 =
    sym (field x (d + 1) j) ∙ ap (λ (n : ℕ). x % 2 ^ n / 2 ^ j) (sym f) ∙ ap (λ (n : ℕ). n / 2 ^ j) e ∙ zero-div (2 ^ j) in
    sym (mod-mod-pow y d 1) ∙ ap (λ (n : ℕ). n % 2) h

pub low_digits_of_zero : (x k : ℕ) → ((j : ℕ) → j < k → x / 2 ^ j % 2 ≡ 0) → x % 2 ^ k ≡ 0
low_digits_of_zero x zero h = mod-one x
low_digits_of_zero x (suc k) h =
    let d = h k (omega arith) in
    ap (λ (n : ℕ). x % 2 ^ n) (sym (one-add k)) ∙ mod-pow-add x 1 k
    ∙ omega (arith, ap (λ (n : ℕ). n * 2 ^ k) d, low_digits_of_zero x k (λ j l. h j (omega arith)))

-- what a shift to the left keeps in a word of k + d digits
pub shl_low : (x k d : ℕ) → (x * 2 ^ d) % 2 ^ (k + d) ≡ x % 2 ^ k * 2 ^ d
shl_low x k d =
    mod-pow-add (x * 2 ^ d) k d ∙ ap₂ (λ (y z : ℕ). y % 2 ^ k * 2 ^ d + z) (shl-shr x d) (mul-mod_left x (2 ^ d)) ∙ add-zero (x % 2 ^ k * 2 ^ d)

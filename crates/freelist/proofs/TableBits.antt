-- One bit of a word, and one bit of the table: what `with_bit` and `put_bit` change.
-- Assumes nothing.
use mathlib.Core.Path.{◌≡◌, refl, sym, ap, ap₂, ◌∙◌}
use mathlib.Core.Logic.{⊎_elim}
use mathlib.Core.List.{List}
use mathlib.Core.Bool.{Bool, true, false}
use Prim.Native.Nat.{ℕ, zero, suc, ◌*◌, ◌/◌, ◌%◌, ◌^◌, ◌<◌, max}
use native.Mathlib.Nat.{max-zero}
use native.Mathlib.Omega.{arith}
use borrow.Author.Tests.{eqb-true, eqb-false}
use lib.Dec.{eqb}
use lib.Bits.{bit_and, bit_or, differ, or_add_and, xor_add_and}
use lib.ListN.{length, get_or, set, length-set}
use lib.Seq.{get_or-set_same, get_or-set_other, set-get_or}
use Rattle.field.proofs.BitLaws.{same_or, digit_or, digit_xor, differ-zero, digit_pow_same, digit_pow_other, and_pow}
use Rattle.freelist.specs.Table.{bit, with_bit, put_bit}

-- ---- one bit of a word

module _ (w k : ℕ) where
  or_on : bit_or w (2 ^ k) / 2 ^ k % 2 ≡ 1
  or_on = digit_or w (2 ^ k) k ∙ omega (arith, digit_pow_same k)

  -- bit k is what it was made
  pub with_same : (b : Bool) → eqb (with_bit w k b / 2 ^ k % 2) 1 ≡ b
  with_same true = rw or_on
  with_same false =
      let e = digit_xor (bit_or w (2 ^ k)) (2 ^ k) k in
      ap (λ (x : ℕ). eqb x 1) (e ∙ ap₂ differ or_on (digit_pow_same k))

  or_other : (j : ℕ) → (k ≡ j → ⊥) → bit_or w (2 ^ k) / 2 ^ j % 2 ≡ w / 2 ^ j % 2
  or_other j n =
      digit_or w (2 ^ k) j ∙ ap (λ (x : ℕ). max (w / 2 ^ j % 2) x) (digit_pow_other k j n) ∙ max-zero (w / 2 ^ j % 2)

  -- every other bit is as it was
  pub with_other : (j : ℕ) (b : Bool) → (k ≡ j → ⊥) → with_bit w k b / 2 ^ j % 2 ≡ w / 2 ^ j % 2
  with_other j true n = or_other j n
  with_other j false n =
      digit_xor (bit_or w (2 ^ k)) (2 ^ k) j
      ∙ ap₂ differ (or_other j n) (digit_pow_other k j n) ∙ differ-zero (w / 2 ^ j % 2)

  -- a bit made what it was changes nothing
  pub with_own : (b : Bool) → eqb (w / 2 ^ k % 2) 1 ≡ b → with_bit w k b ≡ w
  with_own true e =
      let d = eqb-true (w / 2 ^ k % 2) 1 e in
      let m : bit_and w (2 ^ k) ≡ 1 * 2 ^ k = and_pow w k ∙ ap (λ (x : ℕ). x * 2 ^ k) d in
      omega (arith, or_add_and w (2 ^ k))
  with_own false e =
      let n = eqb-false (w / 2 ^ k % 2) 1 e in
      let d : w / 2 ^ k % 2 ≡ 0 = below_two (w / 2 ^ k % 2) (omega arith) n in
      let m : bit_and w (2 ^ k) ≡ 0 * 2 ^ k = and_pow w k ∙ ap (λ (x : ℕ). x * 2 ^ k) d in
      let v = bit_or w (2 ^ k) in
      let l : bit_and v (2 ^ k) ≡ 1 * 2 ^ k = and_pow v k ∙ ap (λ (x : ℕ). x * 2 ^ k) or_on in
      omega (arith, or_add_and w (2 ^ k), xor_add_and v (2 ^ k))
    where
      below_two : (x : ℕ) → x < 2 → (x ≡ 1 → ⊥) → x ≡ 0
      below_two zero l n = refl
      below_two (suc zero) l n = absurd (n refl)
      below_two (suc (suc x)) l n = absurd (omega arith)

-- ---- one bit of the table

pub length_put_bit : (t : List ℕ) (j : ℕ) (b : Bool) → length (put_bit t j b) ≡ length t
unfolding put_bit
length_put_bit t j b = simp length-set

module _ (t : List ℕ) (j : ℕ) (b : Bool) where
  pub bit_same : j / 64 < length t → bit (put_bit t j b) j ≡ b
  unfolding bit put_bit
  bit_same l =
      ap (λ (x : ℕ). eqb (x / 2 ^ (j % 64) % 2) 1) (get_or-set_same t (j / 64) (with_bit (get_or t (j / 64) 0) (j % 64) b) 0 l)
      ∙ with_same (get_or t (j / 64) 0) (j % 64) b

  pub bit_other : (i : ℕ) → (j ≡ i → ⊥) → j / 64 < length t → bit (put_bit t j b) i ≡ bit t i
  unfolding bit put_bit
  bit_other i n l = ⊎_elim near far (same_or (i / 64) (j / 64))
    where
      near : i / 64 ≡ j / 64 → bit (put_bit t j b) i ≡ bit t i
      near e =
          ap (λ (x : ℕ). eqb (get_or (put_bit t j b) x 0 / 2 ^ (i % 64) % 2) 1) e
          ∙ ap (λ (x : ℕ). eqb (x / 2 ^ (i % 64) % 2) 1) (get_or-set_same t (j / 64) (with_bit (get_or t (j / 64) 0) (j % 64) b) 0 l)
          ∙ ap (λ (x : ℕ). eqb x 1) (with_other (get_or t (j / 64) 0) (j % 64) (i % 64) b (λ h. n (omega arith)))
          ∙ ap (λ (x : ℕ). eqb (get_or t x 0 / 2 ^ (i % 64) % 2) 1) (sym e)

      far : (i / 64 ≡ j / 64 → ⊥) → bit (put_bit t j b) i ≡ bit t i
      far d = ap (λ (x : ℕ). eqb (x / 2 ^ (i % 64) % 2) 1) (get_or-set_other t (j / 64) (i / 64) (with_bit (get_or t (j / 64) 0) (j % 64) b) 0 d)

  -- the words that hold other bits, or none, are as they were
  pub word_other : (i : ℕ) → (i ≡ j / 64 → ⊥) → get_or (put_bit t j b) i 0 ≡ get_or t i 0
  unfolding put_bit
  word_other i d = get_or-set_other t (j / 64) i (with_bit (get_or t (j / 64) 0) (j % 64) b) 0 d

  pub put_own_bit : bit t j ≡ b → put_bit t j b ≡ t
  unfolding bit put_bit
  put_own_bit e = ap (set t (j / 64)) (with_own (get_or t (j / 64) 0) (j % 64) b e) ∙ set-get_or t (j / 64) 0

-- a store past the bits leaves them
pub bit_store : (t : List ℕ) (i x j : ℕ) → j / 64 < i → bit (set t i x) j ≡ bit t j
unfolding bit
bit_store t i x j l = ap (λ (y : ℕ). eqb (y / 2 ^ (j % 64) % 2) 1) (get_or-set_other t i (j / 64) x 0 (λ e. omega arith))

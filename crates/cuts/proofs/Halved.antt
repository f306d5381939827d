-- A whole number times one half, in a format that holds the number: an even number up to 2 ^ prec is halved exactly, and its half casts back.
-- An allowed page size is such a number. Assumes nothing.
use mathlib.Core.Path.{◌≡◌, refl, ◌∙◌}
use mathlib.Core.Bool.{true, false}
use Prim.Native.Nat.{ℕ, ◌*◌, ◌/◌, ◌%◌, ◌^◌, ◌≤◌, ◌<◌}
use native.Mathlib.Omega.{arith}
use lib.Dec.{T, le→leb, lit<}
use lib.IntN.{pos}
use borrow.Author.Tests.{leb-true, eqb-true}
use lib.Ieee.{Float, Format, binary32, prec, round, mul, of_int, of_bits, in_float, in_unsigned, to_unsigned}
use lib.Ieee.Exact.{HasValue}
use lib.Ieee.Back.{round_whole, unsigned_back}
use lib.Ieee.Positive.{mul_at, positive_of_value}
use lib.Ieee.Scale.{round_same}
use Rattle.field.specs.Sizes.{size_allowed}
use Rattle.page.proofs.TestLaws.{and_both}
use Rattle.cuts.specs.Split.{threshold}

-- what an allowed page size is
pub size_range : (P : ℕ) → size_allowed P ≡ true → (1024 ≤ P) × (P ≤ 65536) × (P % 8 ≡ 0)
size_range P e =
    let both = and_both _ _ e in
    let rest = and_both _ _ both.1 in
    (leb-true 1024 P both.0, leb-true P 65536 rest.0, eqb-true (P % 8) 0 rest.1)

in_float_lem : (f : Format) (n : ℕ) → n ≤ 2 ^ prec f → T (in_float f (pos n))
unfolding in_float
in_float_lem f n h = le→leb n (2 ^ prec f) h

module _ (f : Format) (h : Float) (n : ℕ) (half : HasValue h false 1 2) (lo : 0 < n) (hi : n ≤ 2 ^ prec f) (even : n % 2 ≡ 0) where
  -- n times a float that is one half
  halved : mul f (of_int f (pos n)) h ≡ of_int f (pos (n / 2))
  unfolding of_int
  halved =
      let v : HasValue (round f false n 1) false n 1 = round_whole f false n hi in
      mul_at f (round f false n 1) h n 1 1 2 (positive_of_value (round f false n 1) n 1 v lo) (positive_of_value h 1 2 half (lit< tt)) (lit< tt) (lit< tt) v half
      ∙ round_same f false (n * 1) 2 (n / 2) 1 (lit< tt) (lit< tt) (omega arith)

  back : (w : ℕ) → n / 2 < 2 ^ w → T (in_unsigned f w (mul f (of_int f (pos n)) h)) × (to_unsigned w (mul f (of_int f (pos n)) h) ≡ n / 2)
  back w fits = rw halved (unsigned_back f w (n / 2) (in_float_lem f (n / 2) (omega arith)) fits)

-- ---- P times 0.5
half_is : HasValue (of_bits binary32 0x3f00_0000) false 1 2
unfolding of_bits
half_is = (refl, refl)

-- an allowed P is an f32; its product with 0.5 is cast to u64 with nothing lost, and is the threshold
module _ (P : ℕ) (h : size_allowed P ≡ true) where
  pub size_exact : T (in_float binary32 (pos P))
  size_exact = let r = size_range P h in in_float_lem binary32 P (omega arith)

  pub threshold_exact : let x = mul binary32 (of_int binary32 (pos P)) (of_bits binary32 0x3f00_0000) in
      T (in_unsigned binary32 64 x) × (to_unsigned 64 x ≡ threshold P)
  threshold_exact =
      let r = size_range P h in
      back binary32 _ P half_is (omega arith) (omega arith) (omega arith) 64 (omega arith)

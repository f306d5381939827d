-- Where the pages and blocks of an image with allowed sizes lie. Assumes nothing.
use mathlib.Core.Path.{◌≡◌, refl}
use mathlib.Core.Bool.{Bool, true, false, not}
use mathlib.Core.List.{List}
use Prim.Native.Nat.{ℕ, suc, ◌+◌, ◌-◌, ◌*◌, ◌≤◌, ◌<◌}
use native.Mathlib.Nat.{suc-mul, mul-le-mul_left, mul-le-mul_right, add-sub_cancel_left}
use native.Mathlib.Omega.{arith}
use borrow.Author.Tests.{leb-true, leb-false, le-ltb, lt-ltb}
use lib.Dec.{leb, ltb}
use lib.ListN.{length, take, drop, length-drop}
use Rattle.field.specs.Sizes.{size_allowed, count_allowed}
use Rattle.page.specs.Layout.{overflow_of}
use Rattle.page.specs.PageRules.{block_of}
use Rattle.page.proofs.TestLaws.{and_both}
use Rattle.view.specs.Geometry.{SoundSizes, geometry_bad}
use Rattle.view.proofs.ViewFrame.{block_end, block_is, block_length, block_page}

-- ---- geometry, test by test
module _ (image : List ℕ) (P N : ℕ) where
  pub size_bad : size_allowed P ≡ false → geometry_bad image P N ≡ true
  unfolding geometry_bad
  size_bad e = rw e

  pub count_bad : size_allowed P ≡ true → count_allowed N ≡ false → geometry_bad image P N ≡ true
  unfolding geometry_bad
  count_bad e f = rw (e, f)

  pub length_test : size_allowed P ≡ true → count_allowed N ≡ true → ltb (length image) (N * P) ≡ geometry_bad image P N
  unfolding geometry_bad
  length_test e f = rw (e, f) (go (leb (N * P) (length image)) refl)
    where
      go : (t : Bool) → leb (N * P) (length image) ≡ t → ltb (length image) (N * P) ≡ not t
      go true h = le-ltb (length image) (N * P) (leb-true (N * P) (length image) h)
      go false h = lt-ltb (length image) (N * P) (leb-false (N * P) (length image) h)

-- N times P bytes are few
pub area : (P N : ℕ) → size_allowed P ≡ true → count_allowed N ≡ true → N * P ≤ 2147483648
area P N e f =
    let s = leb-true P 65536 (and_both (leb P 65536) _ (and_both (leb 1024 P) _ e).1).0 in
    let c = leb-true N 32768 (and_both (leb 2 N) _ f).1 in
    let a = mul-le-mul_left N s in
    let b = mul-le-mul_right 65536 c in
    omega arith

pub sizes_area : (image : List ℕ) (P N : ℕ) → SoundSizes image P N → N * P ≤ 2147483648
sizes_area image P N s =
    let a = mul-le-mul_left N s.most_size in
    let b = mul-le-mul_right 65536 s.most_count in
    omega arith

module _ (image : List ℕ) (P N q : ℕ) (sizes : SoundSizes image P N) where
  -- a page lies within the image
  pub page_room : q < N → q * P + P ≤ length image
  page_room l =
      let h : suc q ≤ N = omega arith in
      omega (arith, suc-mul q P, mul-le-mul_right P h, sizes.holds)

  pub rest_room : q < N → P ≤ length (drop (q * P) image)
  rest_room l = rw length-drop (omega (arith, page_room l))

  -- and so does a block of pages below N
  module _ (ends : q + overflow_of (drop (q * P) image) < N) where
    pub block_room : q * P + (overflow_of (drop (q * P) image) + 1) * P ≤ length image
    block_room = block_end image P N q ends sizes.holds

    pub block_part : (o : ℕ) → o ≡ overflow_of (drop (q * P) image) → take (q * P + (o + 1) * P - q * P) (drop (q * P) image) ≡ block_of image P q
    block_part o e = rw (block_is image P q, add-sub_cancel_left (q * P) ((o + 1) * P), e)

    pub block_least : P ≤ length (block_of image P q)
    block_least = block_page image P N q ends sizes.holds

    pub block_fits : q * P + length (block_of image P q) ≤ length image
    block_fits = let e = block_length image P N q ends sizes.holds in rw e block_room

    -- a block has at most N times P bytes
    pub block_small : length (block_of image P q) ≤ 2147483648
    block_small =
        let e = block_length image P N q ends sizes.holds in
        let h : overflow_of (drop (q * P) image) + 1 ≤ N = omega arith in
        let m = mul-le-mul_right P h in
        omega (arith, sizes_area image P N sizes)

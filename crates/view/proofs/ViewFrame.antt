-- The block of a page whose header is sound lies within the image, and a page's view and the pages of its block are decided by its block.
-- Assumes nothing.
use mathlib.Core.Path.{◌≡◌, refl, sym, ◌∙◌}
use mathlib.Core.Bool.{Bool, false, not, ◌||◌}
use mathlib.Core.List.{List}
use Prim.Native.Nat.{ℕ, zero, suc, ◌+◌, ◌*◌, ◌≤◌, ◌<◌}
use native.Mathlib.Nat.{add-mul, mul-le-mul_right, one-mul}
use native.Mathlib.Omega.{arith}
use borrow.Author.Tests.{leb-false}
use lib.Dec.{leb, eqb}
use lib.ListN.{length, get_or, take, drop, length-drop}
use lib.Seq.{length-take-le, get_or-take, get_or-drop, ext_get_or}
use Rattle.field.specs.Field.{field}
use Rattle.page.specs.Layout.{id_of, type_of, overflow_of, is_branch, is_leaf}
use Rattle.page.specs.PageRules.{header_bad, block_of}
use Rattle.page.proofs.TestLaws.{or_neither}
use Rattle.view.specs.View.{view_of, pages_of}

-- equal bytes make equal fields
pub field_ext : (w : ℕ) (s t : List ℕ) (at : ℕ) → ((j : ℕ) → j < at + w → get_or s j 0 ≡ get_or t j 0) → field w s at ≡ field w t at
unfolding field
field_ext zero s t at h = refl
field_ext (suc w) s t at h =
    let a = h at (omega arith) in
    let b = field_ext w s t (at + 1) (λ j l. h j (omega arith)) in
    omega arith

pub block_is : (image : List ℕ) (P q : ℕ) → block_of image P q ≡ take ((overflow_of (drop (q * P) image) + 1) * P) (drop (q * P) image)
unfolding block_of
block_is image P q = refl

-- a header that keeps rule 4 has its block within N pages
pub header_ends : (N q : ℕ) (s : List ℕ) → header_bad N q s ≡ false → q + overflow_of s < N
unfolding header_bad
header_ends N q s e =
    let a = or_neither (not (eqb (id_of s) q)) _ e in
    let b = or_neither (not (is_branch s || is_leaf s)) (leb N (q + overflow_of s)) a.1 in
    leb-false _ _ b.1

module _ (image : List ℕ) (P N q : ℕ) (ends : q + overflow_of (drop (q * P) image) < N) (holds : N * P ≤ length image) where
  abbrev overflow : ℕ
  overflow = overflow_of (drop (q * P) image)

  -- the block ends within the image
  pub block_end : q * P + (overflow + 1) * P ≤ length image
  block_end =
      let h : q + (overflow + 1) ≤ N = omega arith in
      let m = mul-le-mul_right P h in
      omega (arith, add-mul q (overflow + 1) P)

  pub block_length : length (block_of image P q) ≡ (overflow + 1) * P
  unfolding block_of
  block_length = length-take-le ((overflow + 1) * P) (drop (q * P) image) (let e = block_end in rw length-drop (omega arith))

  -- it has a page at least
  pub block_page : P ≤ length (block_of image P q)
  block_page = omega (arith, block_length, add-mul overflow 1 P, one-mul P)

  -- another image with the same bytes there has the same view and the same pages
  module _ (image' : List ℕ) (sized : 1024 ≤ P) (same_length : length image' ≡ length image)
      (same_bytes : (k : ℕ) → q * P ≤ k → k < q * P + length (block_of image P q) → get_or image' k 0 ≡ get_or image k 0)
    where
      same_at : (j : ℕ) → j < length (block_of image P q) → get_or (drop (q * P) image') j 0 ≡ get_or (drop (q * P) image) j 0
      same_at j l = get_or-drop (q * P) image' j 0 ∙ same_bytes (q * P + j) (omega arith) (omega arith) ∙ sym (get_or-drop (q * P) image j 0)

      same_field : (at : ℕ) → at + 8 ≤ 1024 → field 8 (drop (q * P) image') at ≡ field 8 (drop (q * P) image) at
      same_field at l = field_ext 8 (drop (q * P) image') (drop (q * P) image) at (λ j m. same_at j (omega (arith, block_page)))

      same_type : type_of (drop (q * P) image') ≡ type_of (drop (q * P) image)
      same_type = same_at 8 (omega (arith, block_page))

      pub same_header : header_bad N q (drop (q * P) image') ≡ header_bad N q (drop (q * P) image)
      unfolding header_bad
      same_header = rw (same_field 0 (omega arith), same_type, same_field 24 (omega arith))

      pub same_block : block_of image' P q ≡ block_of image P q
      unfolding block_of
      same_block =
          let n : ℕ = (overflow + 1) * P in
          let e = block_end in
          let a : length (take n (drop (q * P) image')) ≡ n = length-take-le n (drop (q * P) image') (rw length-drop (omega arith)) in
          let b : length (take n (drop (q * P) image)) ≡ n = length-take-le n (drop (q * P) image) (rw length-drop (omega arith)) in
          rw (same_field 24 (omega arith))
          (ext_get_or 0 (take n (drop (q * P) image')) (take n (drop (q * P) image)) (a ∙ sym b)
          (λ i l.
          get_or-take n (drop (q * P) image') i 0 (omega arith)
          ∙ same_at i (omega (arith, block_length))
          ∙ sym (get_or-take n (drop (q * P) image) i 0 (omega arith))))

      pub same_view : (top : Bool) → view_of image' P N q top ≡ view_of image P N q top
      unfolding view_of
      same_view top = rw (same_header, same_block)

      pub same_pages : pages_of image' P N q ≡ pages_of image P N q
      unfolding pages_of
      same_pages = rw (same_header, same_field 24 (omega arith))

-- The block of a page in an image: it has the header that its first page has, and is as long as its overflow says.
-- Assumes nothing.
use mathlib.Core.Path.{◌≡◌}
use mathlib.Core.List.{List}
use Prim.Native.Nat.{ℕ, ◌+◌, ◌*◌, ◌≤◌}
use native.Mathlib.Nat.{add-mul, one-mul}
use native.Mathlib.Omega.{arith}
use lib.ListN.{length, drop, length-drop}
use lib.Seq.{length-take-le}
use Rattle.page.specs.Layout.{overflow_of}
use Rattle.page.specs.PageRules.{header_bad, block_of}
use Rattle.page.proofs.LayoutLaws.{SameHeader, header_of_block}

module _ (image : List ℕ) (P q : ℕ) where
  pub block_header : 32 ≤ P → SameHeader (block_of image P q) (drop (q * P) image)
  unfolding block_of
  block_header h =
      let o = overflow_of (drop (q * P) image) in
      header_of_block ((o + 1) * P) (drop (q * P) image) (omega (arith, add-mul o 1 P, one-mul P))

  pub length_block : (q + overflow_of (drop (q * P) image) + 1) * P ≤ length image → length (block_of image P q) ≡ (overflow_of (drop (q * P) image) + 1) * P
  unfolding block_of
  length_block h =
      let o = overflow_of (drop (q * P) image) in
      length-take-le ((o + 1) * P) (drop (q * P) image) (rw length-drop (omega (arith, add-mul (q + o) 1 P, add-mul q o P, add-mul o 1 P)))

-- rule 4 looks at the header alone
pub header_same : (N q : ℕ) (b s : List ℕ) → SameHeader b s → header_bad N q b ≡ header_bad N q s
unfolding header_bad
header_same N q b s h = rw (h.id, h.type, h.overflow)

-- Laws of the pieces' blocks: how many pages they take as the code counts them, and the turns of the loops over them.
-- Assumes nothing.
use mathlib.Core.Path.{◌≡◌, refl, sym}
use mathlib.Core.Bool.{Bool, true, false}
use mathlib.Core.List.{List, [], ◌∷◌, ◌++◌}
use Prim.Native.Nat.{ℕ, suc, ◌+◌, ◌-◌, ◌*◌, ◌≤◌, ◌<◌, min}
use native.Mathlib.Nat.{le-div_iff_mul-le, mul-le-mul_right, add-mul, div-eq_of_lt-le}
use Rattle.std.proofs.lemmas.Grind.{div_ceil_times}
use Rattle.std.specs.Int.{div_ceil}
use native.Mathlib.Numerals.{add-one}
use native.Mathlib.Omega.{arith}
use lib.Dec.{leb}
use lib.ListN.{length, get_or, drop, drop_of_length-le}
use lib.Seq.{drop-cons}
use borrow.Author.Tests.{le-leb, lt-leb, leb-true, leb-false}
use Rattle.std.specs.Prelude.{Some, None, unwrap_or}
use Rattle.std.specs.declared.option.Option.{Option}
use Rattle.page.specs.Layout.{Entry, count_of}
use Rattle.page.proofs.TestLaws.{leb_same, and_both}
use Rattle.field.specs.Sizes.{pages_needed, block_inside}
use Rattle.pack.specs.Pack.{block_size, pack}
use Rattle.pack.specs.Plan.{range}
use Rattle.cuts.specs.Run.{cuts_after, first_cut, piece_end, pieces_after}
use Rattle.split.specs.Write.{span_of, spans_of, bytes_in, pack_all, capped_spans}
use Rattle.cuts.proofs.RunLaws.{next_after}

-- ---- where a piece ends
-- it lies between the piece's start and the block's end
pub end_between : (leaf : Bool) (t : ℕ) (b : List ℕ) (end c : ℕ) → c ≤ count_of b → end ≤ count_of b
    → (c ≤ piece_end leaf t b end c) × (piece_end leaf t b end c ≤ count_of b)
end_between leaf t b end c h k = go (first_cut (cuts_after leaf t b end c)) refl
  where
    go : (o : Option ℕ) → o ≡ first_cut (cuts_after leaf t b end c) → (c ≤ unwrap_or o (count_of b)) × (unwrap_or o (count_of b) ≤ count_of b)
    go None e = (h, omega arith)
    go (Some next) e = let r = next_after leaf t b end c next e in (omega arith, omega arith)

-- ---- pages
-- a quotient rounded up, as the code takes it
pub pages_up : (size P : ℕ) → 0 < P → div_ceil size P ≡ pages_needed size P
pages_up size P some =
    let k : ℕ = div_ceil size P in
    let d = div_ceil_times size P some in
    let n = add-mul k 1 P in
    sym (div-eq_of_lt-le {k = k} P (omega arith) (omega arith))

-- a size counted past the largest image takes more pages than any image has
pub span_counted : (size s P : ℕ) → 1024 ≤ P → P ≤ 65536 → s ≡ min size 2147483649
    → min (div_ceil s P) 32769 ≡ min (pages_needed size P) 32769
span_counted size s P lo hi e = rw (pages_up s P (omega arith)) (go (leb size 2147483648) refl)
  where
    go : (q : Bool) → leb size 2147483648 ≡ q → min (pages_needed s P) 32769 ≡ min (pages_needed size P) 32769
    go true p = let l = leb-true size 2147483648 p in let f : s ≡ size = omega arith in rw f
    go false p =
        let l = leb-false size 2147483648 p in
        let some : 0 < P = omega arith in
        let x : 32769 ≤ pages_needed s P = (le-div_iff_mul-le some).1 (omega arith) in
        let y : 32769 ≤ pages_needed size P = (le-div_iff_mul-le some).1 (omega arith) in
        omega arith

-- the bytes of a block whose pages are counted so
pub bytes_small : (m P : ℕ) → m ≤ 32769 → P ≤ 65536 → m * P ≤ 2147549184
bytes_small m P h k = let x = mul-le-mul_right P h in omega arith

-- a block that lies inside ends by the image's end
pub inside_end : (N q k : ℕ) → block_inside N q k ≡ true → q + k ≤ N
inside_end N q k e = leb-true (q + k) N (and_both (leb 2 q) (leb (q + k) N) e).1

-- ---- a turn of each loop over the pieces: the piece from entry c to e is the first of those that are left
module _ (leaf : Bool) (t : ℕ) (b : List ℕ) (end : ℕ) where
  pub after_next : (n k c e : ℕ) → n ≡ suc k → e ≡ piece_end leaf t b end c
      → pieces_after leaf t b end n c ≡ range leaf b c e ∷ pieces_after leaf t b end k e
  unfolding pieces_after
  after_next n k c e hn he = rw (hn, he)

  module _ (P : ℕ) (pages : List ℕ) (at c e : ℕ) (l : at < length pages) (he : e ≡ piece_end leaf t b end c) where
    next : pieces_after leaf t b end (length pages - at) c ≡ range leaf b c e ∷ pieces_after leaf t b end (length pages - (at + 1)) e
    next = after_next (length pages - at) (length pages - (at + 1)) c e (omega arith) he

    pub bytes_turn : bytes_in P (spans_of leaf P (pieces_after leaf t b end (length pages - at) c))
        ≡ block_size leaf (range leaf b c e) P + bytes_in P (spans_of leaf P (pieces_after leaf t b end (length pages - (at + 1)) e))
    unfolding bytes_in
    bytes_turn = rw next

    pub pack_turn : pack_all leaf P (drop at pages) (pieces_after leaf t b end (length pages - at) c)
        ≡ pack leaf (get_or pages at 0) (range leaf b c e) P ++ pack_all leaf P (drop (at + 1) pages) (pieces_after leaf t b end (length pages - (at + 1)) e)
    unfolding pack_all
    pack_turn = rw (next, drop-cons pages at 0 l, add-one at)

  -- at the end of the list nothing is left
  module _ (P : ℕ) (pages : List ℕ) (at c : ℕ) (l : length pages ≤ at) where
    pub bytes_done : bytes_in P (spans_of leaf P (pieces_after leaf t b end (length pages - at) c)) ≡ 0
    unfolding bytes_in pieces_after
    bytes_done = let e : length pages - at ≡ 0 = omega arith in rw e

    pub pack_done : (ps : List (List Entry)) → pack_all leaf P (drop at pages) ps ≡ []
    unfolding pack_all
    pack_done ps = rw (drop_of_length-le pages l)

  -- so many bytes, against the room that is left
  pub fits_turn : (P n k c e m room : ℕ) → n ≡ suc k → e ≡ piece_end leaf t b end c → m ≡ min (span_of leaf P (range leaf b c e)) 32769 → m * P ≤ room
      → leb (bytes_in P (capped_spans leaf P (pieces_after leaf t b end n c))) room
      ≡ leb (bytes_in P (capped_spans leaf P (pieces_after leaf t b end k e))) (room - m * P)
  unfolding bytes_in
  fits_turn P n k c e m room hn he hm l =
      rw (after_next n k c e hn he, ← hm) (leb_same _ room _ (room - m * P) (λ x. omega arith) (λ x. omega arith))

  pub fits_past : (P n k c e m room : ℕ) → n ≡ suc k → e ≡ piece_end leaf t b end c → m ≡ min (span_of leaf P (range leaf b c e)) 32769 → room < m * P
      → leb (bytes_in P (capped_spans leaf P (pieces_after leaf t b end n c))) room ≡ false
  unfolding bytes_in
  fits_past P n k c e m room hn he hm l =
      rw (after_next n k c e hn he, ← hm) (lt-leb _ room (omega arith))

  pub fits_done : (P n c room : ℕ) → n ≡ 0 → leb (bytes_in P (capped_spans leaf P (pieces_after leaf t b end n c))) room ≡ true
  unfolding bytes_in pieces_after
  fits_done P n c room e = rw e (le-leb 0 room (omega arith))

-- Laws of a list of blocks against a set of marked pages: one pass over the blocks, in which the pages of each are looked up and then marked, tells
-- whether all are placed; and the turns of the loop that makes it.
-- Assumes nothing.
use mathlib.Core.Path.{◌≡◌, refl, sym, ◌∙◌}
use mathlib.Core.Bool.{Bool, true, false, ◌&&◌, ◌||◌, and-false}
use mathlib.Core.List.{List, [], ◌∷◌}
use mathlib.Core.Logic.{inl, inr, ⊎_elim}
use Prim.Native.Nat.{ℕ, ◌+◌, ◌-◌, ◌≤◌, ◌<◌, min, max}
use native.Mathlib.Numerals.{add-one}
use native.Mathlib.Omega.{arith}
use lib.Dec.{leb}
use lib.ListN.{length, get_or, drop, drop_of_length-le}
use lib.Seq.{drop-cons}
use borrow.Author.Tests.{le-leb, lt-leb, leb-true, leb-false, eqb-true, eqb-false}
use Rattle.field.specs.Marks.{mark, Marked, with_marks, lowest_marked, no_marks}
use Rattle.field.specs.Sizes.{block_inside}
use Rattle.field.proofs.MarkLaws.{withs_marked, length_withs, lowest_le, lowest_none, lowest_found, mark_none, length_none}
use Rattle.page.specs.Layout.{Entry}
use Rattle.pack.specs.Pack.{node_size}
use Rattle.pack.specs.Plan.{range}
use Rattle.pack.proofs.PackLaws.{one_page}
use Rattle.size.proofs.SizeLaws.{size_least}
use Rattle.cuts.specs.Run.{piece_end, pieces_after}
use Rattle.split.specs.Write.{span_of, apart, clear_of, placed, capped_spans}
use Rattle.split.proofs.WriteLaws.{after_next, inside_end}

-- ---- one block against the marks
-- none of the k pages from q on is marked
abbrev unmarked_at : List ℕ → ℕ → ℕ → Bool
unmarked_at m q k = leb (q + k) (lowest_marked m q k)

-- the same, page by page
abbrev Unmarked : List ℕ → ℕ → ℕ → Type 0
Unmarked m q k = (j : ℕ) → q ≤ j → j < q + k → Marked m j → ⊥

unmarked_each : (m : List ℕ) (q k : ℕ) → unmarked_at m q k ≡ true → Unmarked m q k
unmarked_each m q k e j a b h =
    let l = leb-true (q + k) (lowest_marked m q k) e in
    eqb-false (mark m j) 1 (lowest_none m q k (omega (arith, lowest_le m q k)) j a b) h

each_unmarked : (m : List ℕ) (q k : ℕ) → Unmarked m q k → unmarked_at m q k ≡ true
each_unmarked m q k f = go (unmarked_at m q k) refl
  where
    go : (t : Bool) → unmarked_at m q k ≡ t → t ≡ true
    go true e = refl
    go false e =
        let l = leb-false (q + k) (lowest_marked m q k) e in
        let r = lowest_found m q k l in
        absurd (f (lowest_marked m q k) r.0 l (eqb-true (mark m (lowest_marked m q k)) 1 r.1))

same_test : (s t : Bool) → (s ≡ true → t ≡ true) → (t ≡ true → s ≡ true) → s ≡ t
same_test true t p q = sym (p refl)
same_test false true p q = q refl
same_test false false p q = refl

-- with the k pages from q on marked too, a block has no marked page where it had none and is apart from them
unmarked_with : (m : List ℕ) (q k r n : ℕ) → length m ≡ 512 → q + k ≤ 32768 → 0 < k → 0 < n
    → unmarked_at (with_marks m q k) r n ≡ (apart q k r n && unmarked_at m r n)
unmarked_with m q k r n long small some any = go (leb (q + k) r) (leb (r + n) q) refl refl
  where
    kept : ((j : ℕ) → r ≤ j → j < r + n → q ≤ j → j < q + k → ⊥) → unmarked_at (with_marks m q k) r n ≡ unmarked_at m r n
    kept out =
        same_test _ _
        (λ e. each_unmarked m r n (λ j a b h. unmarked_each (with_marks m q k) r n e j a b ((withs_marked k q m long small j).1 (inr h))))
        (λ e. each_unmarked (with_marks m q k) r n
        (λ j a b h. ⊎_elim (λ x. out j a b x.0 x.1) (unmarked_each m r n e j a b) ((withs_marked k q m long small j).0 h)))

    hit : r < q + k → q < r + n → unmarked_at (with_marks m q k) r n ≡ false
    hit h l =
        same_test _ false
        (λ e. absurd (unmarked_each (with_marks m q k) r n e (max q r) (omega arith) (omega arith)
        ((withs_marked k q m long small (max q r)).1 (inl (omega arith, omega arith)))))
        (λ e. absurd (let z : ◌≡◌ {A = ℕ} 0 1 = cc in omega arith))

    go : (s t : Bool) → leb (q + k) r ≡ s → leb (r + n) q ≡ t → unmarked_at (with_marks m q k) r n ≡ ((s || t) && unmarked_at m r n)
    go true t e f = let l = leb-true (q + k) r e in kept (λ j a b x y. omega arith)
    go false true e f = let l = leb-true (r + n) q f in kept (λ j a b x y. omega arith)
    go false false e f = hit (leb-false (q + k) r e) (leb-false (r + n) q f)

-- ---- a list of blocks against the marks
-- no block has a marked page
unfoldable unmarked_of : List ℕ → List ℕ → List ℕ → Bool
unmarked_of m [] ks = true
unmarked_of m (q ∷ qs) [] = true
unmarked_of m (q ∷ qs) (k ∷ ks) = unmarked_at m q k && unmarked_of m qs ks

-- each block inside and without a marked page, once those before it are marked too: what one pass finds
unfoldable pub placed_in : ℕ → List ℕ → List ℕ → List ℕ → Bool
placed_in N m [] ks = true
placed_in N m (q ∷ qs) [] = true
placed_in N m (q ∷ qs) (k ∷ ks) = block_inside N q k && (unmarked_at m q k && placed_in N (with_marks m q k) qs ks)

-- at the start no page is marked
unmarked_none : (qs ks : List ℕ) → unmarked_of no_marks qs ks ≡ true
unfolding unmarked_of
unmarked_none [] ks = refl
unmarked_none (q ∷ qs) [] = refl
unmarked_none (q ∷ qs) (k ∷ ks) = rw (each_unmarked no_marks q k (λ j a b h. omega (arith, mark_none j))) (unmarked_none qs ks)

module _ (leaf : Bool) (P : ℕ) (size : 0 < P) where
  -- a piece takes a page at least
  span_some : (e : List Entry) → 0 < min (span_of leaf P e) 32769
  span_some e = let s = size_least leaf e in omega (arith, one_page (node_size leaf e) P size (omega arith))

  -- with the k pages from q on marked too, blocks have no marked page where they had none and are clear of that block
  unmarked_clear : (m : List ℕ) (q k : ℕ) → length m ≡ 512 → q + k ≤ 32768 → 0 < k → (rs : List ℕ) (ps : List (List Entry))
      → unmarked_of (with_marks m q k) rs (capped_spans leaf P ps) ≡ (clear_of q k rs (capped_spans leaf P ps) && unmarked_of m rs (capped_spans leaf P ps))
  unfolding unmarked_of clear_of
  unmarked_clear m q k long small some [] ps = refl
  unmarked_clear m q k long small some (r ∷ rs) [] = refl
  unmarked_clear m q k long small some (r ∷ rs) (e ∷ ps) =
      let n : ℕ = min (span_of leaf P e) 32769 in
      rw (unmarked_with m q k r n long small some (span_some e), unmarked_clear m q k long small some rs ps)
      (turn (apart q k r n) (unmarked_at m r n) (clear_of q k rs (capped_spans leaf P ps)) (unmarked_of m rs (capped_spans leaf P ps)))
    where
      turn : (a f c g : Bool) → ((a && f) && (c && g)) ≡ ((a && c) && (f && g))
      turn false f c g = refl
      turn true true c g = refl
      turn true false true g = refl
      turn true false false g = refl

  -- the pass finds whether no block had a marked page at first and all are placed
  placed_pass : (N : ℕ) → N ≤ 32768 → (qs : List ℕ) (ps : List (List Entry)) (m : List ℕ) → length m ≡ 512
      → placed_in N m qs (capped_spans leaf P ps) ≡ (unmarked_of m qs (capped_spans leaf P ps) && placed N qs (capped_spans leaf P ps))
  unfolding placed_in placed unmarked_of
  placed_pass N most [] ps m long = refl
  placed_pass N most (q ∷ qs) [] m long = refl
  placed_pass N most (q ∷ qs) (e ∷ ps) m long = rw (placed_pass N most qs ps (with_marks m q k) (length_withs m q k ∙ long)) (go (block_inside N q k) refl)
    where
      k : ℕ
      k = min (span_of leaf P e) 32769

      ks : List ℕ
      ks = capped_spans leaf P ps

      turn : (f g c p : Bool) → (f && ((c && g) && p)) ≡ ((f && g) && (c && p))
      turn false g c p = refl
      turn true g true p = refl
      turn true true false p = refl
      turn true false false p = refl

      go : (x : Bool) → block_inside N q k ≡ x
          → (x && (unmarked_at m q k && (unmarked_of (with_marks m q k) qs ks && placed N qs ks)))
          ≡ ((unmarked_at m q k && unmarked_of m qs ks) && (x && (clear_of q k qs ks && placed N qs ks)))
      go false i = sym (and-false (unmarked_at m q k && unmarked_of m qs ks))
      go true i =
          let l = inside_end N q k i in
          rw (unmarked_clear m q k long (omega arith) (span_some e) qs ps)
          (turn (unmarked_at m q k) (unmarked_of m qs ks) (clear_of q k qs ks) (placed N qs ks))

  -- so from no marks on it finds whether all are placed
  pub placed_start : (N : ℕ) → N ≤ 32768 → (qs : List ℕ) (ps : List (List Entry))
      → placed_in N no_marks qs (capped_spans leaf P ps) ≡ placed N qs (capped_spans leaf P ps)
  placed_start N most qs ps = placed_pass N most qs ps no_marks length_none ∙ rw (unmarked_none qs (capped_spans leaf P ps))

-- ---- a turn of the loop: the piece from entry c to e is the first of those that are left
module _ (leaf : Bool) (t : ℕ) (b : List ℕ) (end P : ℕ) (pages : List ℕ) (at c e k : ℕ) (l : at < length pages) (he : e ≡ piece_end leaf t b end c)
    (hk : k ≡ min (span_of leaf P (range leaf b c e)) 32769) (N : ℕ) (m : List ℕ)
  where
    placed_turn : placed_in N m (drop at pages) (capped_spans leaf P (pieces_after leaf t b end (length pages - at) c))
        ≡ (block_inside N (get_or pages at 0) k
        && (unmarked_at m (get_or pages at 0) k
        && placed_in N (with_marks m (get_or pages at 0) k) (drop (at + 1) pages) (capped_spans leaf P (pieces_after leaf t b end (length pages - (at + 1)) e))))
    unfolding placed_in
    placed_turn =
        rw (after_next leaf t b end (length pages - at) (length pages - (at + 1)) c e (omega arith) he, hk, drop-cons pages at 0 l, add-one at)

    -- its block is not inside
    pub placed_out : block_inside N (get_or pages at 0) k ≡ false
        → placed_in N m (drop at pages) (capped_spans leaf P (pieces_after leaf t b end (length pages - at) c)) ≡ false
    placed_out x = placed_turn ∙ rw x

    module _ (x : block_inside N (get_or pages at 0) k ≡ true) where
      -- it has a marked page
      pub placed_hit : lowest_marked m (get_or pages at 0) k < get_or pages at 0 + k
          → placed_in N m (drop at pages) (capped_spans leaf P (pieces_after leaf t b end (length pages - at) c)) ≡ false
      placed_hit h = placed_turn ∙ rw (x, lt-leb (get_or pages at 0 + k) (lowest_marked m (get_or pages at 0) k) h)

      -- it has none
      pub placed_on : get_or pages at 0 + k ≤ lowest_marked m (get_or pages at 0) k
          → placed_in N m (drop at pages) (capped_spans leaf P (pieces_after leaf t b end (length pages - at) c))
          ≡ placed_in N (with_marks m (get_or pages at 0) k) (drop (at + 1) pages) (capped_spans leaf P (pieces_after leaf t b end (length pages - (at + 1)) e))
      placed_on h = placed_turn ∙ rw (x, le-leb (get_or pages at 0 + k) (lowest_marked m (get_or pages at 0) k) h)

-- at the end of the list nothing is left
pub placed_done : (pages : List ℕ) (at N : ℕ) (m ks : List ℕ) → length pages ≤ at → placed_in N m (drop at pages) ks ≡ true
unfolding placed_in
placed_done pages at N m ks l = rw (drop_of_length-le pages l)

-- The pieces that the code goes over are those of the definition, pages counted up to one past the most that an image has decide as all do,
-- and the block of each piece is inside and stands after those before it.
-- Assumes nothing.
use mathlib.Core.Path.{◌≡◌, refl, sym, ap, ◌∙◌}
use mathlib.Core.Bool.{Bool, true, false, ◌&&◌, ◌||◌}
use mathlib.Core.List.{List, [], ◌∷◌, ◌++◌, append_assoc}
use Prim.Native.Nat.{ℕ, zero, suc, ◌+◌, ◌≤◌, ◌<◌, min}
use native.Mathlib.Omega.{arith}
use lib.Dec.{leb}
use lib.ListN.{length, get_or, take, drop, length-map, length-append}
use lib.Seq.{take_at, drop-append-add}
use Rattle.std.specs.Prelude.{unwrap_or}
use Rattle.page.specs.Layout.{Entry, count_of, entries_of}
use Rattle.page.proofs.TestLaws.{leb_same, and_both}
use Rattle.page.proofs.EntryLaws.{length-entries}
use Rattle.pack.specs.Pack.{block_size, pack}
use Rattle.pack.specs.Plan.{range}
use Rattle.pack.proofs.RangeLaws.{range_part}
use Rattle.pack.proofs.PackLaws.{length_pack}
use Rattle.cuts.specs.Split.{threshold, cuts_of, pieces_from, pieces_of}
use Rattle.cuts.specs.Run.{cuts_after, first_cut, piece_end, pieces_after, run_end}
use Rattle.field.specs.Sizes.{block_inside}
use Rattle.split.specs.Write.{span_of, spans_of, apart, clear_of, placed, bytes_in, pack_all, capped_spans}
use Rattle.cuts.proofs.RunLaws.{next_after, end_within}
use Rattle.cuts.proofs.PartedLaws.{cuts_code}
use Rattle.cuts.proofs.PieceLaws.{length-pieces}
use Rattle.split.proofs.WriteLaws.{inside_end}

-- ---- pieces
module _ (leaf : Bool) (t : ℕ) (b : List ℕ) (end : ℕ) (within : end ≤ count_of b) where
  pieces_from_lem : (cs : List ℕ) (c : ℕ) → cuts_after leaf t b end c ≡ cs → c ≤ end
      → pieces_from c cs (entries_of leaf b) ≡ pieces_after leaf t b end (suc (length cs)) c
  unfolding pieces_from pieces_after
  pieces_from_lem [] c h l =
      let e : piece_end leaf t b end c ≡ count_of b = ap (λ (x : List ℕ). unwrap_or (first_cut x) (count_of b)) h in
      rw (e, length-entries leaf b, range_part leaf b c (count_of b) (omega arith) (omega arith))
  pieces_from_lem (d ∷ ds) c h l =
      let e : piece_end leaf t b end c ≡ d = ap (λ (x : List ℕ). unwrap_or (first_cut x) (count_of b)) h in
      let n = next_after leaf t b end c d (sym (ap first_cut h)) in
      let same : cuts_after leaf t b end d ≡ ds = cc n.0 in
      let rest = pieces_from_lem ds d same n.2 in
      let k = n.1 in
      let m = n.2 in
      let head = range_part leaf b c d (omega arith) (omega arith) in
      rw e
      (ap (λ (x : List Entry). x ∷ pieces_from d ds (entries_of leaf b)) (sym head)
      ∙ ap (λ (x : List (List Entry)). range leaf b c d ∷ x) rest)

-- in the code's numbers: the threshold, the run's end and how many pieces there are
pub pieces_code : (leaf : Bool) (P : ℕ) (b : List ℕ) (t end n : ℕ) → t ≡ threshold P → end ≡ run_end leaf P b
    → n ≡ length (cuts_after leaf t b end 0) → pieces_of leaf P (entries_of leaf b) ≡ pieces_after leaf t b end (n + 1) 0
pieces_code leaf P b t end n ht he hn =
    let w = end_within leaf P b in
    let k : suc (length (cuts_after leaf t b end 0)) ≡ n + 1 = omega arith in
    ap (λ (cs : List ℕ). pieces_from 0 cs (entries_of leaf b)) (sym (cuts_code leaf P b t end ht he))
    ∙ pieces_from_lem leaf t b end (omega arith) (cuts_after leaf t b end 0) 0 refl (omega arith)
    ∙ ap (λ (m : ℕ). pieces_after leaf t b end m 0) k

pub length_code : (leaf : Bool) (P : ℕ) (b : List ℕ) (t end n : ℕ) → t ≡ threshold P → end ≡ run_end leaf P b
    → n ≡ length (cuts_after leaf t b end 0) → length (pieces_of leaf P (entries_of leaf b)) ≡ n + 1
length_code leaf P b t end n ht he hn =
    let l = length-pieces 0 (cuts_of leaf P (entries_of leaf b)) (entries_of leaf b) in
    let e = ap length (cuts_code leaf P b t end ht he) in
    omega arith

-- ---- pages
pub length_all : (leaf : Bool) (P : ℕ) (qs : List ℕ) (ps : List (List Entry)) → 0 < P → length qs ≡ length ps
    → length (pack_all leaf P qs ps) ≡ bytes_in P (spans_of leaf P ps)
unfolding pack_all bytes_in
length_all leaf P [] [] p h = refl
length_all leaf P [] (e ∷ ps) p h = absurd (omega arith)
length_all leaf P (q ∷ qs) [] p h = refl
length_all leaf P (q ∷ qs) (e ∷ ps) p h =
    let r = length_all leaf P qs ps p (omega arith) in
    let l = length_pack leaf q e P p in
    omega (arith, length-append (pack leaf q e P) (pack_all leaf P qs ps))

module _ (leaf : Bool) (P : ℕ) where
  pub length-spans : (ps : List (List Entry)) → length (spans_of leaf P ps) ≡ length ps
  length-spans ps = length-map ps (span_of leaf P)

  apart_counted : (q k r m : ℕ) → q + k ≤ 32768 → apart q k r (min m 32769) ≡ apart q k r m
  apart_counted q k r m h =
      ap (λ (x : Bool). leb (q + k) r || x) (leb_same (r + min m 32769) q (r + m) q (λ x. omega arith) (λ x. omega arith))

  clear_counted : (q k : ℕ) (rs : List ℕ) (ps : List (List Entry)) → q + k ≤ 32768
      → clear_of q k rs (capped_spans leaf P ps) ≡ clear_of q k rs (spans_of leaf P ps)
  unfolding clear_of
  clear_counted q k [] ps h = refl
  clear_counted q k (r ∷ rs) [] h = refl
  clear_counted q k (r ∷ rs) (e ∷ ps) h = rw (apart_counted q k r (span_of leaf P e) h, clear_counted q k rs ps h)

  inside_counted : (N q k : ℕ) → N ≤ 32768 → block_inside N q (min k 32769) ≡ block_inside N q k
  inside_counted N q k h =
      ap (λ (x : Bool). leb 2 q && x) (leb_same (q + min k 32769) N (q + k) N (λ x. omega arith) (λ x. omega arith))

  module _ (N : ℕ) (small : N ≤ 32768) where
    pub placed_counted : (qs : List ℕ) (ps : List (List Entry)) → placed N qs (capped_spans leaf P ps) ≡ placed N qs (spans_of leaf P ps)
    unfolding placed
    placed_counted [] ps = refl
    placed_counted (q ∷ qs) [] = refl
    placed_counted (q ∷ qs) (e ∷ ps) = rw (inside_counted N q (span_of leaf P e) small, placed_counted qs ps) (go (block_inside N q (span_of leaf P e)) refl)
      where
        k : ℕ
        k = span_of leaf P e

        go : (x : Bool) → block_inside N q k ≡ x
            → (x && (clear_of q (min k 32769) qs (capped_spans leaf P ps) && placed N qs (spans_of leaf P ps)))
            ≡ (x && (clear_of q k qs (spans_of leaf P ps) && placed N qs (spans_of leaf P ps)))
        go false i = refl
        go true i =
            let l = inside_end N q k i in
            let m : min k 32769 ≡ k = omega arith in
            rw (m, clear_counted q k qs ps (omega arith))

    -- where all are placed, none was counted short
    pub counted_exact : (qs : List ℕ) (ps : List (List Entry)) → length qs ≡ length ps → placed N qs (capped_spans leaf P ps) ≡ true
        → capped_spans leaf P ps ≡ spans_of leaf P ps
    unfolding placed
    counted_exact [] [] h e = refl
    counted_exact [] (p ∷ ps) h e = absurd (omega arith)
    counted_exact (q ∷ qs) [] h e = refl
    counted_exact (q ∷ qs) (p ∷ ps) h e =
        let k : ℕ = min (span_of leaf P p) 32769 in
        let c : Bool = clear_of q k qs (capped_spans leaf P ps) in
        let both = and_both (block_inside N q k) (c && placed N qs (capped_spans leaf P ps)) e in
        let rest = counted_exact qs ps (omega arith) (and_both c (placed N qs (capped_spans leaf P ps)) both.1).1 in
        let l = inside_end N q k both.0 in
        let m : min (span_of leaf P p) 32769 ≡ span_of leaf P p = omega arith in
        rw (m, rest)

-- ---- the piece at an index
module _ (leaf : Bool) (P : ℕ) where
  -- its block is inside
  pub placed_at : (N : ℕ) (qs : List ℕ) (ps : List (List Entry)) → placed N qs (spans_of leaf P ps) ≡ true
      → (i : ℕ) → i < length qs → i < length ps → block_inside N (get_or qs i 0) (span_of leaf P (get_or ps i [])) ≡ true
  unfolding placed
  placed_at N [] ps e i h k = absurd (omega arith)
  placed_at N (q ∷ qs) [] e i h k = absurd (omega arith)
  placed_at N (q ∷ qs) (p ∷ ps) e zero h k = (and_both _ _ e).0
  placed_at N (q ∷ qs) (p ∷ ps) e (suc i) h k =
      let c : Bool = clear_of q (span_of leaf P p) qs (spans_of leaf P ps) in
      let rest = (and_both (block_inside N q (span_of leaf P p)) (c && placed N qs (spans_of leaf P ps)) e).1 in
      placed_at N qs ps (and_both c (placed N qs (spans_of leaf P ps)) rest).1 i (omega arith) (omega arith)

  -- and stands after the blocks before it
  pub packed_at : (qs : List ℕ) (ps : List (List Entry)) (rest : List ℕ) → 0 < P → (i : ℕ) → i < length qs → i < length ps
      → take (block_size leaf (get_or ps i []) P) (drop (bytes_in P (spans_of leaf P (take i ps))) (pack_all leaf P qs ps ++ rest))
      ≡ pack leaf (get_or qs i 0) (get_or ps i []) P
  unfolding pack_all bytes_in
  packed_at [] ps rest p i h k = absurd (omega arith)
  packed_at (q ∷ qs) [] rest p i h k = absurd (omega arith)
  packed_at (q ∷ qs) (e ∷ ps) rest p zero h k =
      rw (append_assoc (pack leaf q e P) (pack_all leaf P qs ps) rest) (take_at (pack leaf q e P) _ (block_size leaf e P) (length_pack leaf q e P p))
  packed_at (q ∷ qs) (e ∷ ps) rest p (suc i) h k =
      rw (append_assoc (pack leaf q e P) (pack_all leaf P qs ps) rest, ← length_pack leaf q e P p, drop-append-add (pack leaf q e P) (pack_all leaf P qs ps ++ rest))
      (packed_at qs ps rest p i (omega arith) (omega arith))

-- Laws of what `split_write` answers and leaves: which case holds when, with the pages counted as the code counts them, and what pieces that were
-- written say of the tests before them.
-- Assumes nothing.
use mathlib.Core.Path.{◌≡◌, refl, sym, ap, ◌∙◌}
use mathlib.Core.Bool.{Bool, true, false, cond, ◌&&◌}
use mathlib.Core.List.{List}
use Prim.Native.Nat.{ℕ, ◌≤◌, ◌<◌}
use native.Mathlib.Omega.{arith}
use lib.Dec.{leb, ltb, eqb}
use lib.ListN.{length}
use borrow.Author.Tests.{lt-ltb, le-ltb, leb-true, leb-false, eq-eqb, ne_eqb, eqb-true}
use Rattle.field.specs.Sizes.{count_allowed}
use Rattle.std.specs.Prelude.{Ok, Err}
use Rattle.std.specs.declared.result.Result.{Result}
use Rattle.field.specs.declared.refusal.Refusal.TheVariants.{Geometry, OutputShort, Argument, NodeTooLarge}
use Rattle.page.specs.declared.breach.Breach.{Breach}
use Rattle.page.specs.Layout.{Entry, is_leaf, entries_of}
use Rattle.page.specs.PageRules.{breach, Verdict, and_then, lent_check_of}
use Rattle.page.proofs.TestLaws.{and_both}
use Rattle.pack.specs.Pack.{node_size}
use Rattle.split.specs.declared.Written.{Written}
use Rattle.size.specs.Size.{node_limit}
use Rattle.split.specs.Write.{spans_of, placed, list_good, bytes_in, capped_spans, written, written_if, written_of, block_pieces, split_write_of}
use Rattle.split.proofs.PagesLaws.{length-spans, placed_counted, counted_exact}

-- an allowed page count is at most 32,768
pub count_most : (N : ℕ) → count_allowed N ≡ true → N ≤ 32768
count_most N e = leb-true N 32768 (and_both (leb 2 N) (leb N 32768) e).1

and_no : (x y : Bool) → y ≡ false → (x && y) ≡ false
and_no true y e = e
and_no false y e = refl

module _ (leaf : Bool) (P N size : ℕ) (pieces : List (List Entry)) (pages : List ℕ) (room : ℕ) where
  pub written_count : (length pages ≡ length pieces → ⊥) → Err (breach Argument 0 0) ≡ written_of leaf P N size pieces pages room
  written_count h = rw (ne_eqb (length pages) (length (spans_of leaf P pieces)) (λ e. h (e ∙ length-spans leaf P pieces)))

  module _ (small : N ≤ 32768) where
    pub written_unplaced : placed N pages (capped_spans leaf P pieces) ≡ false → Err (breach Argument 0 0) ≡ written_of leaf P N size pieces pages room
    written_unplaced h =
        let f : placed N pages (spans_of leaf P pieces) ≡ false = sym (placed_counted leaf P N small pages pieces) ∙ h in
        let bad : list_good N pages (spans_of leaf P pieces) ≡ false = and_no (eqb (length pages) (length (spans_of leaf P pieces))) _ f in
        rw bad

    module _ (same : length pages ≡ length pieces) (h : placed N pages (capped_spans leaf P pieces) ≡ true) where
      good : list_good N pages (spans_of leaf P pieces) ≡ true
      good = rw (eq-eqb (length pages) (length (spans_of leaf P pieces)) (same ∙ sym (length-spans leaf P pieces)), sym (placed_counted leaf P N small pages pieces) ∙ h)

      pub bytes_exact : bytes_in P (capped_spans leaf P pieces) ≡ bytes_in P (spans_of leaf P pieces)
      bytes_exact = ap (bytes_in P) (counted_exact leaf P N small pages pieces same h)

      pub written_large : node_limit < size → Err (breach NodeTooLarge 0 0) ≡ written_of leaf P N size pieces pages room
      written_large l = rw (good, lt-ltb node_limit size l)

      pub written_short : size ≤ node_limit → leb (bytes_in P (capped_spans leaf P pieces)) room ≡ false → Err (breach OutputShort 0 0) ≡ written_of leaf P N size pieces pages room
      written_short l k =
          let f = leb-false (bytes_in P (capped_spans leaf P pieces)) room k in
          let e = bytes_exact in
          rw (good, le-ltb node_limit size l, lt-ltb room (bytes_in P (spans_of leaf P pieces)) (omega arith))

      pub bytes_fit : leb (bytes_in P (capped_spans leaf P pieces)) room ≡ true → bytes_in P (spans_of leaf P pieces) ≤ room
      bytes_fit k =
          let f = leb-true (bytes_in P (capped_spans leaf P pieces)) room k in
          let e = bytes_exact in
          omega arith

      pub written_made : size ≤ node_limit → bytes_in P (spans_of leaf P pieces) ≤ room
          → Ok (written (bytes_in P (spans_of leaf P pieces)) (length pieces)) ≡ written_of leaf P N size pieces pages room
      written_made l k = rw (good, le-ltb node_limit size l, le-ltb room (bytes_in P (spans_of leaf P pieces)) k)

-- ---- where pieces were written, each test was passed
module _ {bytes count : ℕ} where
  count_passed : (good : Bool) (a : Result Written Breach) → cond good a (Err (breach Geometry 0 0)) ≡ Ok (written bytes count)
      → (good ≡ true) × (a ≡ Ok (written bytes count))
  count_passed true a e = (refl, e)
  count_passed false a e = absurd (let z : ◌≡◌ {A = ℕ} 0 1 = cc in omega arith)

  check_passed : (v : Verdict) (a : Result Written Breach) → and_then v a ≡ Ok (written bytes count) → (v ≡ Ok tt) × (a ≡ Ok (written bytes count))
  check_passed (Ok u) a e = (refl, e)
  check_passed (Err x) a e = absurd (let z : ◌≡◌ {A = ℕ} 0 1 = cc in omega arith)

  room_passed : (large short : Bool) (m n : ℕ)
      → cond large (Err (breach NodeTooLarge 0 0)) (cond short (Err (breach OutputShort 0 0)) (Ok (written m n))) ≡ Ok (written bytes count) → n ≡ count
  room_passed true short m n e = absurd (let z : ◌≡◌ {A = ℕ} 0 1 = cc in omega arith)
  room_passed false true m n e = absurd (let z : ◌≡◌ {A = ℕ} 0 1 = cc in omega arith)
  room_passed false false m n e =
      let same : written m n ≡ written bytes count = cc in
      ap (λ (w : Written). w.pieces) same

  list_passed : (good : Bool) (size m room n : ℕ) → written_if good size m room n ≡ Ok (written bytes count) → (good ≡ true) × (n ≡ count)
  list_passed true size m room n e = (refl, room_passed (ltb node_limit size) (ltb room m) m n e)
  list_passed false size m room n e = absurd (let z : ◌≡◌ {A = ℕ} 0 1 = cc in omega arith)

pub record Passed (P N : ℕ) (b pages : List ℕ) (count : ℕ) : Type 0 where
  pub allowed : count_allowed N ≡ true
  pub sound : lent_check_of P b ≡ Ok tt
  pub each : length pages ≡ length (block_pieces P b)
  pub there : placed N pages (spans_of (is_leaf b) P (block_pieces P b)) ≡ true
  pub told : length (block_pieces P b) ≡ count

pub passed : {bytes count : ℕ} (P N : ℕ) (b pages : List ℕ) (room : ℕ) → split_write_of P N b pages room ≡ Ok (written bytes count) → Passed P N b pages count
unfolding split_write_of
passed P N b pages room e =
    let spans : List ℕ = spans_of (is_leaf b) P (block_pieces P b) in
    let first = count_passed _ _ e in
    let second = check_passed _ _ first.1 in
    let third = list_passed (list_good N pages spans) (node_size (is_leaf b) (entries_of (is_leaf b) b)) (bytes_in P spans) room (length (block_pieces P b)) second.1 in
    let good = and_both (eqb (length pages) (length spans)) (placed N pages spans) third.0 in
    record {
      allowed = first.0;
      sound = second.0;
      each = eqb-true (length pages) (length spans) good.0 ∙ length-spans (is_leaf b) P (block_pieces P b);
      there = good.1;
      told = third.1;
    }

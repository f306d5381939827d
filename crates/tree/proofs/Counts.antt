-- Theorem: what a judge that passes counts. `entries` is the number of leaf entries reached from the root (`entries_listed`, `entries_counted`), and
-- `pages` the number of pages of the blocks reached and of the freelist's block (`pages_listed`, `pages_counted`).
-- Assumes nothing.
use mathlib.Core.Path.{◌≡◌, sym}
use mathlib.Core.Bool.{true}
use mathlib.Core.List.{List, ◌++◌}
use mathlib.Core.Logic.{◌↔◌, ◌⊎◌, inl, inr, ⊎_elim}
use Prim.Native.Nat.{ℕ, ◌+◌, ◌*◌}
use native.Mathlib.Omega.{arith}
use lib.ListN.{length, drop}
use Rattle.page.specs.Layout.{overflow_of}
use Rattle.walk.specs.Tree.{memb, Distinct}
use Rattle.walk.specs.Listing.{Listing}
use Rattle.walk.proofs.Pages.{memb_left, memb_right, memb_either, distinct_append}
use Rattle.walk.proofs.Count.{no_longer}
use Rattle.walk.proofs.Theorems as tree
use Rattle.view.specs.View.{view_of, pages_at, pages_of}
use Rattle.view.proofs.ViewLaws.{checked}
use Rattle.view.proofs.PagesLaws.{pages_distinct, of_distinct}
use Rattle.std.specs.Prelude.{Ok}
use Rattle.judge.specs.Judge.{counts, judge_of}
use Rattle.tree.specs.Sound.{InBlock, UsedFrom}
use Rattle.tree.proofs.UsedPages.{block_iff}
use Rattle.tree.proofs.PassesSound.{Passed, judge_passed, visited_iff}

module _ (image : List ℕ) (P N root f entries pages : ℕ) (passed : judge_of image P N root f ≡ Ok (counts entries pages)) where
  p : Passed image P N root f entries pages
  p = judge_passed image P N root f entries pages passed

  -- all leaf entries reached, in the order of their keys, each once: there are `entries` of them
  pub entries_listed : Listing (view_of image P N) root entries
  entries_listed = tree.listing N (pages_of image P N) (view_of image P N) (checked image P N) root entries p.visited p.walked

  -- and no listing has another number
  pub entries_counted : (m : ℕ) → Listing (view_of image P N) root m → m ≡ entries
  entries_counted m = tree.entries_counted N (pages_of image P N) (view_of image P N) (checked image P N) root entries p.visited p.walked m

  abbrev all : List ℕ
  all = pages_at image P f ++ p.visited

  all-iff : (k : ℕ) → (memb k all ≡ true) ↔ (UsedFrom image P N root k ⊎ InBlock image P f k)
  all-iff k = (there, back)
    where
      used : (memb k p.visited ≡ true) ↔ UsedFrom image P N root k
      used = visited_iff image P N root entries p.visited p.walked k

      there : memb k all ≡ true → UsedFrom image P N root k ⊎ InBlock image P f k
      there e = ⊎_elim (λ h. inr ((block_iff image P f k).0 h)) (λ h. inl (used.0 h)) (memb_either k (pages_at image P f) p.visited e)

      back : UsedFrom image P N root k ⊎ InBlock image P f k → memb k all ≡ true
      back (inl u) = memb_right k (pages_at image P f) p.visited (used.1 u)
      back (inr o) = memb_left k (pages_at image P f) p.visited ((block_iff image P f k).1 o)

  all_once : Distinct all
  all_once =
      distinct_append (pages_at image P f) p.visited p.listed.apart
      (pages_distinct f (overflow_of (drop (f * P) image) + 1))
      (tree.each_once N (pages_of image P N) (view_of image P N) (checked image P N) root entries p.visited p.walked (of_distinct image P N))

  -- the pages of the blocks reached and of the freelist's block, each once: there are `pages` of them
  pub pages_listed : (ps : List ℕ) × Distinct ps × ((k : ℕ) → (memb k ps ≡ true) ↔ (UsedFrom image P N root k ⊎ InBlock image P f k)) × (length ps ≡ pages)
  pages_listed = (all, all_once, all-iff, sym p.pages)

  -- and no such list has another number
  pub pages_counted : (ps : List ℕ) → Distinct ps → ((k : ℕ) → (memb k ps ≡ true) ↔ (UsedFrom image P N root k ⊎ InBlock image P f k)) → length ps ≡ pages
  pages_counted ps d h =
      let a = no_longer ps all d (λ k e. (all-iff k).1 ((h k).0 e)) in
      let b = no_longer all ps all_once (λ k e. (h k).1 ((all-iff k).0 e)) in
      let n = p.pages in
      omega arith

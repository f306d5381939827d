-- The pages of a block: k pages from q on are those from q to q + k - 1, each once; and a page of the tree has those of its block where rule 4 does not refuse its header, and else none.
-- Assumes nothing.
use mathlib.Core.Path.{◌≡◌, refl, ap}
use mathlib.Core.Bool.{Bool, true, false, cond}
use mathlib.Core.List.{List, []}
use mathlib.Core.Logic.{⊎_elim}
use Prim.Native.Nat.{ℕ, zero, suc, ◌+◌, ◌*◌, ◌≤◌, ◌<◌}
use native.Mathlib.Nat.{eq-or-lt_of_le}
use native.Mathlib.Omega.{arith}
use lib.ListN.{length, drop}
use Rattle.page.specs.Layout.{overflow_of}
use Rattle.page.specs.PageRules.{header_bad}
use Rattle.walk.specs.Tree.{View, bad, branch, leaf, memb, Distinct}
use Rattle.walk.proofs.Pages.{memb_head, memb_tail, memb_cases}
use Rattle.view.specs.declared.Value.{Value}
use Rattle.view.specs.View.{view_of, pages_from, pages_at, pages_of}
use Rattle.view.proofs.ViewLaws.{view_branch, view_leaf}
use Rattle.field.specs.declared.refusal.Refusal.{Refusal}

-- ---- k pages from q on
pub length_pages : (q k : ℕ) → length (pages_from q k) ≡ k
unfolding pages_from
length_pages q zero = refl
length_pages q (suc k) = ap suc (length_pages (q + 1) k)

pub pages_in : (q k j : ℕ) → memb j (pages_from q k) ≡ true → (q ≤ j) × (j < q + k)
unfolding pages_from
pages_in q zero j e = absurd (let z : ◌≡◌ {A = ℕ} 0 1 = cc in omega arith)
pages_in q (suc k) j e =
    ⊎_elim
    (λ h. (omega arith, omega arith))
    (λ h. let r = pages_in (q + 1) k j h in let a = r.0 in let b = r.1 in (omega arith, omega arith))
    (memb_cases j q (pages_from (q + 1) k) e)

pub in_pages : (q k j : ℕ) → q ≤ j → j < q + k → memb j (pages_from q k) ≡ true
unfolding pages_from
in_pages q zero j l m = absurd (omega arith)
in_pages q (suc k) j l m =
    ⊎_elim
    (λ (e : q ≡ j). rw e (memb_head j (pages_from (j + 1) k)))
    (λ (h : q < j). memb_tail j q (pages_from (q + 1) k) (in_pages (q + 1) k j (omega arith) (omega arith)))
    (eq-or-lt_of_le l)

pub pages_distinct : (q k : ℕ) → Distinct (pages_from q k)
unfolding pages_from
pages_distinct q zero = tt
pages_distinct q (suc k) = (go (memb q (pages_from (q + 1) k)) refl, pages_distinct (q + 1) k)
  where
    go : (b : Bool) → memb q (pages_from (q + 1) k) ≡ b → b ≡ false
    go true e = absurd (let l = (pages_in (q + 1) k q e).0 in omega arith)
    go false e = refl

-- ---- the pages of page q's block, by its header
module _ (image : List ℕ) (P N q : ℕ) where
  pub pages_good : header_bad N q (drop (q * P) image) ≡ false → pages_of image P N q ≡ pages_at image P q
  unfolding pages_of
  pages_good h = rw h

  pub pages_bad : header_bad N q (drop (q * P) image) ≡ true → pages_of image P N q ≡ []
  unfolding pages_of
  pages_bad h = rw h

  -- no page twice
  pub of_distinct : Distinct (pages_of image P N q)
  unfolding pages_of
  of_distinct = go (header_bad N q (drop (q * P) image))
    where
      go : (t : Bool) → Distinct (cond t [] (pages_at image P q))
      go true = tt
      go false = pages_distinct q (overflow_of (drop (q * P) image) + 1)

  -- a page that is not refused has a sound header, and so all pages of its block
  pub view_header : (top : Bool) → ((r : Refusal) (e c : ℕ) → view_of image P N q top ≡ bad r e c → ⊥) → header_bad N q (drop (q * P) image) ≡ false
  view_header top f = go (view_of image P N q top) refl
    where
      go : (v : View Value) → view_of image P N q top ≡ v → header_bad N q (drop (q * P) image) ≡ false
      go (bad r e c) h = absurd (f r e c h)
      go (branch cs) h = (view_branch image P N q top cs h).header
      go (leaf es) h = (view_leaf image P N q top es h).header

  pub view_pages : (top : Bool) → ((r : Refusal) (e c : ℕ) → view_of image P N q top ≡ bad r e c → ⊥) → pages_of image P N q ≡ pages_at image P q
  view_pages top f = pages_good (view_header top f)

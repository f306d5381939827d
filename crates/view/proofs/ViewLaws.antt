-- What a page's view says of its bytes, and back; and what every page's own check has seen to.
-- Assumes nothing.
use mathlib.Core.Path.{◌≡◌, refl, sym, ap, ◌∙◌}
use mathlib.Core.Bool.{Bool, true, false, cond, ◌&&◌}
use mathlib.Core.List.{List}
use Prim.Native.Nat.{ℕ, zero, suc, ◌+◌, ◌*◌, ◌≤◌, ◌<◌}
use native.Mathlib.Nat.{add-zero}
use native.Mathlib.Omega.{arith}
use lib.ListN.{length, drop}
use Rattle.page.specs.Layout.{count_of, is_leaf}
use Rattle.page.specs.PageRules.{header_bad, block_of, check_of, SoundBlock, after_check, breach, Verdict}
use Rattle.page.proofs.RuleLaws.{sound_iff}
use Rattle.walk.specs.Tree.{Item, bad, branch, leaf, keys, At, Rising, lower, Checked}
use Rattle.walk.proofs.KeyLaws.{order_lower}
use Rattle.view.specs.declared.Value.{Value}
use Rattle.view.specs.View.{row, child_item, value_item, elements_view, block_view, view_of}
use Rattle.std.specs.Prelude.{Ok, Err}
use Rattle.field.specs.declared.refusal.Refusal.TheVariants.{Header}
use Rattle.field.specs.declared.refusal.Refusal.{Refusal}

-- ---- rows
module _ {A : Type 0} (f : ℕ → A) where
  pub row_at : (k i j : ℕ) → j < k → At (row f k i) j (f (i + j))
  unfolding row
  row_at zero i j h = absurd (omega arith)
  row_at (suc k) i zero h = ap f (sym (add-zero i))
  row_at (suc k) i (suc j) h = let e : i + 1 + j ≡ i + suc j = omega arith in rw e at (row_at k (i + 1) j (omega arith))

  pub at_row : (k i j : ℕ) (x : A) → At (row f k i) j x → (j < k) × (f (i + j) ≡ x)
  unfolding row
  at_row zero i j x a = absurd a
  at_row (suc k) i zero x a = (omega arith, ap f (add-zero i) ∙ a)
  at_row (suc k) i (suc j) x a =
      let h = at_row k (i + 1) j x a in
      let l = h.0 in
      let e : i + 1 + j ≡ i + suc j = omega arith in
      (omega arith, rw e at h.1)

  pub length_row : (k i : ℕ) → length (row f k i) ≡ k
  unfolding row
  length_row zero i = refl
  length_row (suc k) i = ap suc (length_row k (i + 1))

pub rising_row : {A : Type 0} (f : ℕ → Item A) (k i : ℕ)
    → ((j : ℕ) → i ≤ j → j + 1 < i + k → lower (f j).key (f (j + 1)).key ≡ true)
    → Rising (keys (row f k i))
unfolding row
rising_row f zero i h = tt
rising_row f (suc zero) i h = tt
rising_row f (suc (suc k)) i h =
    (h i (omega arith) (omega arith), rising_row f (suc k) (i + 1) (λ j l m. h j (omega arith) (omega arith)))

-- ---- a view taken apart
pub record BranchBlock (image : List ℕ) (P N q : ℕ) (cs : List (Item ℕ)) : Type 0 where
  pub header : header_bad N q (drop (q * P) image) ≡ false
  pub kind : is_leaf (block_of image P q) ≡ false
  pub sound : SoundBlock false false (block_of image P q)
  pub items : cs ≡ row (child_item (block_of image P q)) (count_of (block_of image P q)) 0

pub record LeafBlock (image : List ℕ) (P N q : ℕ) (top : Bool) (es : List (Item Value)) : Type 0 where
  pub header : header_bad N q (drop (q * P) image) ≡ false
  pub kind : is_leaf (block_of image P q) ≡ true
  pub sound : SoundBlock true top (block_of image P q)
  pub items : es ≡ row (value_item (q * P) (block_of image P q)) (count_of (block_of image P q)) 0

and-false : (t : Bool) → (t && false) ≡ false
and-false true = refl
and-false false = refl

and-true : (t : Bool) → (t && true) ≡ t
and-true true = refl
and-true false = refl

module _ (image : List ℕ) (P N q : ℕ) (top : Bool) where
  abbrev b : List ℕ
  b = block_of image P q

  -- the block's own view, by its type and its check
  block_branch : (start : ℕ) (cs : List (Item ℕ)) (s : List ℕ) (l : Bool) → is_leaf s ≡ l → (v : Verdict) → check_of l (top && l) s ≡ v
      → after_check v bad (elements_view l start s) ≡ branch cs
      → (l ≡ false) × (SoundBlock false false s) × (cs ≡ row (child_item s) (count_of s) 0)
  block_branch start cs s true i (Ok u) c e = absurd (let z : ◌≡◌ {A = ℕ} 0 1 = cc in omega arith)
  block_branch start cs s false i (Ok u) c e = (refl, (sound_iff false false s).0 (rw (and-false top) at c), cc)
  block_branch start cs s l i (Err v) c e = absurd (let z : ◌≡◌ {A = ℕ} 0 1 = cc in omega arith)

  block_leaf : (start : ℕ) (es : List (Item Value)) (s : List ℕ) (l : Bool) → is_leaf s ≡ l → (v : Verdict) → check_of l (top && l) s ≡ v
      → after_check v bad (elements_view l start s) ≡ leaf es
      → (l ≡ true) × (SoundBlock true top s) × (es ≡ row (value_item start s) (count_of s) 0)
  block_leaf start es s false i (Ok u) c e = absurd (let z : ◌≡◌ {A = ℕ} 0 1 = cc in omega arith)
  block_leaf start es s true i (Ok u) c e = (refl, (sound_iff true top s).0 (rw (and-true top) at c), cc)
  block_leaf start es s l i (Err v) c e = absurd (let z : ◌≡◌ {A = ℕ} 0 1 = cc in omega arith)

  pub view_branch : (cs : List (Item ℕ)) → view_of image P N q top ≡ branch cs → BranchBlock image P N q cs
  unfolding view_of block_view
  view_branch cs e = go (header_bad N q (drop (q * P) image)) refl e
    where
      go : (t : Bool) → header_bad N q (drop (q * P) image) ≡ t → cond t (bad Header 0 0) (block_view (q * P) top b) ≡ branch cs → BranchBlock image P N q cs
      go true h f = absurd (let z : ◌≡◌ {A = ℕ} 0 1 = cc in omega arith)
      go false h f =
          let x = block_branch (q * P) cs b (is_leaf b) refl (check_of (is_leaf b) (top && is_leaf b) b) refl f in
          record { header = h; kind = x.0; sound = x.1; items = x.2 }

  pub view_leaf : (es : List (Item Value)) → view_of image P N q top ≡ leaf es → LeafBlock image P N q top es
  unfolding view_of block_view
  view_leaf es e = go (header_bad N q (drop (q * P) image)) refl e
    where
      go : (t : Bool) → header_bad N q (drop (q * P) image) ≡ t → cond t (bad Header 0 0) (block_view (q * P) top b) ≡ leaf es → LeafBlock image P N q top es
      go true h f = absurd (let z : ◌≡◌ {A = ℕ} 0 1 = cc in omega arith)
      go false h f =
          let x = block_leaf (q * P) es b (is_leaf b) refl (check_of (is_leaf b) (top && is_leaf b) b) refl f in
          record { header = h; kind = x.0; sound = x.1; items = x.2 }

  -- ---- and put together
  pub bad_header : header_bad N q (drop (q * P) image) ≡ true → view_of image P N q top ≡ bad Header 0 0
  unfolding view_of
  bad_header h = rw h

  module _ (s : List ℕ) (is : s ≡ block_of image P q) (header : header_bad N q (drop (q * P) image) ≡ false) where
    bad_block : (r : Refusal) (e m : ℕ) → check_of (is_leaf b) (top && is_leaf b) b ≡ Err (breach r e m) → view_of image P N q top ≡ bad r e m
    unfolding view_of block_view
    bad_block r e m c = rw (header, c)

    good_block : check_of (is_leaf b) (top && is_leaf b) b ≡ Ok tt → view_of image P N q top ≡ elements_view (is_leaf b) (q * P) b
    unfolding view_of block_view
    good_block c = rw (header, c)

    leaf_check : (v : Verdict) → is_leaf s ≡ true → check_of true top s ≡ v → check_of (is_leaf b) (top && is_leaf b) b ≡ v
    leaf_check v l c = let k : is_leaf b ≡ true = rw is at l in rw (k, and-true top) (rw is at c)

    branch_check : (v : Verdict) → is_leaf s ≡ false → check_of false false s ≡ v → check_of (is_leaf b) (top && is_leaf b) b ≡ v
    branch_check v l c = let k : is_leaf b ≡ false = rw is at l in rw (k, and-false top) (rw is at c)

    pub leaf_bad_lem : (r : Refusal) (e m : ℕ) → is_leaf s ≡ true → check_of true top s ≡ Err (breach r e m) → view_of image P N q top ≡ bad r e m
    leaf_bad_lem r e m l c = bad_block r e m (leaf_check (Err (breach r e m)) l c)

    pub branch_bad_lem : (r : Refusal) (e m : ℕ) → is_leaf s ≡ false → check_of false false s ≡ Err (breach r e m) → view_of image P N q top ≡ bad r e m
    branch_bad_lem r e m l c = bad_block r e m (branch_check (Err (breach r e m)) l c)

    pub leaf_good : is_leaf s ≡ true → check_of true top s ≡ Ok tt → view_of image P N q top ≡ leaf (row (value_item (q * P) s) (count_of s) 0)
    leaf_good l c =
        let k : is_leaf b ≡ true = rw is at l in
        good_block (leaf_check (Ok tt) l c) ∙ rw k (ap (λ (x : List ℕ). leaf (row (value_item (q * P) x) (count_of x) 0)) (sym is))

    pub branch_good : is_leaf s ≡ false → check_of false false s ≡ Ok tt → view_of image P N q top ≡ branch (row (child_item s) (count_of s) 0)
    branch_good l c =
        let k : is_leaf b ≡ false = rw is at l in
        good_block (branch_check (Ok tt) l c) ∙ rw k (ap (λ (x : List ℕ). branch (row (child_item x) (count_of x) 0)) (sym is))

-- ---- what a page's own check has seen to
pub checked : (image : List ℕ) (P N : ℕ) → Checked (view_of image P N)
checked image P N =
    record {
      branches = λ p t cs e.
          let x = view_branch image P N p t cs e in (
            λ n. empty x.sound (sym (length_row (child_item (block_of image P p)) (count_of (block_of image P p)) 0) ∙ ap length (sym x.items ∙ n)),
            rw x.items (rising_row (child_item (block_of image P p)) (count_of (block_of image P p)) 0
                (λ j l m. order_lower _ _ (x.sound.rising j (omega arith)))),
          );
      leaves = λ p t es e.
          let x = view_leaf image P N p t es e in
          rw x.items (rising_row (value_item (p * P) (block_of image P p)) (count_of (block_of image P p)) 0
          (λ j l m. order_lower _ _ (x.sound.rising j (omega arith))));
    }
  where
    empty : {b : List ℕ} → SoundBlock false false b → count_of b ≡ 0 → ⊥
    empty s e = let f = s.filled e in let z : ◌≡◌ {A = ℕ} 0 1 = cc in omega arith

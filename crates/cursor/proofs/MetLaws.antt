-- A page that is met as a branch or a leaf: its view, the block behind it, and its elements by their index.
-- Assumes nothing.
use mathlib.Core.Path.{◌≡◌, refl, sym, ap, ◌∙◌}
use mathlib.Core.Bool.{Bool, true, false, cond}
use mathlib.Core.List.{List, [], ◌∷◌}
use mathlib.Core.Option.{Option, none, some}
use Prim.Native.Nat.{ℕ, zero, suc, ◌*◌, ◌≤◌, ◌<◌}
use native.Mathlib.Nat.{zero-add}
use native.Mathlib.Omega.{arith}
use lib.ListN.{length}
use Rattle.page.specs.Layout.{count_of}
use Rattle.page.specs.PageRules.{SoundBlock, block_of, breach}
use Rattle.walk.specs.Tree.{Item, View, bad, branch, leaf, At, inside}
use Rattle.path.specs.Path.{met, nth}
use Rattle.view.specs.declared.Value.{Value}
use Rattle.view.specs.Geometry.{SoundSizes}
use Rattle.view.specs.View.{row, child_item, value_item, view_of}
use Rattle.view.proofs.GeometryLaws.{inside_parts}
use Rattle.view.proofs.ViewLaws.{length_row, row_at, view_branch, view_leaf}
use Rattle.cursor.specs.declared.sight.Sight.TheVariants.{Branch, Leaf}
use Rattle.cursor.specs.Sight.{sight_of, SoundPage}
use Rattle.std.specs.Prelude.{Ok, Err}
use Rattle.field.specs.declared.refusal.Refusal.TheVariants.{PageNumber}
use Rattle.field.specs.declared.refusal.Refusal.{Refusal}
use Rattle.page.specs.declared.breach.Breach.{Breach}

-- ---- elements by their index
pub at_nth : {A : Type 0} (xs : List A) (i : ℕ) (x : A) → At xs i x → nth xs i ≡ some x
unfolding nth
at_nth [] i x a = absurd a
at_nth (y ∷ xs) zero x a = ap some a
at_nth (y ∷ xs) (suc i) x a = at_nth xs i x a

pub nth_none : {A : Type 0} (xs : List A) (i : ℕ) → length xs ≤ i → nth xs i ≡ none
unfolding nth
nth_none [] i l = refl
nth_none (x ∷ xs) zero l = absurd (omega arith)
nth_none (x ∷ xs) (suc i) l = nth_none xs i (omega arith)

nth_row : {A : Type 0} (f : ℕ → A) (k i : ℕ) → i < k → nth (row f k 0) i ≡ some (f i)
nth_row f k i l = at_nth (row f k 0) i (f i) (rw (zero-add i) at (row_at f k 0 i l))

-- ---- what is known of a page by its view
pub record BranchMet (image : List ℕ) (P N q : ℕ) (top : Bool) (count : ℕ) : Type 0 where
  pub children : List (Item ℕ)
  pub seen : met N (view_of image P N) q top ≡ branch children
  pub view : view_of image P N q top ≡ branch children
  pub page : SoundPage image P N q
  pub sound : SoundBlock false false (block_of image P q)
  pub counted : count ≡ count_of (block_of image P q)
  pub size : length children ≡ count
  pub some : 0 < count
  pub child : (i : ℕ) → i < count → nth children i ≡ Option.some (child_item (block_of image P q) i)

pub record LeafMet (image : List ℕ) (P N q : ℕ) (top : Bool) (count : ℕ) : Type 0 where
  pub entries : List (Item Value)
  pub seen : met N (view_of image P N) q top ≡ leaf entries
  pub view : view_of image P N q top ≡ leaf entries
  pub page : SoundPage image P N q
  pub sound : SoundBlock true top (block_of image P q)
  pub counted : count ≡ count_of (block_of image P q)
  pub size : length entries ≡ count
  pub entry : (i : ℕ) → i < count → nth entries i ≡ Option.some (value_item (q * P) (block_of image P q) i)

module _ (image : List ℕ) (P N q : ℕ) (top : Bool) (sizes : SoundSizes image P N) where
  -- a page that is not refused is within bounds, and met by its view
  met_view : (v : View Value) → met N (view_of image P N) q top ≡ v → ((r : Refusal) (e c : ℕ) → v ≡ bad r e c → ⊥) → (inside N q ≡ true) × (view_of image P N q top ≡ v)
  met_view v m f = go (inside N q) refl m
    where
      go : (t : Bool) → inside N q ≡ t → cond t (view_of image P N q top) (bad PageNumber 0 0) ≡ v → (inside N q ≡ true) × (view_of image P N q top ≡ v)
      go true e g = (e, g)
      go false e g = absurd (f PageNumber 0 0 (sym g))

  pub branch_seen : (cs : List (Item ℕ)) → met N (view_of image P N) q top ≡ branch cs → BranchMet image P N q top (length cs)
  branch_seen cs m =
      let v = met_view (branch cs) m (λ r e c g. cc) in
      let x = view_branch image P N q top cs v.1 in
      let n : length cs ≡ count_of (block_of image P q) = ap length x.items ∙ length_row (child_item (block_of image P q)) (count_of (block_of image P q)) 0 in
      record {
        children = cs;
        seen = m;
        view = v.1;
        page = record { sizes = sizes; below_n = (inside_parts N q v.0).1; header = x.header };
        sound = x.sound;
        counted = n;
        size = refl;
        some = positive (length cs) (λ e. x.sound.filled (sym n ∙ e));
        child = λ i l. rw x.items (nth_row (child_item (block_of image P q)) (count_of (block_of image P q)) i (omega arith));
      }
    where
      positive : (k : ℕ) → (k ≡ 0 → false ≡ true) → 0 < k
      positive zero f = absurd (let e = f refl in cc)
      positive (suc k) f = omega arith

  pub leaf_seen : (es : List (Item Value)) → met N (view_of image P N) q top ≡ leaf es → LeafMet image P N q top (length es)
  leaf_seen es m =
      let v = met_view (leaf es) m (λ r e c g. cc) in
      let x = view_leaf image P N q top es v.1 in
      let n : length es ≡ count_of (block_of image P q) =
      ap length x.items ∙ length_row (value_item (q * P) (block_of image P q)) (count_of (block_of image P q)) 0 in
      record {
        entries = es;
        seen = m;
        view = v.1;
        page = record { sizes = sizes; below_n = (inside_parts N q v.0).1; header = x.header };
        sound = x.sound;
        counted = n;
        size = refl;
        entry = λ i l. rw x.items (nth_row (value_item (q * P) (block_of image P q)) (count_of (block_of image P q)) i (omega arith));
      }

  -- ---- by what the code saw
  pub bad_met : (b : Breach) → sight_of (met N (view_of image P N) q top) ≡ Err b → met N (view_of image P N) q top ≡ bad b.refusal b.element b.common
  bad_met b = go (met N (view_of image P N) q top)
    where
      go : (v : View Value) → sight_of v ≡ Err b → v ≡ bad b.refusal b.element b.common
      go (bad r e c) h = let o : breach r e c ≡ b = cc in rw (sym o)
      go (branch cs) h = absurd cc
      go (leaf es) h = absurd cc

  pub branch_met : (count : ℕ) → sight_of (met N (view_of image P N) q top) ≡ Ok (Branch count) → BranchMet image P N q top count
  branch_met count = go (met N (view_of image P N) q top) refl
    where
      go : (v : View Value) → met N (view_of image P N) q top ≡ v → sight_of v ≡ Ok (Branch count) → BranchMet image P N q top count
      go (bad s f d) m h = absurd cc
      go (branch cs) m h = let e : length cs ≡ count = cc in rw e at (branch_seen cs m)
      go (leaf es) m h = absurd cc

  pub leaf_met : (count : ℕ) → sight_of (met N (view_of image P N) q top) ≡ Ok (Leaf count) → LeafMet image P N q top count
  leaf_met count = go (met N (view_of image P N) q top) refl
    where
      go : (v : View Value) → met N (view_of image P N) q top ≡ v → sight_of v ≡ Ok (Leaf count) → LeafMet image P N q top count
      go (bad s f d) m h = absurd cc
      go (branch cs) m h = absurd cc
      go (leaf es) m h = let e : length es ≡ count = cc in rw e at (leaf_seen es m)

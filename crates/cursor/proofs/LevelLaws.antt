-- The pages of a path that stands in an image, level by level: each is sound, and what the code finds beside on one is what the definition finds.
-- Assumes nothing.
use mathlib.Core.Path.{◌≡◌, refl, sym, ap, ◌∙◌}
use mathlib.Core.Bool.{Bool, true, false}
use mathlib.Core.List.{List, [], ◌∷◌, ◌++◌}
use mathlib.Core.Option.{some}
use Prim.Native.Nat.{ℕ, zero, suc, ◌+◌, ◌-◌, ◌*◌, ◌≤◌, ◌<◌}
use native.Mathlib.Omega.{arith}
use borrow.Author.Tests.{lt-ltb, le-ltb}
use lib.Dec.{eqb}
use lib.ListN.{length, get_or, take, drop}
use Rattle.page.specs.Layout.{count_of, page_of}
use Rattle.page.specs.PageRules.{block_of}
use Rattle.page.proofs.RuleLaws.{sound_weaker}
use Rattle.walk.specs.Tree.{Item, View, branch, leaf}
use Rattle.path.specs.declared.Direction.{Direction}
use Rattle.path.specs.declared.Step.{Step}
use Rattle.path.specs.declared.Cursor.{Cursor}
use Rattle.path.specs.Path.{step, nth, Move, at, end, refused, below, outer, follow, neighbour}
use Rattle.path.proofs.Stands.{follow_not_end}
use Rattle.view.specs.declared.Value.{Value}
use Rattle.view.specs.Geometry.{SoundSizes}
use Rattle.view.specs.View.{child_item, value_item, view_of}
use Rattle.view.proofs.ViewLaws.{length_row, view_leaf, checked}
use Rattle.cursor.specs.Cursor.{path_of}
use Rattle.cursor.specs.Sight.{SoundPage}
use Rattle.cursor.specs.Working.{has_beside, beside_of, under, followed_of, page_at, root_of, PathPage, turn_of}
use Rattle.cursor.proofs.MetLaws.{branch_seen, leaf_seen}
use Rattle.cursor.proofs.BesideLaws.{Level, last_level, mid_level, level, none_on_leaf, none_on_branch, some_on_leaf, some_on_branch, lifted, outer_some}
use Rattle.cursor.proofs.StepsLaws.{under_at, under_snoc}
use Rattle.std.specs.Prelude.{Ok}

-- an element that is there is below the count
nth_below : {A : Type 0} (xs : List A) (i : ℕ) (x : A) → nth xs i ≡ some x → i < length xs
unfolding nth
nth_below [] i x h = absurd cc
nth_below (y ∷ xs) zero x h = omega arith
nth_below (y ∷ xs) (suc i) x h = let l = nth_below xs i x h in omega arith

-- a path of which it was found that it stands leads to an entry
pub stands_at : (m : Move Value) → (m ≡ end → ⊥) → followed_of m ≡ Ok tt → (rest : List Step) × (e : Item Value) × (m ≡ at rest e)
stands_at (at rest e) f h = (rest, e, refl)
stands_at end f h = absurd (f refl)
stands_at (refused r p i c) f h = absurd cc

module _ (image : List ℕ) (P N : ℕ) (sizes : SoundSizes image P N) (c : Cursor) (sixteen : length c.steps ≡ 16) (few : c.length ≤ 16)
    (stands : followed_of (follow N (view_of image P N) 16 true (root_of c) (path_of c)) ≡ Ok tt)
  where
    abbrev view : ℕ → Bool → View Value
    view = view_of image P N

    abbrev index : ℕ → ℕ
    index k = (get_or c.steps k (step 0 0)).index

    abbrev block : ℕ → List ℕ
    block k = block_of image P (page_at c k)

    stood : (rest : List Step) × (e : Item Value) × (follow N view 16 true (root_of c) (path_of c) ≡ at rest e)
    stood = stands_at (follow N view 16 true (root_of c) (path_of c)) (follow_not_end N view 16 true (root_of c) (path_of c)) stands

    on : (k : ℕ) → k < c.length → Level N view c.steps c.length sixteen few k stood.1
    on k l = level N view c.steps c.length sixteen few stood.1 (stood.0, stood.2) k l

    pub level_page : (k : ℕ) → k < c.length → SoundPage image P N (page_at c k) × (index k < count_of (block k))
    level_page k l = go (on k l)
      where
        go : Level N view c.steps c.length sixteen few k stood.1 → SoundPage image P N (page_at c k) × (index k < count_of (block k))
        go (last_level es m n x) = let b = leaf_seen image P N (page_at c k) (eqb k 0) sizes es m in let j = nth_below es (index k) _ n in (b.page, rw b.counted at j)
        go (mid_level cs d m n h x) = let b = branch_seen image P N (page_at c k) (eqb k 0) sizes cs m in let j = nth_below cs (index k) _ n in (b.page, rw b.counted at j)

    pub level_turn : (k i : ℕ) → k < c.length → i < count_of (block k) → PathPage image P N c k i
    level_turn k i l j = go (on k l)
      where
        go : Level N view c.steps c.length sixteen few k stood.1 → PathPage image P N c k i
        go (last_level es m n x) =
            let b = leaf_seen image P N (page_at c k) (eqb k 0) sizes es m in
            record { page = b.page; index = j; before = λ h. absurd (omega arith); last = λ h. sound_weaker true (eqb k 0) (block k) b.sound }
        go (mid_level cs d m n h x) =
            let b = branch_seen image P N (page_at c k) (eqb k 0) sizes cs m in
            record { page = b.page; index = j; before = λ g. b.sound; last = λ g. absurd (omega arith) }

    module _ (way : Direction) where
      abbrev Beside : ℕ → Move Value
      Beside k = neighbour N view way (16 - k) (eqb k 0) (page_at c k) (drop k (path_of c))

      pub none_here : (k : ℕ) → k < c.length → Beside (k + 1) ≡ end → has_beside way (count_of (block k)) (index k) ≡ false → Beside k ≡ end
      none_here k l b h = go (on k l)
        where
          go : Level N view c.steps c.length sixteen few k stood.1 → Beside k ≡ end
          go (last_level es m n x) =
              let s = leaf_seen image P N (page_at c k) (eqb k 0) sizes es m in
              none_on_leaf N view c.steps c.length sixteen few stood.1 (stood.0, stood.2) way k l es m (rw s.counted h)
          go (mid_level cs d m n y x) =
              let s = branch_seen image P N (page_at c k) (eqb k 0) sizes cs m in
              none_on_branch N view c.steps c.length sixteen few stood.1 (stood.0, stood.2) way k l cs d m n x b (rw s.counted h)

      -- below the root no page is empty
      branches : (q : ℕ) (t : Bool) → view q t ≡ branch [] → ⊥
      branches q t h = ((checked image P N).branches q t [] h).0 refl

      leaves : (q : ℕ) → view q false ≡ leaf [] → ⊥
      leaves q h =
          let x = view_leaf image P N q false [] h in
          let n : count_of (block_of image P q) ≡ 0 = sym (length_row (value_item (q * P) (block_of image P q)) (count_of (block_of image P q)) 0) ∙ ap length (sym x.items) in
          let f = x.sound.filled n in
          let z : ◌≡◌ {A = ℕ} 0 1 = cc in
          omega arith

      below_some : (s : Step) (m : Move Value) → (m ≡ end → ⊥) → below s m ≡ end → ⊥
      below_some s (at rest x) g h = cc
      below_some s end g h = g refl
      below_some s (refused r p j c) g h = cc

      turn_mid : (k i : ℕ) → k + 1 < c.length
          → turn_of image P N way c k i ≡ under (take k c.steps ++ (step (page_at c k) i ∷ [])) (outer N view way (16 - (k + 1)) false (page_of (block k) i))
      turn_mid k i h = rw (lt-ltb (k + 1) c.length h)

      turn_last : (k i : ℕ) → k + 1 ≡ c.length → turn_of image P N way c k i ≡ at (take k c.steps ++ (step (page_at c k) i ∷ [])) (value_item (page_at c k * P) (block k) i)
      turn_last k i h = rw (le-ltb (k + 1) c.length (omega arith))

      pub some_here : (k : ℕ) → k < c.length → Beside (k + 1) ≡ end → has_beside way (count_of (block k)) (index k) ≡ true → beside_of way (index k) < count_of (block k)
          → neighbour N view way 16 true (root_of c) (path_of c) ≡ turn_of image P N way c k (beside_of way (index k))
      some_here k l b h j = go (on k l)
        where
          go : Level N view c.steps c.length sixteen few k stood.1
              → neighbour N view way 16 true (root_of c) (path_of c) ≡ turn_of image P N way c k (beside_of way (index k))
          go (last_level es m n x) =
              let s = leaf_seen image P N (page_at c k) (eqb k 0) sizes es m in
              let e = s.counted in
              let same : s.entries ≡ es = (let p = s.seen in cc) in
              let f = some_on_leaf N view c.steps c.length sixteen few stood.1 (stood.0, stood.2) way k l es (value_item (page_at c k * P) (block k) (beside_of way (index k))) m (rw s.counted h)
              (rw same at (s.entry (beside_of way (index k)) (omega arith))) in
              lifted N view c.steps c.length sixteen few stood.1 (stood.0, stood.2) way k l (λ g. let q = sym f ∙ g in cc)
              ∙ ap (under (take k c.steps)) f
              ∙ under_at (take k c.steps) (step (page_at c k) (beside_of way (index k))) (value_item (page_at c k * P) (block k) (beside_of way (index k)))
              ∙ sym (turn_last k (beside_of way (index k)) x)
          go (mid_level cs d m n y x) =
              let s = branch_seen image P N (page_at c k) (eqb k 0) sizes cs m in
              let e = s.counted in
              let same : s.children ≡ cs = (let p = s.seen in cc) in
              let f = some_on_branch N view c.steps c.length sixteen few stood.1 (stood.0, stood.2) way k l cs d (child_item (block k) (beside_of way (index k))) m n x b (rw s.counted h)
              (rw same at (s.child (beside_of way (index k)) (omega arith))) in
              let o = outer_some N view branches leaves way (16 - (k + 1)) (page_of (block k) (beside_of way (index k))) in
              lifted N view c.steps c.length sixteen few stood.1 (stood.0, stood.2) way k l
              (λ g. below_some (step (page_at c k) (beside_of way (index k))) (outer N view way (16 - (k + 1)) false (page_of (block k) (beside_of way (index k)))) o (sym f ∙ g))
              ∙ ap (under (take k c.steps)) f
              ∙ sym (under_snoc (take k c.steps) (step (page_at c k) (beside_of way (index k))) (outer N view way (16 - (k + 1)) false (page_of (block k) (beside_of way (index k)))))
              ∙ sym (turn_mid k (beside_of way (index k)) y)

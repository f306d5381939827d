-- A path that stands, level by level, and the entry beside its own: it is found on the deepest level that has an element beside.
-- Assumes nothing.
use mathlib.Core.Path.{◌≡◌, refl, sym, ap, ◌∙◌}
use mathlib.Core.Bool.{Bool, true, false}
use mathlib.Core.List.{List, [], ◌∷◌}
use mathlib.Core.Option.{Option, none, some}
use Prim.Native.Nat.{ℕ, zero, suc, ◌+◌, ◌-◌, ◌≤◌, ◌<◌}
use native.Mathlib.Omega.{arith}
use borrow.Author.Tests.{ltb-true, ltb-false}
use lib.Dec.{ltb, eqb}
use lib.ListN.{length, get_or, take, drop}
use Rattle.walk.specs.Tree.{Item, View, bad, branch, leaf}
use Rattle.path.specs.declared.Direction.{Direction}
use Rattle.path.specs.declared.Direction.TheVariants.{Onward, Back}
use Rattle.path.specs.declared.Step.{Step}
use Rattle.path.specs.Path.{step, Placed, placed, nth, beside, outermost, Move, at, end, refused, entry_at, below, child_at, or_beside, outer_page, met, outer, follow, neighbour}
use Rattle.path.proofs.Stands.{met_branch, met_leaf, on_leaf, on_branch, Followed, followed, follow_length, neighbour_leaf, neighbour_branch}
use Rattle.cursor.specs.Working.{has_beside, beside_of, under}
use Rattle.cursor.proofs.MetLaws.{nth_none}
use Rattle.cursor.proofs.OuterLaws.{not_first}
use Rattle.cursor.proofs.StepsLaws.{take_next, path_at, path_over, under_snoc}

-- ---- the element beside, by its index
pub beside_some : {A : Type 0} (way : Direction) (xs : List A) (i : ℕ) (x : A) → has_beside way (length xs) i ≡ true → nth xs (beside_of way i) ≡ some x
    → beside way xs i ≡ placed (beside_of way i) (some x)
unfolding beside
beside_some Onward xs i x h n = let e : i + 1 ≡ suc i = omega arith in rw (sym e, n)
beside_some Back xs zero x h n = absurd (let l = ltb-true 0 0 h in omega arith)
beside_some Back xs (suc i) x h n = let e : suc i - 1 ≡ i = omega arith in rw e (rw e at (ap (placed (suc i - 1)) n))

pub beside_none : {A : Type 0} (way : Direction) (xs : List A) (i : ℕ) → has_beside way (length xs) i ≡ false → beside way xs i ≡ none
unfolding beside
beside_none Onward xs i h = rw (nth_none xs (suc i) (let l = ltb-false (i + 1) (length xs) h in omega arith))
beside_none Back xs zero h = refl
beside_none Back xs (suc i) h = absurd (let l = ltb-false 0 (suc i) h in omega arith)

-- a list that has no outermost element is empty
nth_there : {A : Type 0} (xs : List A) (i : ℕ) → i < length xs → nth xs i ≡ none → ⊥
unfolding nth
nth_there [] i l h = omega arith
nth_there (x ∷ xs) zero l h = cc
nth_there (x ∷ xs) (suc i) l h = nth_there xs i (omega arith) h

outermost_none : {A : Type 0} (way : Direction) (xs : List A) → outermost way xs ≡ none → xs ≡ []
unfolding outermost
outermost_none way [] h = refl
outermost_none {A = A} way (x ∷ xs) h = absurd (go way h)
  where
    unplaced : (i : ℕ) (o : Option A) → placed i o ≡ none → o ≡ none
    unplaced i none h = refl
    unplaced i (some y) h = absurd cc

    go : (w : Direction) → outermost w (x ∷ xs) ≡ none → ⊥
    go Onward h = nth_there (x ∷ xs) 0 (omega arith) (unplaced 0 (nth (x ∷ xs) 0) h)
    go Back h = nth_there (x ∷ xs) (suc (length xs) - 1) (omega arith) (unplaced (suc (length xs) - 1) (nth (x ∷ xs) (suc (length xs) - 1)) h)

-- ---- a path that stands
module _ {P : Type 0} (N : ℕ) (view : ℕ → Bool → View P) (steps : List Step) (size : ℕ) (sixteen : length steps ≡ 16) (few : size ≤ 16) where
  abbrev path : List Step
  path = take size steps

  -- step k, and the page that it names
  abbrev at_step : ℕ → Step
  at_step k = get_or steps k (step 0 0)

  abbrev page : ℕ → ℕ
  page k = (at_step k).page

  left : (k : ℕ) → k < size → 16 - k ≡ suc (16 - (k + 1))
  left k l = omega arith

  here : (k : ℕ) → k < size → drop k path ≡ at_step k ∷ drop (k + 1) path
  here k l = path_at steps size k (omega arith) l

  -- from page q on level k the rest of the path leads to this entry
  abbrev From : ℕ → ℕ → Item P → Type 0
  From k q e = (rest : List Step) × (follow N view (16 - k) (eqb k 0) q (drop k path) ≡ at rest e)

  -- what stands on level k: the path's last page is a leaf, and each other a branch whose child is the next page
  pub data Level (k : ℕ) (e : Item P) : Type 0 where
    last_level : (es : List (Item P)) → met N view (page k) (eqb k 0) ≡ leaf es → nth es (at_step k).index ≡ some e → k + 1 ≡ size → Level k e
    mid_level : (cs : List (Item ℕ)) (c : Item ℕ) → met N view (page k) (eqb k 0) ≡ branch cs → nth cs (at_step k).index ≡ some c → k + 1 < size
        → c.value ≡ page (k + 1) → Level k e

  -- the page from which the rest of a path leads on is the one that its step names
  named : (k q : ℕ) (e : Item P) → k < size → From k q e → q ≡ page k
  named k q e l (rest, f) = go (followed N view (16 - (k + 1)) (eqb k 0) q (at_step k ∷ drop (k + 1) path) rest e (rw (left k l, here k l) at f))
    where
      go : Followed N view (16 - (k + 1)) (eqb k 0) q (at_step k ∷ drop (k + 1) path) rest e → q ≡ page k
      go (on_leaf i es m n a b) = let s : at_step k ≡ step q i = cc in sym (ap (λ (x : Step). x.page) s)
      go (on_branch i cs c r r' m n g a b) = let s : at_step k ≡ step q i = cc in sym (ap (λ (x : Step). x.page) s)

  -- where a path leads on, it has a step more
  further : (k q : ℕ) (e : Item P) → From k q e → k < size
  further k q e (rest, f) = go (ltb k size) refl
    where
      go : (t : Bool) → ltb k size ≡ t → k < size
      go true h = ltb-true k size h
      go false h =
          absurd
          (let n = (follow_length N view (16 - k) (eqb k 0) q (drop k path) rest e f).0 in
          let d = ap length (path_over steps size k (omega arith) (ltb-false k size h)) in
          omega arith)

  -- each level, from the first down
  level_at : (k q : ℕ) (e : Item P) → k < size → From k q e → Level k e × (k + 1 < size → From (k + 1) (page (k + 1)) e)
  level_at k q e l (rest, f) =
      let p = named k q e l (rest, f) in
      go p (followed N view (16 - (k + 1)) (eqb k 0) q (at_step k ∷ drop (k + 1) path) rest e (rw (left k l, here k l) at f))
    where
      after : (q' : ℕ) (r r' : List Step) → drop (k + 1) path ≡ r → follow N view (16 - (k + 1)) false q' r ≡ at r' e → From (k + 1) q' e
      after q' r r' d g = (r', rw (not_first k, d) g)

      go : q ≡ page k → Followed N view (16 - (k + 1)) (eqb k 0) q (at_step k ∷ drop (k + 1) path) rest e → Level k e × (k + 1 < size → From (k + 1) (page (k + 1)) e)
      go p (on_leaf i es m n a b) =
          let s : at_step k ≡ step q i = cc in
          let d : drop (k + 1) path ≡ [] = cc in
          let j : (at_step k).index ≡ i = ap (λ (x : Step). x.index) s in
          (last_level es (rw (sym p) m) (rw j n) (over d), λ h. absurd (nothing (here (k + 1) h) d))
        where
          nothing : {x : Step} {xs : List Step} → drop (k + 1) path ≡ x ∷ xs → drop (k + 1) path ≡ [] → ⊥
          nothing c d = cc

          over : drop (k + 1) path ≡ [] → k + 1 ≡ size
          over d = go_on (ltb (k + 1) size) refl
            where
              go_on : (t : Bool) → ltb (k + 1) size ≡ t → k + 1 ≡ size
              go_on true h = absurd (nothing (here (k + 1) (ltb-true (k + 1) size h)) d)
              go_on false h = let g = ltb-false (k + 1) size h in omega arith
      go p (on_branch i cs c r r' m n g a b) =
          let s : at_step k ≡ step q i = cc in
          let d : drop (k + 1) path ≡ r = cc in
          let j : (at_step k).index ≡ i = ap (λ (x : Step). x.index) s in
          let f : From (k + 1) c.value e = after c.value r r' d g in
          let h = further (k + 1) c.value e f in
          let x : c.value ≡ page (k + 1) = named (k + 1) c.value e h f in
          (mid_level cs c (rw (sym p) m) (rw j n) h x, λ y. rw x at f)

  module _ (e : Item P) (stands : From 0 (page 0) e) where
    from_at : (k : ℕ) → k < size → From k (page k) e
    from_at zero l = stands
    from_at (suc k) l =
        let h : k + 1 ≡ suc k = omega arith in
        rw h at ((level_at k (page k) e (omega arith) (from_at k (omega arith))).1 (omega arith))

    pub level : (k : ℕ) → k < size → Level k e
    level k l = (level_at k (page k) e l (from_at k l)).0

    -- ---- the entry beside, from level k on
    module _ (way : Direction) where
      abbrev pub Beside : ℕ → Move P
      Beside k = neighbour N view way (16 - k) (eqb k 0) (page k) (drop k path)

      on_leaf_lem : (k : ℕ) (l : k < size) (es : List (Item P)) → met N view (page k) (eqb k 0) ≡ leaf es → Beside k ≡ entry_at (page k) (beside way es (at_step k).index)
      on_leaf_lem k l es m =
          rw (left k l, here k l)
          (neighbour_leaf N view way (16 - (k + 1)) (eqb k 0) (page k) (at_step k).index es (drop (k + 1) path) (met_leaf N view (page k) (eqb k 0) es m))

      on_branch_lem : (k : ℕ) (l : k < size) (cs : List (Item ℕ)) (c : Item ℕ) → met N view (page k) (eqb k 0) ≡ branch cs → nth cs (at_step k).index ≡ some c → c.value ≡ page (k + 1)
          → Beside k ≡ or_beside way (outer N view way (16 - (k + 1)) false) (page k) cs (at_step k).index (Beside (k + 1))
      on_branch_lem k l cs c m n x =
          rw (left k l, here k l, not_first k, sym x)
          (neighbour_branch N view way (16 - (k + 1)) (eqb k 0) (page k) (at_step k).index cs c (drop (k + 1) path) (met_branch N view (page k) (eqb k 0) cs m) n)

      pub none_on_leaf : (k : ℕ) → k < size → (es : List (Item P)) → met N view (page k) (eqb k 0) ≡ leaf es → has_beside way (length es) (at_step k).index ≡ false
          → Beside k ≡ end
      none_on_leaf k l es m h = on_leaf_lem k l es m ∙ ap (entry_at (page k)) (beside_none way es (at_step k).index h)

      pub none_on_branch : (k : ℕ) → k < size → (cs : List (Item ℕ)) (c : Item ℕ) → met N view (page k) (eqb k 0) ≡ branch cs → nth cs (at_step k).index ≡ some c
          → c.value ≡ page (k + 1) → Beside (k + 1) ≡ end → has_beside way (length cs) (at_step k).index ≡ false
          → Beside k ≡ end
      none_on_branch k l cs c m n x b h = on_branch_lem k l cs c m n x ∙ rw (b, beside_none way cs (at_step k).index h)

      pub some_on_leaf : (k : ℕ) → k < size → (es : List (Item P)) (y : Item P) → met N view (page k) (eqb k 0) ≡ leaf es → has_beside way (length es) (at_step k).index ≡ true
          → nth es (beside_of way (at_step k).index) ≡ some y
          → Beside k ≡ at (step (page k) (beside_of way (at_step k).index) ∷ []) y
      some_on_leaf k l es y m h n = on_leaf_lem k l es m ∙ ap (entry_at (page k)) (beside_some way es (at_step k).index y h n)

      pub some_on_branch : (k : ℕ) → k < size → (cs : List (Item ℕ)) (c d : Item ℕ) → met N view (page k) (eqb k 0) ≡ branch cs → nth cs (at_step k).index ≡ some c
          → c.value ≡ page (k + 1) → Beside (k + 1) ≡ end → has_beside way (length cs) (at_step k).index ≡ true → nth cs (beside_of way (at_step k).index) ≡ some d
          → Beside k ≡ below (step (page k) (beside_of way (at_step k).index)) (outer N view way (16 - (k + 1)) false d.value)
      some_on_branch k l cs c d m n x b h j = on_branch_lem k l cs c m n x ∙ rw (b, beside_some way cs (at_step k).index d h j)

      -- what is found beside on level k is what the whole path has beside it
      pub lifted : (k : ℕ) → k < size → (Beside k ≡ end → ⊥) → Beside 0 ≡ under (take k steps) (Beside k)
      unfolding under
      lifted zero l f = refl
      lifted (suc k) l f = go (level k (omega arith)) (λ h g. lifted k h g)
        where
          e₁ : k + 1 ≡ suc k
          e₁ = omega arith

          -- a move that came to something is only put below the step
          put : (cs : List (Item ℕ)) (i : ℕ) (out : ℕ → Move P) (m : Move P) → (m ≡ end → ⊥) → or_beside way out (page k) cs i m ≡ below (step (page k) i) m
          put cs i out (at rest x) g = refl
          put cs i out end g = absurd (g refl)
          put cs i out (refused r p j c) g = refl

          below_some : (s : Step) (m : Move P) → (m ≡ end → ⊥) → below s m ≡ end → ⊥
          below_some s (at rest x) g h = cc
          below_some s end g h = g refl
          below_some s (refused r p j c) g h = cc

          go : Level k e → (k < size → (Beside k ≡ end → ⊥) → Beside 0 ≡ under (take k steps) (Beside k)) → Beside 0 ≡ under (take (suc k) steps) (Beside (suc k))
          go (last_level es m n x) ih = absurd (omega arith)
          go (mid_level cs c m n h x) ih =
              let b : Beside k ≡ below (at_step k) (Beside (suc k)) =
              rw e₁ at (on_branch_lem k (omega arith) cs c m n x) ∙ put cs (at_step k).index (outer N view way (16 - suc k) false) (Beside (suc k)) f in
              ih (omega arith) (λ g. below_some (at_step k) (Beside (suc k)) f (sym b ∙ g))
              ∙ ap (under (take k steps)) b
              ∙ sym (under_snoc (take k steps) (at_step k) (Beside (suc k)))
              ∙ ap (λ (r : List Step). under r (Beside (suc k))) (sym (rw e₁ at (take_next steps k (omega arith))))

-- after its last step a path has nothing beside it
pub nothing_over : {P : Type 0} (N : ℕ) (view : ℕ → Bool → View P) (way : Direction) (d : ℕ) (t : Bool) (q : ℕ) (steps : List Step) (size : ℕ) → size ≤ length steps
    → neighbour N view way d t q (drop size (take size steps)) ≡ end
unfolding neighbour
nothing_over N view way d t q steps size l = rw (path_over steps size size l (omega arith))

-- ---- below the root there is always an outermost entry, where no page is empty
module _ {P : Type 0} (N : ℕ) (view : ℕ → Bool → View P)
    (branches : (q : ℕ) (t : Bool) → view q t ≡ branch [] → ⊥)
    (leaves : (q : ℕ) → view q false ≡ leaf [] → ⊥)
    (way : Direction)
  where
    below_end : (s : Step) (m : Move P) → below s m ≡ end → m ≡ end
    below_end s (at rest x) h = absurd cc
    below_end s end h = refl
    below_end s (refused r p i c) h = absurd cc

    entry-some : (q : ℕ) (es : List (Item P)) (o : Option (Placed (Item P))) → outermost way es ≡ o → entry_at q o ≡ end → es ≡ []
    entry-some q es none o h = outermost_none way es o
    entry-some q es (some x) o h = absurd cc

    pub outer_some : (d q : ℕ) → outer N view way d false q ≡ end → ⊥
    unfolding outer
    outer_some zero q h = cc
    outer_some (suc d) q h = go (met N view q false) refl h (outer_some d)
      where
        child_some : (cs : List (Item ℕ)) (o : Option (Placed (Item ℕ))) → met N view q false ≡ branch cs → outermost way cs ≡ o → child_at (outer N view way d false) q o ≡ end
            → ((c : ℕ) → outer N view way d false c ≡ end → ⊥) → ⊥
        child_some cs none m o h ih = branches q false (rw (outermost_none way cs o) at (met_branch N view q false cs m))
        child_some cs (some c) m o h ih = ih c.item.value (below_end (step q c.index) (outer N view way d false c.item.value) h)

        go : (v : View P) → met N view q false ≡ v → outer_page way (outer N view way d false) v q ≡ end → ((c : ℕ) → outer N view way d false c ≡ end → ⊥) → ⊥
        go (bad r i c) m h ih = cc
        go (branch cs) m h ih = child_some cs (outermost way cs) m refl h ih
        go (leaf es) m h ih = leaves q (rw (entry-some q es (outermost way es) refl h) at (met_leaf N view q false es m))

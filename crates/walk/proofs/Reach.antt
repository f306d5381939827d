-- In a tree whose walk passes: the slots are those of the leaf entries reached, and the pages visited are those of the blocks reached, each once where no block has a page twice.
-- Assumes nothing.
use Prim.Native.Nat.{ℕ, zero, suc, ◌+◌}
use native.Mathlib.Omega.{arith}
use mathlib.Core.Path.{◌≡◌, refl}
use mathlib.Core.List.{List, ◌++◌}
use mathlib.Core.Bool.{Bool, true, false}
use mathlib.Core.Option.{Option}
use mathlib.Core.Logic.{◌⊎◌, inl, inr, ⊎_elim}
use Rattle.walk.specs.Tree.{Key, Item, View, branch, leaf, At, memb, Distinct, Below, here, down, Used, LeafEntry}
use Rattle.walk.specs.Listing.{Mem, Slot}
use Rattle.walk.proofs.Slots.{mem_left, mem_right, mem_either, slot_at, at_slot}
use Rattle.walk.proofs.Pages.{memb_left, memb_right, memb_either, distinct_append}
use Rattle.walk.proofs.Walked.{Walked, WalkedAll, at_leaf, at_branch, done, more}

module _ {P : Type 0} (view : ℕ → Bool → View P) where
  -- a way is no step, or a first step and the rest
  pub data Step (p : ℕ) (t : Bool) (l q : ℕ) (s : Bool) : Type 0 where
    stay : q ≡ p → s ≡ t → l ≡ 1 → Step p t l q s
    go : (cs : List (Item ℕ)) (i : ℕ) (c : Item ℕ) (k : ℕ)
        → view p t ≡ branch cs
        → At cs i c
        → Below view c.value false k q s
        → l ≡ suc k
        → Step p t l q s

  pub step : {p : ℕ} {t : Bool} {l q : ℕ} {s : Bool} → Below view p t l q s → Step p t l q s
  step here = stay refl refl refl
  step (down {cs = cs} i c {l = l} f a w) = go cs i c l f a w refl

  -- from a leaf there is no step
  pub at_leaf_lem : {p : ℕ} {t : Bool} {l q : ℕ} {s : Bool} {es : List (Item P)} → view p t ≡ leaf es → Below view p t l q s → (q ≡ p) × (s ≡ t) × (l ≡ 1)
  at_leaf_lem {p} {t} {l} {q} {s} {es} f w = take_step (step w)
    where
      take_step : Step p t l q s → (q ≡ p) × (s ≡ t) × (l ≡ 1)
      take_step (stay a b c) = (a, b, c)
      take_step (go cs i c k g a v e) = absurd (let z : ◌≡◌ {A = ℕ} 0 1 = cc in omega arith)

  -- from a branch a step leads to one of its children
  pub at_branch_lem : {p : ℕ} {t : Bool} {l q : ℕ} {s : Bool} {cs : List (Item ℕ)}
      → view p t ≡ branch cs
      → Below view p t l q s
      → ((q ≡ p) × (s ≡ t) × (l ≡ 1)) ⊎ ((i : ℕ) × (c : Item ℕ) × (k : ℕ) × At cs i c × Below view c.value false k q s × (l ≡ suc k))
  at_branch_lem {p} {t} {l} {q} {s} {cs} f w = take_step (step w)
    where
      take_step : Step p t l q s
          → ((q ≡ p) × (s ≡ t) × (l ≡ 1)) ⊎ ((i : ℕ) × (c : Item ℕ) × (k : ℕ) × At cs i c × Below view c.value false k q s × (l ≡ suc k))
      take_step (stay a b c) = inl (a, b, c)
      take_step (go ds i c k g a v e) =
          let d : ds ≡ cs = cc in
          inr (i, c, k, rw d at a, v, e)

  used_down : {block : ℕ → List ℕ} {p : ℕ} {t : Bool} {cs : List (Item ℕ)} (i : ℕ) (c : Item ℕ) {k : ℕ}
      → view p t ≡ branch cs
      → At cs i c
      → Used view block c.value false k
      → Used view block p t k
  used_down i c f a x =
      let r = x.reached in
      record { page = x.page; reached = record { level = suc r.level; top = r.top; way = down i c f a r.way }; within = x.within }

  entry_down : {p : ℕ} {t : Bool} {cs : List (Item ℕ)} (i : ℕ) (c : Item ℕ) {q j : ℕ} {e : Item P}
      → view p t ≡ branch cs
      → At cs i c
      → LeafEntry view c.value false q j e
      → LeafEntry view p t q j e
  entry_down i c f a x = record { level = suc x.level; top = x.top; entries = x.entries; way = down i c f a x.way; is_leaf = x.is_leaf; entry_at = x.entry_at }

module _ {P : Type 0} (N : ℕ) (block : ℕ → List ℕ) (view : ℕ → Bool → View P) where
  -- ---- each slot is that of a leaf entry that is reached
  mutual
    pub entered : {d : ℕ} {t : Bool} {p : ℕ} {low : Key} {high : Option Key} {vs : List ℕ} {L : List (Slot P)} {ws : List ℕ} (s : Slot P)
        → Walked N block view d t p low high vs L ws
        → Mem s L
        → LeafEntry view p t s.page s.index s.entry
    entered s (at_leaf {t = t} {p = p} {es = es} i m f o q g) k =
        let x = slot_at es p 0 s (rw q at k) in
        let y : s.index ≡ x.0 = (let z = x.2 in omega arith) in
        record {
          level = 1;
          top = t;
          entries = es;
          way = rw x.1 here;
          is_leaf = rw x.1 f;
          entry_at = rw y x.3;
        }
    entered s (at_branch i m f o w) k =
        let x = entered_all s w k in
        entry_down view x.0 x.1 f x.2 x.3

    entered_all : {d : ℕ} {cs : List (Item ℕ)} {high : Option Key} {vs : List ℕ} {L : List (Slot P)} {ws : List ℕ} (s : Slot P)
        → WalkedAll N block view d cs high vs L ws
        → Mem s L
        → (i : ℕ) × (c : Item ℕ) × At cs i c × LeafEntry view c.value false s.page s.index s.entry
    entered_all s done k = absurd k
    entered_all s (more {c = c} {L = L} {M = M} w ws q) k =
        ⊎_elim
        (λ h. (0, c, refl, entered s w h))
        (λ h. let x = entered_all s ws h in (suc x.0, x.1, x.2, x.3))
        (mem_either s L M (rw q at k))

  -- ---- each leaf entry that is reached has its slot
  mutual
    pub listed : {d : ℕ} {t : Bool} {p : ℕ} {low : Key} {high : Option Key} {vs : List ℕ} {L : List (Slot P)} {ws : List ℕ} (r j : ℕ) (e : Item P)
        → Walked N block view d t p low high vs L ws
        → LeafEntry view p t r j e
        → Mem (record { page = r; index = j; entry = e }) L
    listed r j e (at_leaf {t = t} {p = p} {es = es} i m f o q v) x =
        let y = at_leaf_lem view f x.way in
        let a = y.0 in
        let b = y.1 in
        let g = x.is_leaf in
        let n : x.entries ≡ es = cc in
        let z : j + 0 ≡ j = omega arith in
        rw (q, a) (rw z at (at_slot es p 0 j e (rw n at x.entry_at)))
    listed r j e (at_branch {t = t} {p = p} i m f o w) x =
        ⊎_elim
        (λ y. absurd (let a = y.0 in let b = y.1 in let g = x.is_leaf in let z : ◌≡◌ {A = ℕ} 0 1 = cc in omega arith))
        (λ y.
        listed_all r j e y.0 y.1 w y.3
        (record { level = y.2; top = x.top; entries = x.entries; way = y.4; is_leaf = x.is_leaf; entry_at = x.entry_at }))
        (at_branch_lem view f x.way)

    listed_all : {d : ℕ} {cs : List (Item ℕ)} {high : Option Key} {vs : List ℕ} {L : List (Slot P)} {ws : List ℕ} (r j : ℕ) (e : Item P) (i : ℕ) (c : Item ℕ)
        → WalkedAll N block view d cs high vs L ws
        → At cs i c
        → LeafEntry view c.value false r j e
        → Mem (record { page = r; index = j; entry = e }) L
    listed_all r j e i c done a x = absurd a
    listed_all r j e zero c (more {L = L} {M = M} w ws q) a x = rw q (mem_left (record { page = r; index = j; entry = e }) L M (listed r j e w (rw (← a) at x)))
    listed_all r j e (suc i) c (more {L = L} {M = M} w ws q) a x = rw q (mem_right (record { page = r; index = j; entry = e }) L M (listed_all r j e i c ws a x))

  -- ---- the pages visited
  mutual
    pub kept : {d : ℕ} {t : Bool} {p : ℕ} {low : Key} {high : Option Key} {vs : List ℕ} {L : List (Slot P)} {ws : List ℕ} (k : ℕ)
        → Walked N block view d t p low high vs L ws
        → memb k vs ≡ true
        → memb k ws ≡ true
    kept k (at_leaf {p = p} {vs = vs} i m f o q g) e = rw g (memb_right k (block p) vs e)
    kept k (at_branch {p = p} {vs = vs} i m f o w) e = kept_all k w (memb_right k (block p) vs e)

    kept_all : {d : ℕ} {cs : List (Item ℕ)} {high : Option Key} {vs : List ℕ} {L : List (Slot P)} {ws : List ℕ} (k : ℕ)
        → WalkedAll N block view d cs high vs L ws
        → memb k vs ≡ true
        → memb k ws ≡ true
    kept_all k done e = e
    kept_all k (more w ws q) e = kept_all k ws (kept k w e)

  mutual
    pub visited : {d : ℕ} {t : Bool} {p : ℕ} {low : Key} {high : Option Key} {vs : List ℕ} {L : List (Slot P)} {ws : List ℕ} {l r : ℕ} {s : Bool} (k : ℕ)
        → Walked N block view d t p low high vs L ws
        → Below view p t l r s
        → memb k (block r) ≡ true
        → memb k ws ≡ true
    visited k (at_leaf {p = p} {vs = vs} i m f o q g) b e = rw g (memb_left k (block p) vs (rw (at_leaf_lem view f b).0 at e))
    visited k (at_branch {p = p} {vs = vs} i m f o w) b e =
        ⊎_elim
        (λ y. kept_all k w (memb_left k (block p) vs (rw y.0 at e)))
        (λ y. visited_all k y.0 y.1 w y.3 y.4 e)
        (at_branch_lem view f b)

    visited_all : {d : ℕ} {cs : List (Item ℕ)} {high : Option Key} {vs : List ℕ} {L : List (Slot P)} {ws : List ℕ} {l r : ℕ} {s : Bool} (k i : ℕ) (c : Item ℕ)
        → WalkedAll N block view d cs high vs L ws
        → At cs i c
        → Below view c.value false l r s
        → memb k (block r) ≡ true
        → memb k ws ≡ true
    visited_all k i c done a b e = absurd a
    visited_all k zero c (more w ws q) a b e = kept_all k ws (visited k w (rw (← a) at b) e)
    visited_all k (suc i) c (more w ws q) a b e = visited_all k i c ws a b e

  -- a page of the block of p, or visited before
  own : (p : ℕ) (t : Bool) (vs : List ℕ) (k : ℕ) → memb k (block p ++ vs) ≡ true → Used view block p t k ⊎ (memb k vs ≡ true)
  own p t vs k e =
      ⊎_elim
      (λ h. inl (record { page = p; reached = record { level = 1; top = t; way = here }; within = h }))
      (λ h. inr h)
      (memb_either k (block p) vs e)

  mutual
    pub only : {d : ℕ} {t : Bool} {p : ℕ} {low : Key} {high : Option Key} {vs : List ℕ} {L : List (Slot P)} {ws : List ℕ} (k : ℕ)
        → Walked N block view d t p low high vs L ws
        → memb k ws ≡ true
        → Used view block p t k ⊎ (memb k vs ≡ true)
    only k (at_leaf {t = t} {p = p} {vs = vs} i m f o q g) e = own p t vs k (rw g at e)
    only k (at_branch {t = t} {p = p} {vs = vs} i m f o w) e =
        ⊎_elim (λ x. inl (used_down view x.0 x.1.0 f x.1.1 x.2)) (λ x. own p t vs k x) (only_all k w e)

    only_all : {d : ℕ} {cs : List (Item ℕ)} {high : Option Key} {vs : List ℕ} {L : List (Slot P)} {ws : List ℕ} (k : ℕ)
        → WalkedAll N block view d cs high vs L ws
        → memb k ws ≡ true
        → ((i : ℕ) × (x : (c : Item ℕ) × At cs i c) × Used view block x.0.value false k) ⊎ (memb k vs ≡ true)
    only_all k done e = inr e
    only_all k (more {c = c} w ws q) e =
        ⊎_elim
        (λ x. inl (suc x.0, x.1, x.2))
        (λ x. ⊎_elim (λ h. inl (0, (c, refl), h)) (λ h. inr h) (only k w x))
        (only_all k ws e)

  module _ (blocks : (q : ℕ) → Distinct (block q)) where
    mutual
      pub distinct : {d : ℕ} {t : Bool} {p : ℕ} {low : Key} {high : Option Key} {vs : List ℕ} {L : List (Slot P)} {ws : List ℕ}
          → Walked N block view d t p low high vs L ws
          → Distinct vs
          → Distinct ws
      distinct (at_leaf {p = p} {vs = vs} i m f o q g) x = rw g (distinct_append (block p) vs m (blocks p) x)
      distinct (at_branch {p = p} {vs = vs} i m f o w) x = distinct_all w (distinct_append (block p) vs m (blocks p) x)

      distinct_all : {d : ℕ} {cs : List (Item ℕ)} {high : Option Key} {vs : List ℕ} {L : List (Slot P)} {ws : List ℕ}
          → WalkedAll N block view d cs high vs L ws
          → Distinct vs
          → Distinct ws
      distinct_all done x = x
      distinct_all (more w ws q) x = distinct_all ws (distinct w x)

-- A path that a call comes to stands where it says: following it comes to the same entry by the same path. It has 1 step or more, and no more than there are levels.
-- Assumes nothing, not even that a walk passes.
use Prim.Native.Nat.{ℕ, zero, suc, ◌≤◌}
use native.Mathlib.Omega.{arith}
use mathlib.Core.Path.{◌≡◌, refl, sym, ap, ◌∙◌}
use mathlib.Core.List.{List, [], ◌∷◌}
use mathlib.Core.Bool.{Bool, true, false, cond}
use mathlib.Core.Option.{Option, none, some}
use mathlib.Core.Logic.{◌⊎◌, inl, inr, ⊎_elim}
use lib.Dec.{eqb}
use lib.ListN.{length}
use borrow.Author.Tests.{eqb-true, eq-eqb}
use Rattle.walk.specs.Tree.{Key, Item, View, bad, branch, leaf, inside}
use Rattle.path.specs.declared.Direction.{Direction}
use Rattle.path.specs.declared.Direction.TheVariants.{Onward}
use Rattle.path.specs.declared.Step.{Step}
use Rattle.path.specs.Path.{step, Placed, nth, beside, outermost, not_below, leading, Move, at, end, refused, lacking, entry_at, below, child_at, or_beside, outer_page, seek_child, seek_page, follow_leaf, follow_child, follow_page, and_then, met, outer, seek, follow, neighbour, move}
use Rattle.path.proofs.Elements.{There, rest_whole, outermost_there, beside_there, not_below_there, leading_there}
use Rattle.field.specs.declared.refusal.Refusal.TheVariants.{PageNumber}

-- ---- a move that came to an entry, and what it was made of
module _ {P : Type 0} where
  pub below_at : (s : Step) (m : Move P) (path : List Step) (e : Item P) → below s m ≡ at path e → (rest : List Step) × (m ≡ at rest e) × (path ≡ s ∷ rest)
  below_at s (at rest x) path e h =
      let a : x ≡ e = cc in
      let b : s ∷ rest ≡ path = cc in
      (rest, rw a, sym b)
  below_at s end path e h = absurd cc
  below_at s (refused r p i c) path e h = absurd cc

  entry_at_lem : (q : ℕ) (o : Option (Placed (Item P))) (path : List Step) (e : Item P)
      → entry_at q o ≡ at path e
      → (x : Placed (Item P)) × (o ≡ some x) × (path ≡ step q x.index ∷ []) × (x.item ≡ e)
  entry_at_lem q none path e h = absurd cc
  entry_at_lem q (some x) path e h =
      let a : x.item ≡ e = cc in
      let b : step q x.index ∷ [] ≡ path = cc in
      (x, refl, sym b, a)

  child_at_lem : (go : ℕ → Move P) (q : ℕ) (o : Option (Placed (Item ℕ))) (path : List Step) (e : Item P)
      → child_at go q o ≡ at path e
      → (c : Placed (Item ℕ)) × (o ≡ some c) × (rest : List Step) × (go c.item.value ≡ at rest e) × (path ≡ step q c.index ∷ rest)
  child_at_lem go q none path e h = absurd cc
  child_at_lem go q (some c) path e h =
      let b = below_at (step q c.index) (go c.item.value) path e h in
      (c, refl, b.0, b.1, b.2)

  or_beside_at : (way : Direction) (out : ℕ → Move P) (q : ℕ) (cs : List (Item ℕ)) (i : ℕ) (m : Move P) (path : List Step) (e : Item P)
      → or_beside way out q cs i m ≡ at path e
      → ((rest : List Step) × (m ≡ at rest e) × (path ≡ step q i ∷ rest)) ⊎ (child_at out q (beside way cs i) ≡ at path e)
  or_beside_at way out q cs i (at rest x) path e h = inl (below_at (step q i) (at rest x) path e h)
  or_beside_at way out q cs i end path e h = inr h
  or_beside_at way out q cs i (refused r p j c) path e h = absurd cc

  pub then_at : (m k : Move P) (path : List Step) (e : Item P) → and_then m k ≡ at path e → (path₀ : List Step) × (e₀ : Item P) × (m ≡ at path₀ e₀) × (k ≡ at path e)
  then_at (at path₀ e₀) k path e h = (path₀, e₀, refl, h)
  then_at end k path e h = absurd cc
  then_at (refused r p i c) k path e h = absurd cc

module _ {P : Type 0} (N : ℕ) (view : ℕ → Bool → View P) where
  -- a page that is met as a branch or a leaf is in bounds
  pub met_branch : (q : ℕ) (t : Bool) (cs : List (Item ℕ)) → met N view q t ≡ branch cs → view q t ≡ branch cs
  met_branch q t cs = go (inside N q)
    where
      go : (b : Bool) → cond b (view q t) (bad PageNumber 0 0) ≡ branch cs → view q t ≡ branch cs
      go true h = h
      go false h = absurd cc

  pub met_leaf : (q : ℕ) (t : Bool) (es : List (Item P)) → met N view q t ≡ leaf es → view q t ≡ leaf es
  met_leaf q t es = go (inside N q)
    where
      go : (b : Bool) → cond b (view q t) (bad PageNumber 0 0) ≡ leaf es → view q t ≡ leaf es
      go true h = h
      go false h = absurd cc

  -- ---- following a path, a page at a time
  pub follow_leaf_lem : (d : ℕ) (t : Bool) (q i : ℕ) (es : List (Item P)) (e : Item P)
      → met N view q t ≡ leaf es
      → nth es i ≡ some e
      → follow N view (suc d) t q (step q i ∷ []) ≡ at (step q i ∷ []) e
  unfolding follow
  follow_leaf_lem d t q i es e m h = rw (eq-eqb q q refl, m, h)

  pub follow_branch : (d : ℕ) (t : Bool) (q i : ℕ) (cs : List (Item ℕ)) (c : Item ℕ) (path : List Step)
      → met N view q t ≡ branch cs
      → nth cs i ≡ some c
      → follow N view (suc d) t q (step q i ∷ path) ≡ below (step q i) (follow N view d false c.value path)
  unfolding follow
  follow_branch d t q i cs c path m h = rw (eq-eqb q q refl, m, h)

  -- how a path was followed at its first page: it came to the entry by path'
  pub data Followed (d : ℕ) (t : Bool) (q : ℕ) (path path' : List Step) (e : Item P) : Type 0 where
    on_leaf : (i : ℕ) (es : List (Item P))
        → met N view q t ≡ leaf es
        → nth es i ≡ some e
        → path ≡ step q i ∷ []
        → path' ≡ path
        → Followed d t q path path' e
    on_branch : (i : ℕ) (cs : List (Item ℕ)) (c : Item ℕ) (rest rest' : List Step)
        → met N view q t ≡ branch cs
        → nth cs i ≡ some c
        → follow N view d false c.value rest ≡ at rest' e
        → path ≡ step q i ∷ rest
        → path' ≡ step q i ∷ rest'
        → Followed d t q path path' e

  pub followed : (d : ℕ) (t : Bool) (q : ℕ) (path path' : List Step) (e : Item P) → follow N view (suc d) t q path ≡ at path' e → Followed d t q path path' e
  unfolding follow
  followed d t q [] path' e h = absurd cc
  followed d t q (s ∷ path) path' e h = named (eqb s.page q) refl h
    where
      here : s.page ≡ q → s ≡ step q s.index
      here a = ap (λ (p : ℕ). step p s.index) a

      in_leaf : (es : List (Item P)) (rest : List Step) (o : Option (Item P))
          → s.page ≡ q
          → met N view q t ≡ leaf es
          → nth es s.index ≡ o
          → follow_leaf q s.index rest o ≡ at path' e
          → Followed d t q (s ∷ rest) path' e
      in_leaf es rest none a m n f = absurd cc
      in_leaf es [] (some x) a m n f =
          let b : x ≡ e = cc in
          let c : step q s.index ∷ [] ≡ path' = cc in
          on_leaf s.index es m (n ∙ ap some b) (rw (here a)) (rw (← here a) at (sym c))
      in_leaf es (u ∷ rest) (some x) a m n f = absurd cc

      in_branch : (cs : List (Item ℕ)) (o : Option (Item ℕ))
          → s.page ≡ q
          → met N view q t ≡ branch cs
          → nth cs s.index ≡ o
          → follow_child (λ child. follow N view d false child path) q s.index o ≡ at path' e
          → Followed d t q (s ∷ path) path' e
      in_branch cs none a m n f = absurd cc
      in_branch cs (some c) a m n f =
          let b = below_at (step q s.index) (follow N view d false c.value path) path' e f in
          on_branch s.index cs c path b.0 m n b.1 (ap (λ (u : Step). u ∷ path) (here a)) b.2

      on : (v : View P)
          → s.page ≡ q
          → met N view q t ≡ v
          → follow_page (λ child. follow N view d false child path) v q s.index path ≡ at path' e
          → Followed d t q (s ∷ path) path' e
      on (bad r i c) a m f = absurd cc
      on (branch cs) a m f = in_branch cs (nth cs s.index) a m refl f
      on (leaf es) a m f = in_leaf es path (nth es s.index) a m refl f

      named : (b : Bool)
          → eqb s.page q ≡ b
          → cond b (follow_page (λ child. follow N view d false child path) (met N view q t) q s.index path) lacking ≡ at path' e
          → Followed d t q (s ∷ path) path' e
      named true a f = on (met N view q t) (eqb-true s.page q a) refl f
      named false a f = absurd cc

  -- no path is followed through no level
  pub follow_none : (t : Bool) (q : ℕ) (path path' : List Step) (e : Item P) → follow N view 0 t q path ≡ at path' e → ⊥
  unfolding follow
  follow_none t q [] path' e h = cc
  follow_none t q (s ∷ path) path' e h = cc

  -- a path that is followed to an entry is the path to it
  pub follow_same : (d : ℕ) (t : Bool) (q : ℕ) (path path' : List Step) (e : Item P) → follow N view d t q path ≡ at path' e → path' ≡ path
  follow_same zero t q path path' e h = absurd (follow_none t q path path' e h)
  follow_same (suc d) t q path path' e h = go (followed d t q path path' e h) (λ c rest rest'. follow_same d false c rest rest' e)
    where
      go : Followed d t q path path' e
          → ((c : ℕ) (rest rest' : List Step) → follow N view d false c rest ≡ at rest' e → rest' ≡ rest)
          → path' ≡ path
      go (on_leaf i es m n a b) ih = b
      go (on_branch i cs c rest rest' m n f a b) ih = b ∙ ap (λ (r : List Step). step q i ∷ r) (ih c.value rest rest' f) ∙ sym a

  -- to follow a path never ends without an entry or a refusal
  pub follow_not_end : (d : ℕ) (t : Bool) (q : ℕ) (path : List Step) → follow N view d t q path ≡ end → ⊥
  unfolding follow
  follow_not_end d t q [] h = cc
  follow_not_end zero t q (s ∷ path) h = cc
  follow_not_end (suc d) t q (s ∷ path) h = named (eqb s.page q) h (λ c. follow_not_end d false c path)
    where
      carried : (u : Step) (m : Move P) → below u m ≡ end → (m ≡ end → ⊥) → ⊥
      carried u (at rest e) f g = cc
      carried u end f g = g refl
      carried u (refused r p i c) f g = cc

      in_leaf : (rest : List Step) (o : Option (Item P)) → follow_leaf q s.index rest o ≡ end → ⊥
      in_leaf rest none f = cc
      in_leaf [] (some x) f = cc
      in_leaf (u ∷ rest) (some x) f = cc

      in_branch : (o : Option (Item ℕ))
          → follow_child (λ child. follow N view d false child path) q s.index o ≡ end
          → ((c : ℕ) → follow N view d false c path ≡ end → ⊥)
          → ⊥
      in_branch none f ih = cc
      in_branch (some c) f ih = carried (step q s.index) (follow N view d false c.value path) f (ih c.value)

      on : (v : View P)
          → follow_page (λ child. follow N view d false child path) v q s.index path ≡ end
          → ((c : ℕ) → follow N view d false c path ≡ end → ⊥)
          → ⊥
      on (bad r i c) f ih = cc
      on (branch cs) f ih = in_branch (nth cs s.index) f ih
      on (leaf es) f ih = in_leaf path (nth es s.index) f

      named : (b : Bool)
          → cond b (follow_page (λ child. follow N view d false child path) (met N view q t) q s.index path) lacking ≡ end
          → ((c : ℕ) → follow N view d false c path ≡ end → ⊥)
          → ⊥
      named true f ih = on (met N view q t) f ih
      named false f ih = cc

  pub follow_length : (d : ℕ) (t : Bool) (q : ℕ) (path path' : List Step) (e : Item P) → follow N view d t q path ≡ at path' e → (1 ≤ length path) × (length path ≤ d)
  follow_length zero t q path path' e h = absurd (follow_none t q path path' e h)
  follow_length (suc d) t q path path' e h = go (followed d t q path path' e h) (λ c rest rest'. follow_length d false c rest rest' e)
    where
      go : Followed d t q path path' e
          → ((c : ℕ) (rest rest' : List Step) → follow N view d false c rest ≡ at rest' e → (1 ≤ length rest) × (length rest ≤ d))
          → (1 ≤ length path) × (length path ≤ suc d)
      go (on_leaf i es m n a b) ih = rw a (omega arith)
      go (on_branch i cs c rest rest' m n f a b) ih = let l = ih c.value rest rest' f in rw a (omega arith)

  -- ---- the entry beside that of a path, a page at a time
  pub neighbour_leaf : (way : Direction) (d : ℕ) (t : Bool) (q i : ℕ) (es : List (Item P)) (path : List Step)
      → view q t ≡ leaf es
      → neighbour N view way (suc d) t q (step q i ∷ path) ≡ entry_at q (beside way es i)
  unfolding neighbour
  neighbour_leaf way d t q i es path f = rw f

  pub neighbour_branch : (way : Direction) (d : ℕ) (t : Bool) (q i : ℕ) (cs : List (Item ℕ)) (c : Item ℕ) (path : List Step)
      → view q t ≡ branch cs
      → nth cs i ≡ some c
      → neighbour N view way (suc d) t q (step q i ∷ path) ≡ or_beside way (outer N view way d false) q cs i (neighbour N view way d false c.value path)
  unfolding neighbour
  neighbour_branch way d t q i cs c path f n = rw (f, n)

  -- ---- what the calls come to stands
  -- the paths that `go` comes to below the page of a child stand there
  abbrev Stand : ℕ → (ℕ → Move P) → Type 0
  Stand d go = (c : ℕ) (path : List Step) (e : Item P) → go c ≡ at path e → follow N view d false c path ≡ at path e

  leaf_stands : (d : ℕ) (t : Bool) (q : ℕ) (es : List (Item P)) (o : Option (Placed (Item P))) (path : List Step) (e : Item P)
      → met N view q t ≡ leaf es
      → There es o
      → entry_at q o ≡ at path e
      → follow N view (suc d) t q path ≡ at path e
  leaf_stands d t q es o path e m th h =
      let x = entry_at_lem q o path e h in
      let n : nth es x.0.index ≡ some x.0.item = rw x.1 at th in
      rw x.2 (follow_leaf_lem d t q x.0.index es x.0.item m n ∙ ap (at (step q x.0.index ∷ [])) x.3)

  -- below child i, and then below the page
  step_stands : (d : ℕ) (t : Bool) (q i : ℕ) (cs : List (Item ℕ)) (c : Item ℕ) (rest path : List Step) (e : Item P)
      → met N view q t ≡ branch cs
      → nth cs i ≡ some c
      → follow N view d false c.value rest ≡ at rest e
      → path ≡ step q i ∷ rest
      → follow N view (suc d) t q path ≡ at path e
  step_stands d t q i cs c rest path e m n f a = rw a (follow_branch d t q i cs c rest m n ∙ ap (below (step q i)) f)

  child_stands : (d : ℕ) (t : Bool) (q : ℕ) (cs : List (Item ℕ)) (go : ℕ → Move P) (o : Option (Placed (Item ℕ))) (path : List Step) (e : Item P)
      → met N view q t ≡ branch cs
      → Stand d go
      → There cs o
      → child_at go q o ≡ at path e
      → follow N view (suc d) t q path ≡ at path e
  child_stands d t q cs go o path e m st th h =
      let x = child_at_lem go q o path e h in
      let n : nth cs x.0.index ≡ some x.0.item = rw x.1 at th in
      step_stands d t q x.0.index cs x.0.item x.2 path e m n (st x.0.item.value x.2 e x.3) x.4

  beside_stands : (way : Direction) (d : ℕ) (t : Bool) (q i : ℕ) (cs : List (Item ℕ)) (c : Item ℕ) (out : ℕ → Move P) (k : Move P) (path : List Step) (e : Item P)
      → met N view q t ≡ branch cs
      → nth cs i ≡ some c
      → ((rest : List Step) → k ≡ at rest e → follow N view d false c.value rest ≡ at rest e)
      → Stand d out
      → or_beside way out q cs i k ≡ at path e
      → follow N view (suc d) t q path ≡ at path e
  beside_stands way d t q i cs c out k path e m n first second h =
      ⊎_elim
      (λ x. step_stands d t q i cs c x.0 path e m n (first x.0 x.1) x.2)
      (λ x. child_stands d t q cs out (beside way cs i) path e m second (beside_there way cs i) x)
      (or_beside_at way out q cs i k path e h)

  pub outer_stands : (way : Direction) (d : ℕ) (t : Bool) (q : ℕ) (path : List Step) (e : Item P)
      → outer N view way d t q ≡ at path e
      → follow N view d t q path ≡ at path e
  unfolding outer
  outer_stands way zero t q path e h = absurd cc
  outer_stands way (suc d) t q path e h = go (met N view q t) refl h (outer_stands way d false)
    where
      go : (v : View P)
          → met N view q t ≡ v
          → outer_page way (outer N view way d false) v q ≡ at path e
          → Stand d (outer N view way d false)
          → follow N view (suc d) t q path ≡ at path e
      go (bad r i c) m f ih = absurd cc
      go (branch cs) m f ih = child_stands d t q cs (outer N view way d false) (outermost way cs) path e m ih (outermost_there way cs) f
      go (leaf es) m f ih = leaf_stands d t q es (outermost way es) path e m (outermost_there way es) f

  pub seek_stands : (key : Key) (d : ℕ) (t : Bool) (q : ℕ) (path : List Step) (e : Item P)
      → seek N view key d t q ≡ at path e
      → follow N view d t q path ≡ at path e
  unfolding seek
  seek_stands key zero t q path e h = absurd cc
  seek_stands key (suc d) t q path e h = go (met N view q t) refl h (seek_stands key d false)
    where
      in_branch : (cs : List (Item ℕ)) (o : Option (Placed (Item ℕ)))
          → met N view q t ≡ branch cs
          → There cs o
          → seek_child (seek N view key d false) (outer N view Onward d false) q cs o ≡ at path e
          → Stand d (seek N view key d false)
          → follow N view (suc d) t q path ≡ at path e
      in_branch cs none m th f ih = absurd cc
      in_branch cs (some c) m th f ih =
          beside_stands Onward d t q c.index cs c.item (outer N view Onward d false) (seek N view key d false c.item.value) path e m th
          (λ rest. ih c.item.value rest e)
          (outer_stands Onward d false)
          f

      go : (v : View P)
          → met N view q t ≡ v
          → seek_page key (seek N view key d false) (outer N view Onward d false) v q ≡ at path e
          → Stand d (seek N view key d false)
          → follow N view (suc d) t q path ≡ at path e
      go (bad r i c) m f ih = absurd cc
      go (branch cs) m f ih = in_branch cs (leading cs key 0) m (leading_there cs cs key 0 (rest_whole cs)) f ih
      go (leaf es) m f ih = leaf_stands d t q es (not_below es key 0) path e m (not_below_there es es key 0 (rest_whole es)) f

  -- beside a path that is followed
  pub neighbour_stands : (way : Direction) (d : ℕ) (t : Bool) (q : ℕ) (path₀ path₁ : List Step) (e₀ : Item P) (path : List Step) (e : Item P)
      → follow N view d t q path₀ ≡ at path₁ e₀
      → neighbour N view way d t q path₀ ≡ at path e
      → follow N view d t q path ≡ at path e
  neighbour_stands way zero t q path₀ path₁ e₀ path e f h = absurd (follow_none t q path₀ path₁ e₀ f)
  neighbour_stands way (suc d) t q path₀ path₁ e₀ path e f h =
      go (followed d t q path₀ path₁ e₀ f) h (λ c rest rest' path'. neighbour_stands way d false c rest rest' e₀ path' e)
    where
      go : Followed d t q path₀ path₁ e₀
          → neighbour N view way (suc d) t q path₀ ≡ at path e
          → ((c : ℕ) (rest rest' path' : List Step)
          → follow N view d false c rest ≡ at rest' e₀
          → neighbour N view way d false c rest ≡ at path' e
          → follow N view d false c path' ≡ at path' e)
          → follow N view (suc d) t q path ≡ at path e
      go (on_leaf i es m n a b) h ih =
          leaf_stands d t q es (beside way es i) path e m (beside_there way es i)
          (sym (neighbour_leaf way d t q i es [] (met_leaf q t es m)) ∙ rw a at h)
      go (on_branch i cs c rest rest' m n k a b) h ih =
          beside_stands way d t q i cs c (outer N view way d false) (neighbour N view way d false c.value rest) path e m n
          (λ path'. ih c.value rest rest' path' k)
          (outer_stands way d false)
          (sym (neighbour_branch way d t q i cs c rest (met_branch q t cs m) n) ∙ rw a at h)

  pub move_stands : (way : Direction) (d : ℕ) (t : Bool) (q : ℕ) (path₀ path : List Step) (e : Item P)
      → move N view way d t q path₀ ≡ at path e
      → follow N view d t q path ≡ at path e
  unfolding move
  move_stands way d t q path₀ path e h =
      let x = then_at (follow N view d t q path₀) (neighbour N view way d t q path₀) path e h in
      neighbour_stands way d t q path₀ x.0 x.1 path e x.2 x.3

-- The frame: a cursor's calls look at no page that is not reached. Where two views agree on all that are, they come to the same.
-- Assumes nothing, not even that a walk passes.
use Prim.Native.Nat.{ℕ, zero, suc}
use mathlib.Core.Path.{◌≡◌, refl, ap, ◌∙◌}
use mathlib.Core.List.{List, [], ◌∷◌}
use mathlib.Core.Bool.{Bool, false, cond}
use mathlib.Core.Option.{Option, none, some}
use lib.Dec.{eqb}
use Rattle.walk.specs.Tree.{Key, Item, View, bad, branch, leaf, At, inside, Below, here, down}
use Rattle.path.specs.declared.Direction.{Direction}
use Rattle.path.specs.declared.Direction.TheVariants.{Onward}
use Rattle.path.specs.declared.Step.{Step}
use Rattle.path.specs.Path.{step, Placed, nth, beside, outermost, leading, Move, at, end, refused, lacking, below, child_at, or_beside, outer_page, seek_child, seek_page, follow_child, follow_page, beside_child, beside_page, met, outer, seek, follow, neighbour, move}
use Rattle.path.proofs.Elements.{There, rest_whole, nth_at, outermost_there, beside_there, leading_there}
use Rattle.path.proofs.Stands.{met_branch}
use Rattle.field.specs.declared.refusal.Refusal.TheVariants.{PageNumber}

-- ---- moves below a branch, where two ways to go on agree on its children
module _ {P : Type 0} (cs : List (Item ℕ)) where
  abbrev Alike : (ℕ → Move P) → (ℕ → Move P) → Type 0
  Alike go' go = (i : ℕ) (c : Item ℕ) → At cs i c → go' c.value ≡ go c.value

  child_alike : (go' go : ℕ → Move P) (q : ℕ) (o : Option (Placed (Item ℕ))) → Alike go' go → There cs o → child_at go' q o ≡ child_at go q o
  child_alike go' go q none h th = refl
  child_alike go' go q (some c) h th = ap (below (step q c.index)) (h c.index c.item (nth_at cs c.index c.item th))

  beside_alike : (way : Direction) (out' out : ℕ → Move P) (q i : ℕ) (m' m : Move P)
      → Alike out' out
      → m' ≡ m
      → or_beside way out' q cs i m' ≡ or_beside way out q cs i m
  beside_alike way out' out q i m' m h e = ap (or_beside way out' q cs i) e ∙ go m
    where
      go : (m : Move P) → or_beside way out' q cs i m ≡ or_beside way out q cs i m
      go (at path x) = refl
      go end = child_alike out' out q (beside way cs i) h (beside_there way cs i)
      go (refused r p j c) = refl

module _ {P : Type 0} (N : ℕ) (view view' : ℕ → Bool → View P) where
  -- the two views agree on each page reached from page q
  abbrev pub Agree : ℕ → Bool → Type 0
  Agree q t = (l p : ℕ) (s : Bool) → Below view q t l p s → view' p s ≡ view p s

  agree_down : (q : ℕ) (t : Bool) (cs : List (Item ℕ)) → view q t ≡ branch cs → Agree q t → (i : ℕ) (c : Item ℕ) → At cs i c → Agree c.value false
  agree_down q t cs f h i c a l p s w = h (suc l) p s (down i c f a w)

  met_frame : (q : ℕ) (t : Bool) → Agree q t → met N view' q t ≡ met N view q t
  met_frame q t h = ap (λ (v : View P). cond (inside N q) v (bad PageNumber 0 0)) (h 1 q t here)

  pub outer_frame : (way : Direction) (d : ℕ) (t : Bool) (q : ℕ) → Agree q t → outer N view' way d t q ≡ outer N view way d t q
  unfolding outer
  outer_frame way zero t q h = refl
  outer_frame way (suc d) t q h =
      ap (λ (v : View P). outer_page way (outer N view' way d false) v q) (met_frame q t h) ∙ go (met N view q t) refl (outer_frame way d false)
    where
      go : (v : View P)
          → met N view q t ≡ v
          → ((c : ℕ) → Agree c false → outer N view' way d false c ≡ outer N view way d false c)
          → outer_page way (outer N view' way d false) v q ≡ outer_page way (outer N view way d false) v q
      go (bad r i c) m ih = refl
      go (leaf es) m ih = refl
      go (branch cs) m ih =
          child_alike cs (outer N view' way d false) (outer N view way d false) q (outermost way cs)
          (λ i c a. ih c.value (agree_down q t cs (met_branch N view q t cs m) h i c a))
          (outermost_there way cs)

  pub seek_frame : (key : Key) (d : ℕ) (t : Bool) (q : ℕ) → Agree q t → seek N view' key d t q ≡ seek N view key d t q
  unfolding seek
  seek_frame key zero t q h = refl
  seek_frame key (suc d) t q h =
      ap (λ (v : View P). seek_page key (seek N view' key d false) (outer N view' Onward d false) v q) (met_frame q t h)
      ∙ go (met N view q t) refl (seek_frame key d false)
    where
      in_branch : (cs : List (Item ℕ)) (o : Option (Placed (Item ℕ)))
          → There cs o
          → Alike cs (seek N view' key d false) (seek N view key d false)
          → Alike cs (outer N view' Onward d false) (outer N view Onward d false)
          → seek_child (seek N view' key d false) (outer N view' Onward d false) q cs o ≡ seek_child (seek N view key d false) (outer N view Onward d false) q cs o
      in_branch cs none th a b = refl
      in_branch cs (some c) th a b =
          beside_alike cs Onward (outer N view' Onward d false) (outer N view Onward d false) q c.index (seek N view' key d false c.item.value)
          (seek N view key d false c.item.value)
          b
          (a c.index c.item (nth_at cs c.index c.item th))

      go : (v : View P)
          → met N view q t ≡ v
          → ((c : ℕ) → Agree c false → seek N view' key d false c ≡ seek N view key d false c)
          → seek_page key (seek N view' key d false) (outer N view' Onward d false) v q ≡ seek_page key (seek N view key d false) (outer N view Onward d false) v q
      go (bad r i c) m ih = refl
      go (leaf es) m ih = refl
      go (branch cs) m ih =
          let down : (i : ℕ) (c : Item ℕ) → At cs i c → Agree c.value false = agree_down q t cs (met_branch N view q t cs m) h in
          in_branch cs (leading cs key 0) (leading_there cs cs key 0 (rest_whole cs))
          (λ i c a. ih c.value (down i c a))
          (λ i c a. outer_frame Onward d false c.value (down i c a))

  pub follow_frame : (d : ℕ) (t : Bool) (q : ℕ) (path : List Step) → Agree q t → follow N view' d t q path ≡ follow N view d t q path
  unfolding follow
  follow_frame d t q [] h = refl
  follow_frame zero t q (s ∷ path) h = refl
  follow_frame (suc d) t q (s ∷ path) h =
      ap (λ (m : Move P). cond (eqb s.page q) m lacking)
      (ap (λ (v : View P). follow_page (λ child. follow N view' d false child path) v q s.index path) (met_frame q t h)
      ∙ go (met N view q t) refl (λ c. follow_frame d false c path))
    where
      in_branch : (cs : List (Item ℕ)) (o : Option (Item ℕ))
          → nth cs s.index ≡ o
          → Alike cs (λ child. follow N view' d false child path) (λ child. follow N view d false child path)
          → follow_child (λ child. follow N view' d false child path) q s.index o ≡ follow_child (λ child. follow N view d false child path) q s.index o
      in_branch cs none n a = refl
      in_branch cs (some c) n a = ap (below (step q s.index)) (a s.index c (nth_at cs s.index c n))

      go : (v : View P)
          → met N view q t ≡ v
          → ((c : ℕ) → Agree c false → follow N view' d false c path ≡ follow N view d false c path)
          → follow_page (λ child. follow N view' d false child path) v q s.index path ≡ follow_page (λ child. follow N view d false child path) v q s.index path
      go (bad r i c) m ih = refl
      go (leaf es) m ih = refl
      go (branch cs) m ih = in_branch cs (nth cs s.index) refl (λ i c a. ih c.value (agree_down q t cs (met_branch N view q t cs m) h i c a))

  pub neighbour_frame : (way : Direction) (d : ℕ) (t : Bool) (q : ℕ) (path : List Step)
      → Agree q t
      → neighbour N view' way d t q path ≡ neighbour N view way d t q path
  unfolding neighbour
  neighbour_frame way d t q [] h = refl
  neighbour_frame way zero t q (s ∷ path) h = refl
  neighbour_frame way (suc d) t q (s ∷ path) h =
      ap (λ (v : View P). beside_page way (λ child. neighbour N view' way d false child path) (outer N view' way d false) v q s.index) (h 1 q t here)
      ∙ go (view q t) refl (λ c. neighbour_frame way d false c path)
    where
      in_branch : (cs : List (Item ℕ)) (o : Option (Item ℕ))
          → nth cs s.index ≡ o
          → Alike cs (λ child. neighbour N view' way d false child path) (λ child. neighbour N view way d false child path)
          → Alike cs (outer N view' way d false) (outer N view way d false)
          → beside_child way (λ child. neighbour N view' way d false child path) (outer N view' way d false) q cs s.index o
          ≡ beside_child way (λ child. neighbour N view way d false child path) (outer N view way d false) q cs s.index o
      in_branch cs none n a b = refl
      in_branch cs (some c) n a b =
          beside_alike cs way (outer N view' way d false) (outer N view way d false) q s.index (neighbour N view' way d false c.value path)
          (neighbour N view way d false c.value path)
          b
          (a s.index c (nth_at cs s.index c n))

      go : (v : View P)
          → view q t ≡ v
          → ((c : ℕ) → Agree c false → neighbour N view' way d false c path ≡ neighbour N view way d false c path)
          → beside_page way (λ child. neighbour N view' way d false child path) (outer N view' way d false) v q s.index
          ≡ beside_page way (λ child. neighbour N view way d false child path) (outer N view way d false) v q s.index
      go (bad r i c) m ih = refl
      go (leaf es) m ih = refl
      go (branch cs) m ih =
          let down : (i : ℕ) (c : Item ℕ) → At cs i c → Agree c.value false = agree_down q t cs m h in
          in_branch cs (nth cs s.index) refl
          (λ i c a. ih c.value (down i c a))
          (λ i c a. outer_frame way d false c.value (down i c a))

  pub move_frame : (way : Direction) (d : ℕ) (t : Bool) (q : ℕ) (path : List Step) → Agree q t → move N view' way d t q path ≡ move N view way d t q path
  unfolding move
  move_frame way d t q path h = rw (follow_frame d t q path h, neighbour_frame way d t q path h)

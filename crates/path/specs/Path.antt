-- 02, order 1, a cursor in a tree of pages: where `seek`, `next`, `previous` and `last` come to. A cursor is the path from the root to its entry, a step for each page.
-- What stands on a page is given by a view, as in the walk: this file knows nothing of bytes.
-- Assumes nothing.
use Rattle.std.specs.Prelude.{Bool, false, cond, List, [], ◌∷◌, ℕ, zero, suc, ◌-◌, eqb, length}
use Rattle.std.proofs.Math.Option.{Option, none, some}
use Rattle.walk.specs.Tree.{Key, lower, under, Item, View, bad, branch, leaf, inside, next}
use Rattle.path.specs.declared.Direction.{Direction}
use Rattle.path.specs.declared.Direction.TheVariants.{Onward, Back}
use Rattle.path.specs.declared.Step.{Step}
use Rattle.field.specs.declared.refusal.Refusal.TheVariants.{PageNumber, TooDeep, Argument}
use Rattle.field.specs.declared.refusal.Refusal.{Refusal}

abbrev pub step : ℕ → ℕ → Step
step page index = record { page = page; index = index }

-- ---- the elements of a page
-- an element with its index
pub record Placed (A : Type 0) : Type 0 where
  pub index : ℕ
  pub item : A

abbrev pub placed : {A : Type 0} → ℕ → Option A → Option (Placed A)
placed i none = none
placed i (some x) = some (record { index = i; item = x })

-- element i, where there is one
unfoldable pub nth : {A : Type 0} → List A → ℕ → Option A
nth [] i = none
nth (x ∷ xs) zero = some x
nth (x ∷ xs) (suc i) = nth xs i

-- the element after element i, or going back the one before it
unfoldable pub beside : {A : Type 0} → Direction → List A → ℕ → Option (Placed A)
beside Onward xs i = placed (suc i) (nth xs (suc i))
beside Back xs zero = none
beside Back xs (suc i) = placed i (nth xs i)

-- the first element, or going back the last
unfoldable pub outermost : {A : Type 0} → Direction → List A → Option (Placed A)
outermost Onward xs = placed 0 (nth xs 0)
outermost Back xs = placed (length xs - 1) (nth xs (length xs - 1))

-- the first entry, from index i on, whose key is not below this one
unfoldable pub not_below : {P : Type 0} → List (Item P) → Key → ℕ → Option (Placed (Item P))
not_below [] key i = none
not_below (e ∷ es) key i = cond (lower e.key key) (not_below es key (suc i)) (placed i (some e))

-- the child for a key, as lookup takes it, from index i on: the first whose next separator is above the key, or which is the last
unfoldable pub leading : List (Item ℕ) → Key → ℕ → Option (Placed (Item ℕ))
leading [] key i = none
leading (c ∷ cs) key i = cond (under key (next cs none)) (placed i (some c)) (leading cs key (suc i))

-- ---- what a move comes to
-- an entry, with the path to it; no entry; or a refusal, with its cause, page, element and common beginning
pub data Move (P : Type 0) : Type 0 where
  at : List Step → Item P → Move P
  end : Move P
  refused : Refusal → ℕ → ℕ → ℕ → Move P

-- 02: "a step the image lacks, or a path not ending in a leaf, is 11"
abbrev pub lacking : {P : Type 0} → Move P
lacking = refused Argument 0 0 0

-- an entry of the leaf on page q
abbrev pub entry_at : {P : Type 0} → ℕ → Option (Placed (Item P)) → Move P
entry_at q none = end
entry_at q (some e) = at (step q e.index ∷ []) e.item

-- a move below a step
abbrev pub below : {P : Type 0} → Step → Move P → Move P
below s (at path e) = at (s ∷ path) e
below s end = end
below s (refused refusal page element common) = refused refusal page element common

-- a move below a child of the branch on page q
abbrev pub child_at : {P : Type 0} → (ℕ → Move P) → ℕ → Option (Placed (Item ℕ)) → Move P
child_at go q none = end
child_at go q (some c) = below (step q c.index) (go c.item.value)

-- after the move below child i of the branch on page q: where that found no entry, the outermost entry below the child beside it
abbrev pub or_beside : {P : Type 0} → Direction → (ℕ → Move P) → ℕ → List (Item ℕ) → ℕ → Move P → Move P
or_beside way out q cs i (at path e) = at (step q i ∷ path) e
or_beside way out q cs i end = child_at out q (beside way cs i)
or_beside way out q cs i (refused refusal page element common) = refused refusal page element common

-- ---- what a page says
abbrev pub outer_page : {P : Type 0} → Direction → (ℕ → Move P) → View P → ℕ → Move P
outer_page way go (bad refusal element common) q = refused refusal q element common
outer_page way go (branch cs) q = child_at go q (outermost way cs)
outer_page way go (leaf es) q = entry_at q (outermost way es)

abbrev pub seek_child : {P : Type 0} → (ℕ → Move P) → (ℕ → Move P) → ℕ → List (Item ℕ) → Option (Placed (Item ℕ)) → Move P
seek_child go out q cs none = end
seek_child go out q cs (some c) = or_beside Onward out q cs c.index (go c.item.value)

abbrev pub seek_page : {P : Type 0} → Key → (ℕ → Move P) → (ℕ → Move P) → View P → ℕ → Move P
seek_page key go out (bad refusal element common) q = refused refusal q element common
seek_page key go out (branch cs) q = seek_child go out q cs (leading cs key 0)
seek_page key go out (leaf es) q = entry_at q (not_below es key 0)

-- the element that a step names is there, else 11; a leaf is where the path ends
abbrev pub follow_leaf : {P : Type 0} → ℕ → ℕ → List Step → Option (Item P) → Move P
follow_leaf q i path none = lacking
follow_leaf q i [] (some e) = at (step q i ∷ []) e
follow_leaf q i (s ∷ path) (some e) = lacking

abbrev pub follow_child : {P : Type 0} → (ℕ → Move P) → ℕ → ℕ → Option (Item ℕ) → Move P
follow_child go q i none = lacking
follow_child go q i (some c) = below (step q i) (go c.value)

abbrev pub follow_page : {P : Type 0} → (ℕ → Move P) → View P → ℕ → ℕ → List Step → Move P
follow_page go (bad refusal element common) q i path = refused refusal q element common
follow_page go (branch cs) q i path = follow_child go q i (nth cs i)
follow_page go (leaf es) q i path = follow_leaf q i path (nth es i)

-- the element beside element i of a leaf, else nothing; of a branch what is beside below child i, else below the child beside it
abbrev pub beside_child : {P : Type 0} → Direction → (ℕ → Move P) → (ℕ → Move P) → ℕ → List (Item ℕ) → ℕ → Option (Item ℕ) → Move P
beside_child way go out q cs i none = end
beside_child way go out q cs i (some c) = or_beside way out q cs i (go c.value)

abbrev pub beside_page : {P : Type 0} → Direction → (ℕ → Move P) → (ℕ → Move P) → View P → ℕ → ℕ → Move P
beside_page way go out (bad refusal element common) q i = end
beside_page way go out (branch cs) q i = beside_child way go out q cs i (nth cs i)
beside_page way go out (leaf es) q i = entry_at q (beside way es i)

-- a second move, where the first came to an entry
abbrev pub and_then : {P : Type 0} → Move P → Move P → Move P
and_then (at path e) m = m
and_then end m = end
and_then (refused refusal page element common) m = refused refusal page element common

-- ---- the tree, by the number of pages and the view of each, as the root's level or below, with at most d levels from page q on
module _ {P : Type 0} (N : ℕ) (view : ℕ → Bool → View P) where
  -- a page as it is met: rule 2, and then its view
  abbrev pub met : ℕ → Bool → View P
  met q top = cond (inside N q) (view q top) (bad PageNumber 0 0)

  -- the first entry of the tree, or going back the last
  unfoldable pub outer : Direction → ℕ → Bool → ℕ → Move P
  outer way zero top q = refused TooDeep q 0 0
  outer way (suc d) top q = outer_page way (outer way d false) (met q top) q

  -- the first entry whose key is not below this one. Beyond a leaf's last key that is the first entry below the next element of the nearest branch that has one
  unfoldable pub seek : Key → ℕ → Bool → ℕ → Move P
  seek key zero top q = refused TooDeep q 0 0
  seek key (suc d) top q = seek_page key (seek key d false) (outer Onward d false) (met q top) q

  -- the entry of a lent path, whose pages are judged from the root down. Each step's page is the root or the child that the step before it names, else 11,
  -- before the page is read. A path has no more steps than there are levels
  unfoldable pub follow : ℕ → Bool → ℕ → List Step → Move P
  follow d top q [] = lacking
  follow zero top q (s ∷ path) = refused TooDeep q 0 0
  follow (suc d) top q (s ∷ path) = cond (eqb s.page q) (follow_page (λ child. follow d false child path) (met q top) q s.index path) lacking

  -- the entry beside that of a path: the element beside in its leaf, else the outermost entry below the element beside in the nearest branch that has one
  unfoldable pub neighbour : Direction → ℕ → Bool → ℕ → List Step → Move P
  neighbour way d top q [] = end
  neighbour way zero top q (s ∷ path) = end
  neighbour way (suc d) top q (s ∷ path) =
      beside_page way (λ child. neighbour way d false child path) (outer way d false) (view q top) q s.index

  -- 02's next and previous
  unfoldable pub move : Direction → ℕ → Bool → ℕ → List Step → Move P
  move way d top q path = and_then (follow d top q path) (neighbour way d top q path)

-- What walking with a cursor lists.
-- Assumes nothing.
use Rattle.std.specs.Prelude.{◌≡◌, Bool, true, cond, List, [], ◌∷◌, ℕ}
use Rattle.walk.specs.Tree.{Key, lower, Item, View}
use Rattle.walk.specs.Listing.{Slot}
use Rattle.path.specs.declared.Direction.{Direction}
use Rattle.path.specs.declared.Direction.TheVariants.{Onward, Back}
use Rattle.path.specs.declared.Step.{Step}
use Rattle.path.specs.Path.{Move, at, end, refused, outer, seek, move}

-- from one move on, each next one by `step` from the path of the one before, the entries come by in this order, and then there is none
pub data Lists {P : Type 0} (step : List Step → Move P) : Move P → List (Item P) → Type 0 where
  stops : Lists step end []
  goes : {path : List Step} {e : Item P} {es : List (Item P)} → Lists step (step path) es → Lists step (at path e) (e ∷ es)

-- the entries of slots, in their order
unfoldable pub entries : {P : Type 0} → List (Slot P) → List (Item P)
entries [] = []
entries (s ∷ L) = s.entry ∷ entries L

-- those whose key is not below this one
unfoldable pub from : {P : Type 0} → Key → List (Item P) → List (Item P)
from key [] = []
from key (e ∷ es) = cond (lower e.key key) (from key es) (e ∷ from key es)

-- those whose key is below this one
unfoldable pub up_to : {P : Type 0} → Key → List (Item P) → List (Item P)
up_to key [] = []
up_to key (e ∷ es) = cond (lower e.key key) (e ∷ up_to key es) (up_to key es)

-- the same in falling order
unfoldable pub reversed : {P : Type 0} → List (Item P) → List (Item P) → List (Item P)
reversed [] done = done
reversed (e ∷ es) done = reversed es (e ∷ done)

-- 02: "a range from one key up to, not including, another": an entry that is not below `to` ends the range
abbrev pub until : {P : Type 0} → Key → Move P → Move P
until to (at path e) = cond (lower e.key to) (at path e) end
until to end = end
until to (refused refusal page element common) = refused refusal page element common

abbrev pub opposite : Direction → Direction
opposite Onward = Back
opposite Back = Onward

-- a path that one of the calls came to
pub data Made {P : Type 0} (N : ℕ) (view : ℕ → Bool → View P) (root : ℕ) : List Step → Type 0 where
  by_seek : {path : List Step} (key : Key) (e : Item P) → seek N view key 16 true root ≡ at path e → Made N view root path
  by_outer : {path : List Step} (way : Direction) (e : Item P) → outer N view way 16 true root ≡ at path e → Made N view root path
  by_move : {path : List Step} (way : Direction) (before : List Step) (e : Item P) → move N view way 16 true root before ≡ at path e → Made N view root path

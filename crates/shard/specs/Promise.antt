-- Demand 3 in the words of the C functions, over any lookup: how it finds its answer is not asked.
-- Assumes nothing.
use Rattle.std.specs.Prelude.{◌≡◌, true, List, [], ◌∷◌, ◌++◌, ℕ, ◌≤◌, length, drop}
use Rattle.answer.specs.Answer.{fields, told_number, told_answer}
use Rattle.page.specs.Layout.{value_of}
use Rattle.page.specs.PageRules.{block_of}
use Rattle.walk.specs.Tree.{Key}
use Rattle.lookup.specs.Descent.{Looked}
use Rattle.lookup.specs.Lookup.{value_in}
use Rattle.tree.specs.Holds.{Holds, value_held}
use Rattle.tree.specs.Outside.{SameWithin}
use Rattle.shard.specs.Answer.{looked_fields}

-- `look` answers a key by the image that is lent; its C function gives that answer's number and fields, the fields in the answer buffer `room`
pub record Told (look : List ℕ → Key → Looked) (image : List ℕ) (P N root : ℕ) (key : Key) (room : List ℕ) : Type 0 where
  -- it returns 0
  pub never_refused : told_number (looked_fields (look image key)) room ≡ 0
  -- where some leaf reached from the root holds the key, its answer is 1, and that entry's kind, place and length
  pub found_told : (page i : ℕ) → Holds image P N root key page i
      → told_answer (looked_fields (look image key)) room
      ≡ fields (1 ∷ (value_held image P page i).kind ∷ (value_held image P page i).place ∷ (value_held image P page i).length ∷ 0 ∷ 0 ∷ 0 ∷ []) ++ drop 56 room
  -- the bytes at that place are the entry's value
  pub value_told : (page i : ℕ) → Holds image P N root key page i → value_in image (look image key) ≡ value_of true (block_of image P page) i
  -- and where none does, its answer is seven zeros
  pub absent_told : ((page i : ℕ) → Holds image P N root key page i → ⊥)
      → told_answer (looked_fields (look image key)) room ≡ fields (0 ∷ 0 ∷ 0 ∷ 0 ∷ 0 ∷ 0 ∷ 0 ∷ []) ++ drop 56 room
  -- with bytes changed outside the blocks reached, it returns 0 and leaves the same answer
  pub outside_told : (image' : List ℕ) → SameWithin image image' P N root
      → (told_number (looked_fields (look image' key)) room ≡ 0)
      × (told_answer (looked_fields (look image' key)) room ≡ told_answer (looked_fields (look image key)) room)
  -- and the bytes at the place that it tells are the same
  pub outside_value : (image' : List ℕ) → SameWithin image image' P N root → value_in image' (look image' key) ≡ value_in image (look image key)

-- all of it, for any key and any answer buffer with room for the seven fields
abbrev pub Promise : (List ℕ → Key → Looked) → List ℕ → ℕ → ℕ → ℕ → Type 0
Promise look image P N root = (key : Key) (room : List ℕ) → 56 ≤ length room → Told look image P N root key room

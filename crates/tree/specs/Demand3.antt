-- Demand 3, in the words of the demand, over any lookup: how it finds its answer is not asked.
-- Assumes nothing.
use Rattle.std.specs.Prelude.{◌≡◌, true, List, ◌↔◌, ℕ, ◌≤◌, Some, None, Ok, Err}
use Rattle.page.specs.Layout.{is_leaf, value_of}
use Rattle.page.specs.PageRules.{block_of}
use Rattle.walk.specs.Tree.{Key, Leads}
use Rattle.view.specs.declared.Fault.{Fault}
use Rattle.view.specs.declared.Value.{Value}
use Rattle.lookup.specs.Descent.{Looked}
use Rattle.view.specs.View.{view_of}
use Rattle.lookup.specs.Lookup.{value_in}
use Rattle.tree.specs.Sound.{ReachedFrom}
use Rattle.tree.specs.Outside.{SameWithin}
use Rattle.tree.specs.Holds.{Holds, value_held}

-- an answer to a key comes from the leaf that the key leads to: from the root down, at each branch to the child for the key, it is reached by level 16, and what the
-- answer tells of the key, its entries tell
pub record ByLeaf (image : List ℕ) (P N root : ℕ) (key : Key) (answer : Looked) : Type 0 where
  pub page : ℕ
  pub reached : ReachedFrom image P N root page
  pub leads : Leads (view_of image P N) key root true reached.level page reached.top
  pub by16 : reached.level ≤ 16
  pub is_a_leaf : is_leaf (block_of image P page) ≡ true
  pub found : (v : Value) → answer ≡ Ok (Some v) → (i : ℕ) × Holds image P N root key page i × (v ≡ value_held image P page i)
  pub absent : answer ≡ Ok None → (i : ℕ) → Holds image P N root key page i → ⊥

-- `look` answers a key by what is lent; `image_of` is the image that it is to answer of; `Same` relates what is lent to the same with bytes changed
-- outside the blocks that are reached from the root
pub record Demand3 {Lent : Type 0} (look : Lent → Key → Looked) (image_of : Lent → List ℕ) (Same : Lent → Lent → Type 0) (P N root : ℕ) (lent : Lent) : Type 0 where
  -- no key is refused
  pub never_refused : (key : Key) (x : Fault) → look lent key ≡ Err x → ⊥
  -- the answer comes from the leaf that the key leads to, which is reached by level 16
  pub reaches_a_leaf : (key : Key) → ByLeaf (image_of lent) P N root key (look lent key)
  -- found exactly when some leaf reached from the root holds the key, with that entry's kind, place and length
  pub found_iff : (key : Key) (v : Value)
      → (look lent key ≡ Ok (Some v)) ↔ ((page : ℕ) × (i : ℕ) × Holds (image_of lent) P N root key page i × (v ≡ value_held (image_of lent) P page i))
  -- and the bytes shown are that entry's value
  pub value_shown : (key : Key) (page i : ℕ) → Holds (image_of lent) P N root key page i
      → value_in (image_of lent) (look lent key) ≡ value_of true (block_of (image_of lent) P page) i
  -- absent exactly when none does
  pub absent_iff : (key : Key) → (look lent key ≡ Ok None) ↔ ((page i : ℕ) → Holds (image_of lent) P N root key page i → ⊥)
  -- no second leaf entry has the key
  pub one_entry : (key : Key) (page i page' i' : ℕ)
      → Holds (image_of lent) P N root key page i
      → Holds (image_of lent) P N root key page' i'
      → (page ≡ page') × (i ≡ i')
  -- with bytes changed outside the blocks reached, every key has the same answer, and the same bytes are shown
  pub outside_free : (lent' : Lent) → Same lent lent' → (key : Key)
      → (look lent' key ≡ look lent key) × (value_in (image_of lent') (look lent' key) ≡ value_in (image_of lent) (look lent key))

-- the same, of a lookup in an image that is lent as it is
abbrev pub Demand3In : (List ℕ → Key → Looked) → List ℕ → ℕ → ℕ → ℕ → Type 0
Demand3In look image P N root = Demand3 look (λ s. s) (λ s s'. SameWithin s s' P N root) P N root image

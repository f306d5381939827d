-- All leaf entries of a tree, listed: each once, in the order of their keys.
use Rattle.std.specs.Prelude.{ℕ, ◌≡◌, List, [], ◌∷◌, Bool, true, ◌↔◌, ◌⊎◌, length}
use Rattle.walk.specs.Tree.{Key, lower, Item, View, Every, LeafEntry}

-- an entry with its page and its index there
pub record Slot (P : Type 0) : Type 0 where
  pub page : ℕ
  pub index : ℕ
  pub entry : Item P

abbrev pub key_at : {P : Type 0} → Slot P → Key
key_at s = s.entry.key

-- x is one of a list
abbrev pub Mem : {A : Type 0} → A → List A → Type 0
Mem x [] = ⊥
Mem x (y ∷ ys) = (x ≡ y) ⊎ Mem x ys

-- each key is below all that follow
abbrev pub Sorted : {P : Type 0} → List (Slot P) → Type 0
Sorted [] = Unit
Sorted (s ∷ L) = Every (λ u. lower (key_at s) (key_at u) ≡ true) L × Sorted L

-- all leaf entries that are reached from the root, and no others: there are n of them
pub record Listing {P : Type 0} (view : ℕ → Bool → View P) (root n : ℕ) : Type 0 where
  pub all : List (Slot P)
  pub counted : n ≡ length all
  pub rising : Sorted all
  pub exact : (s : Slot P) → Mem s all ↔ LeafEntry view root true s.page s.index s.entry

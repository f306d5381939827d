-- Keys beside a place in a block: where an absent key goes, and whether a key may stand between the neighbours of an entry.
-- Assumes nothing.
use Rattle.std.specs.Prelude.{◌≡◌, Bool, false, not, ◌&&◌, List, ℕ, ◌+◌, ◌-◌, ◌≤◌, ◌<◌, ltb}
use Rattle.std.specs.declared.cmp.Ordering.TheVariants.{Less, Greater}
use Rattle.field.specs.Order.{order_of}
use Rattle.std.specs.Ordering.{is_lt}
use Rattle.page.specs.Layout.{count_of, key_of}

-- the place of an absent key: the keys before it are lower, and those from it on higher
pub record Between (leaf : Bool) (b key : List ℕ) (i : ℕ) : Type 0 where
  pub upto : i ≤ count_of b
  pub lower : (k : ℕ) → k < i → order_of (key_of leaf b k) key ≡ Less
  pub higher : (k : ℕ) → i ≤ k → k < count_of b → order_of (key_of leaf b k) key ≡ Greater

-- a key that is not above the one before entry i, and one that is not below the one after it
abbrev pub not_above : List ℕ → ℕ → List ℕ → Bool
not_above b i key = ltb 0 i && not (is_lt (order_of (key_of false b (i - 1)) key))

abbrev pub not_below : List ℕ → ℕ → List ℕ → Bool
not_below b i key = ltb (i + 1) (count_of b) && not (is_lt (order_of key (key_of false b (i + 1))))

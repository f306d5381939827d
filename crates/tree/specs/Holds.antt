-- A leaf entry that is reached from the root, and what lookup is to tell of it.
-- Assumes nothing.
use Rattle.std.specs.Prelude.{◌≡◌, true, List, ℕ, ◌+◌, ◌*◌, ◌<◌}
use Rattle.page.specs.Layout.{count_of, is_leaf, kind_of, key_of, value_at, value_size}
use Rattle.page.specs.PageRules.{block_of}
use Rattle.walk.specs.Tree.{Key}
use Rattle.view.specs.declared.Value.{Value}
use Rattle.tree.specs.Sound.{ReachedFrom}

-- the leaf on this page is reached from the root, and its entry i has the key
pub record Holds (image : List ℕ) (P N root : ℕ) (key : Key) (page i : ℕ) : Type 0 where
  pub reached : ReachedFrom image P N root page
  pub is_a_leaf : is_leaf (block_of image P page) ≡ true
  pub index : i < count_of (block_of image P page)
  pub has_key : key_of true (block_of image P page) i ≡ key

-- its kind, and where in the image its value lies and how long it is
abbrev pub value_held : List ℕ → ℕ → ℕ → ℕ → Value
value_held image P page i = record {
  kind = kind_of (block_of image P page) i;
  place = page * P + value_at true (block_of image P page) i;
  length = value_size true (block_of image P page) i;
}

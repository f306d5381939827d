-- Two images of the same length that agree on all blocks reached from the root: what "change any bytes outside the blocks reached" leaves.
-- Assumes nothing.
use Rattle.std.specs.Prelude.{◌≡◌, List, ℕ, ◌+◌, ◌*◌, ◌≤◌, ◌<◌, length, get_or}
use Rattle.page.specs.PageRules.{block_of}
use Rattle.tree.specs.Sound.{ReachedFrom}

pub record SameWithin (image image' : List ℕ) (P N root : ℕ) : Type 0 where
  pub same_length : length image' ≡ length image
  pub same_bytes : (q k : ℕ) → ReachedFrom image P N root q → q * P ≤ k → k < q * P + length (block_of image P q) → get_or image' k 0 ≡ get_or image k 0

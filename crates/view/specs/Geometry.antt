-- 01, "Sizes allowed": the geometry of an image.
-- Assumes nothing.
use Rattle.std.specs.Prelude.{◌≡◌, Bool, not, ◌&&◌, List, ℕ, ◌*◌, ◌≤◌, ◌%◌, leb, length}
use Rattle.field.specs.Sizes.{size_allowed, count_allowed}

-- a page size or page count that is not allowed, or an image of fewer than N times P bytes
unfoldable pub geometry_bad : List ℕ → ℕ → ℕ → Bool
geometry_bad image P N = not (size_allowed P && (count_allowed N && leb (N * P) (length image)))

-- the sizes allowed, and an image that holds at least N times P bytes
pub record SoundSizes (image : List ℕ) (P N : ℕ) : Type 0 where
  pub least_size : 1024 ≤ P
  pub most_size : P ≤ 65536
  pub eights : P % 8 ≡ 0
  pub least_count : 2 ≤ N
  pub most_count : N ≤ 32768
  pub holds : N * P ≤ length image

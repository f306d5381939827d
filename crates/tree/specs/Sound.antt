-- What 01 calls a sound image, as 02's order 3 narrows it, with no walk: every page reached from the root keeps the page rules, no page is one of two
-- blocks, and the freelist page keeps its own. Assumes nothing.
use Rattle.std.specs.Prelude.{◌≡◌, true, List, [], ℕ, ◌+◌, ◌*◌, ◌≤◌, ◌<◌, length, drop}
use Rattle.std.proofs.Math.Option.{none}
use Rattle.page.specs.Layout.{id_of, type_of, count_of, overflow_of}
use Rattle.page.specs.PageRules.{block_of}
use Rattle.walk.specs.Tree.{Reached}
use Rattle.walk.specs.Sound.{Sound}
use Rattle.view.specs.Geometry.{SoundSizes}
use Rattle.view.specs.View.{view_of, pages_of}
use Rattle.judge.specs.Judge.{id_at}

-- page q is reached from the root
abbrev pub ReachedFrom : List ℕ → ℕ → ℕ → ℕ → ℕ → Type 0
ReachedFrom image P N root q = Reached (view_of image P N) root true q

-- page k is one of the block that starts with page q
abbrev pub InBlock : List ℕ → ℕ → ℕ → ℕ → Type 0
InBlock image P q k = (q ≤ k) × (k ≤ q + overflow_of (drop (q * P) image))

-- page k is one of a block that is reached from the root
pub record UsedFrom (image : List ℕ) (P N root k : ℕ) : Type 0 where
  pub page : ℕ
  pub reached : ReachedFrom image P N root page
  pub within : InBlock image P page k

-- the freelist page: in bounds, a whole block of type 4, of whose pages the tree uses none; its ids in bounds, strictly rising, none a page that the
-- tree uses and none a page of its own block
pub record SoundFreelist (image : List ℕ) (P N root f : ℕ) : Type 0 where
  pub from2 : 2 ≤ f
  pub below_n : f < N
  pub id : id_of (drop (f * P) image) ≡ f
  pub type : type_of (drop (f * P) image) ≡ 4
  pub whole : f + overflow_of (drop (f * P) image) < N
  pub apart : (k : ℕ) → InBlock image P f k → UsedFrom image P N root k → ⊥
  pub table : 32 + 8 * count_of (block_of image P f) ≤ length (block_of image P f)
  pub id_from2 : (i : ℕ) → i < count_of (block_of image P f) → 2 ≤ id_at (block_of image P f) i
  pub id_below_n : (i : ℕ) → i < count_of (block_of image P f) → id_at (block_of image P f) i < N
  pub rising : (i : ℕ) → i + 1 < count_of (block_of image P f) → id_at (block_of image P f) i < id_at (block_of image P f) (i + 1)
  pub unused : (i : ℕ) → i < count_of (block_of image P f) → UsedFrom image P N root (id_at (block_of image P f) i) → ⊥
  pub not_own : (i : ℕ) → i < count_of (block_of image P f) → InBlock image P f (id_at (block_of image P f) i) → ⊥

pub record SoundImage (image : List ℕ) (P N root f : ℕ) : Type 0 where
  pub sizes : SoundSizes image P N
  pub tree : Sound (view_of image P N) (pages_of image P N) N 16 root true [] none
  pub freelist : SoundFreelist image P N root f

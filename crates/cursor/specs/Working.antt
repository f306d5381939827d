-- Working definitions of the code's parts: indices, cleared steps, a move below a path, a path that was followed.
-- Assumes nothing.
use Rattle.std.specs.Prelude.{◌≡◌, Bool, true, false, cond, List, [], ◌∷◌, ◌++◌, ℕ, ◌+◌, ◌-◌, ◌*◌, ◌≤◌, ◌<◌, ltb, length, get_or, take, drop, replicate, Ok, Err}
use Rattle.std.specs.declared.result.Result.{Result}
use Rattle.page.specs.Layout.{count_of, page_of}
use Rattle.page.specs.PageRules.{SoundBlock, block_of}
use Rattle.path.specs.declared.Direction.{Direction}
use Rattle.path.specs.declared.Direction.TheVariants.{Onward, Back}
use Rattle.path.specs.declared.Step.{Step}
use Rattle.path.specs.declared.Cursor.{Cursor}
use Rattle.path.specs.Path.{step, Move, at, end, refused, below, outer}
use Rattle.view.specs.declared.Fault.{Fault}
use Rattle.view.specs.declared.Value.{Value}
use Rattle.view.specs.Fault.{fault_at}
use Rattle.view.specs.View.{value_item, view_of}
use Rattle.cursor.specs.Sight.{SoundPage}

-- the index of the outermost of n elements
abbrev pub edge_of : Direction → ℕ → ℕ
edge_of Onward n = 0
edge_of Back n = n - 1

-- whether there is an element beside element i of n, and its index
abbrev pub has_beside : Direction → ℕ → ℕ → Bool
has_beside Onward n i = ltb (i + 1) n
has_beside Back n i = ltb 0 i

abbrev pub beside_of : Direction → ℕ → ℕ
beside_of Onward i = i + 1
beside_of Back i = i - 1

-- sixteen steps, of which those from `level` on are zero
pub record Clear (steps : List Step) (level : ℕ) : Type 0 where
  pub sixteen : length steps ≡ 16
  pub zeros : drop level steps ≡ replicate (16 - level) (step 0 0)

-- a move below all steps of a path
unfoldable pub under : {P : Type 0} → List Step → Move P → Move P
under [] m = m
under (s ∷ path) m = below s (under path m)

-- whether a path stands in the tree, or the first refusal on the way
abbrev pub followed_of : Move Value → Result Unit Fault
followed_of (at path e) = Ok tt
followed_of end = Ok tt
followed_of (refused refusal page element common) = Err (fault_at refusal page element common)

-- the page of a cursor's step k; that of the first is the root
abbrev pub page_at : Cursor → ℕ → ℕ
page_at c k = (get_or c.steps k (step 0 0)).page

abbrev pub root_of : Cursor → ℕ
root_of c = page_at c 0

-- page k of a path is sound and has an element i: the path's last page is a leaf, and those before it are branches
pub record PathPage (image : List ℕ) (P N : ℕ) (c : Cursor) (k i : ℕ) : Type 0 where
  pub page : SoundPage image P N (page_at c k)
  pub index : i < count_of (block_of image P (page_at c k))
  pub before : k + 1 < c.length → SoundBlock false false (block_of image P (page_at c k))
  pub last : c.length ≤ k + 1 → SoundBlock true true (block_of image P (page_at c k))

-- the outermost entry below element i of page k of a path; of its last page element i itself
abbrev pub turn_of : List ℕ → ℕ → ℕ → Direction → Cursor → ℕ → ℕ → Move Value
turn_of image P N way c k i =
    cond (ltb (k + 1) c.length)
    (under (take k c.steps ++ (step (page_at c k) i ∷ []))
    (outer N (view_of image P N) way (16 - (k + 1)) false (page_of (block_of image P (page_at c k)) i)))
    (at (take k c.steps ++ (step (page_at c k) i ∷ [])) (value_item (page_at c k * P) (block_of image P (page_at c k)) i))

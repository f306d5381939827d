-- A page of an image, as the walk and the lookup view it: refused with a cause, an element and the length of a common beginning, a branch's
-- separators with their children, or a leaf's keys, each with what lookup tells of its entry; and the pages that its block takes up.
-- Assumes nothing.
use Rattle.std.specs.Prelude.{Bool, true, false, cond, ◌&&◌, List, [], ◌∷◌, ℕ, zero, suc, ◌+◌, ◌*◌, drop}
use Rattle.page.specs.Layout.{count_of, overflow_of, is_leaf, page_of, kind_of, key_of, value_at, value_size}
use Rattle.page.specs.PageRules.{after_check, header_bad, block_of, check_of}
use Rattle.walk.specs.Tree.{Item, View, bad, branch, leaf}
use Rattle.view.specs.declared.Value.{Value}
use Rattle.field.specs.declared.refusal.Refusal.TheVariants.{Header}

-- ---- the elements of a block
-- the k of a row from i on
unfoldable pub row : {A : Type 0} → (ℕ → A) → ℕ → ℕ → List A
row f zero i = []
row f (suc k) i = f i ∷ row f k (i + 1)

-- a branch's separator and the page of its child
abbrev pub child_item : List ℕ → ℕ → Item ℕ
child_item b i = record { key = key_of false b i; value = page_of b i }

-- a leaf's entry, of a block that starts at byte `start` of the image: its kind, and the place and length of its value
abbrev pub value_item : ℕ → List ℕ → ℕ → Item Value
value_item start b i =
    record { key = key_of true b i; value = record { kind = kind_of b i; place = start + value_at true b i; length = value_size true b i } }

-- ---- a block, by its check; a count of 0 is allowed for a root leaf
abbrev pub elements_view : Bool → ℕ → List ℕ → View Value
elements_view true start b = leaf (row (value_item start b) (count_of b) 0)
elements_view false start b = branch (row (child_item b) (count_of b) 0)

unfoldable pub block_view : ℕ → Bool → List ℕ → View Value
block_view start top b = after_check (check_of (is_leaf b) (top && is_leaf b) b) bad (elements_view (is_leaf b) start b)

-- ---- page q of an image, as the root or not: rule 4, then its block
unfoldable pub view_of : List ℕ → ℕ → ℕ → ℕ → Bool → View Value
view_of image P N q top = cond (header_bad N q (drop (q * P) image)) (bad Header 0 0) (block_view (q * P) top (block_of image P q))

-- ---- the pages of a block
-- the k pages from q on
unfoldable pub pages_from : ℕ → ℕ → List ℕ
pages_from q zero = []
pages_from q (suc k) = q ∷ pages_from (q + 1) k

-- all pages of the block that starts with page q
abbrev pub pages_at : List ℕ → ℕ → ℕ → List ℕ
pages_at image P q = pages_from q (overflow_of (drop (q * P) image) + 1)

-- the same for a page of the tree: none where rule 4 refuses the header
unfoldable pub pages_of : List ℕ → ℕ → ℕ → ℕ → List ℕ
pages_of image P N q = cond (header_bad N q (drop (q * P) image)) [] (pages_at image P q)

-- What the quick lookup looks at: in a page the elements at the middles, and in the image runs of bytes. Of a page these are its header but for the seven bytes
-- after its type; of an element looked at its numbers, and of its key no more bytes than the key looked for has; and of a branch the number of one child.
-- Assumes nothing.
use Rattle.std.specs.Prelude.{◌≡◌, Bool, true, false, cond, ◌&&◌, List, [], ◌∷◌, ◌++◌, ℕ, zero, suc, ◌+◌, ◌*◌, ◌^◌, ◌<◌, min, ltb, length, get_or, drop, Ok, Err}
use Rattle.field.specs.Order.{order_of}
use Rattle.page.specs.Layout.{count_of, is_leaf, element_at, key_size, key_at, key_of}
use Rattle.page.specs.PageRules.{header_bad, table_bad, element_bad, block_of}
use Rattle.walk.specs.Tree.{Key, inside, Every}
use Rattle.view.specs.Geometry.{geometry_bad}
use Rattle.lookup.specs.declared.descent.Step.TheVariants.{Down, Found, Absent}
use Rattle.lookup.specs.Descent.{Stepped}
use Rattle.quick.specs.Halving.{Halved, middle, by_order, halves_of}
use Rattle.quick.specs.Quick.{page_says}

-- ---- the elements that halving looks at, in turn, turn by turn as `halve`
unfoldable pub middles : Bool → List ℕ → Key → ℕ → ℕ → ℕ → List ℕ
middles leaf b key zero low high = []
middles leaf b key (suc turns) low high =
    cond (ltb low high)
    (middle low high
    ∷ cond (element_bad leaf b (middle low high)) []
    (by_order (order_of (key_of leaf b (middle low high)) key)
    (middles leaf b key turns (middle low high + 1) high)
    []
    (middles leaf b key turns low (middle low high))))
    []

unfoldable pub looks_at : Bool → List ℕ → Key → List ℕ
looks_at leaf b key = middles leaf b key (count_of b) 0 (count_of b)

-- ---- runs of bytes
-- so many bytes from a place on
pub record Run : Type 0 where
  pub from : ℕ
  pub bytes : ℕ

abbrev pub run : ℕ → ℕ → Run
run from bytes = record { from = from; bytes = bytes }

-- two images have the same bytes there
abbrev pub SameIn : List ℕ → List ℕ → Run → Type 0
SameIn image image' r = (j : ℕ) → j < r.bytes → get_or image' (r.from + j) 0 ≡ get_or image (r.from + j) 0

-- how many bytes there are in all
unfoldable pub total : List Run → ℕ
total [] = 0
total (r ∷ rs) = r.bytes + total rs

-- ---- of a block that starts at byte `start` of the image
-- id and type, count and overflow
abbrev pub header_runs : ℕ → List Run
header_runs start = run start 9 ∷ run (start + 16) 16 ∷ []

-- an element's numbers but for a branch's child: of a leaf the kind, and pos, key size and value size; of a branch key size and pos
abbrev pub number_runs : Bool → ℕ → ℕ → List Run
number_runs true start i = run (start + element_at true i) 1 ∷ run (start + element_at true i + 8) 24 ∷ []
number_runs false start i = run (start + element_at false i + 8) 16 ∷ []

-- of its key no more bytes than the shorter of both keys has, and none where rule 6 refuses it
abbrev pub key_runs : Bool → ℕ → List ℕ → Key → ℕ → List Run
key_runs leaf start b key i =
    cond (element_bad leaf b i) [] (run (start + key_at leaf b i) (min (key_size leaf b i) (length key)) ∷ [])

unfoldable pub element_runs : Bool → ℕ → List ℕ → Key → List ℕ → List Run
element_runs leaf start b key [] = []
element_runs leaf start b key (i ∷ is) = number_runs leaf start i ++ key_runs leaf start b key i ++ element_runs leaf start b key is

-- the number of a branch's child
abbrev pub child_runs : Bool → ℕ → Halved → List Run
child_runs true start h = []
child_runs false start (Ok place) = run (start + element_at false place.at) 8 ∷ []
child_runs false start (Err i) = []

unfoldable pub block_runs : ℕ → Bool → List ℕ → Key → List Run
block_runs start top b key =
    cond (table_bad (is_leaf b) (top && is_leaf b) b) []
    (element_runs (is_leaf b) start b key (looks_at (is_leaf b) b key) ++ child_runs (is_leaf b) start (halves_of (is_leaf b) b key))

-- ---- of page q of an image, as the root or not
unfoldable pub page_runs : List ℕ → ℕ → ℕ → Key → ℕ → Bool → List Run
page_runs image P N key q top =
    header_runs (q * P) ++ cond (header_bad N q (drop (q * P) image)) [] (block_runs (q * P) top (block_of image P q) key)

-- ---- of the descent, at most d levels from page q on
abbrev pub onward_runs : (ℕ → List Run) → Stepped → List Run
onward_runs go (Ok (Down child)) = go child
onward_runs go (Ok (Found v)) = []
onward_runs go (Ok Absent) = []
onward_runs go (Err b) = []

unfoldable pub descent_runs : List ℕ → ℕ → ℕ → Key → ℕ → Bool → ℕ → List Run
descent_runs image P N key zero top q = []
descent_runs image P N key (suc d) top q =
    cond (inside N q) (page_runs image P N key q top ++ onward_runs (descent_runs image P N key d false) (page_says image P N key q top)) []

-- ---- of the quick lookup: nothing where the geometry is refused
unfoldable pub reads_of : List ℕ → ℕ → ℕ → ℕ → Key → List Run
reads_of image P N root key = cond (geometry_bad image P N) [] (descent_runs image P N key 16 true root)

-- two images of the same length that have the same bytes wherever the quick lookup looks for this key
pub record SameRead (image image' : List ℕ) (P N root : ℕ) (key : Key) : Type 0 where
  pub same_length : length image' ≡ length image
  pub same_bytes : Every (SameIn image image') (reads_of image P N root key)

-- ---- page q, as the root or not, has fewer than 2 ^ k elements, where rules 4 and 5 do not refuse it
abbrev pub Counted : List ℕ → ℕ → ℕ → ℕ → ℕ → Bool → Type 0
Counted image P N k q top =
    header_bad N q (drop (q * P) image) ≡ false
    → table_bad (is_leaf (block_of image P q)) (top && is_leaf (block_of image P q)) (block_of image P q) ≡ false
    → count_of (block_of image P q) < 2 ^ k

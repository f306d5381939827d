-- 02, order 5, login's lookup: "In each page it applies rules 1, 2, 4 and 5, then halves". Where a page has the place of a key, a branch leads to the child
-- there, and a leaf has the entry there or none.
-- Assumes nothing.
use Rattle.std.specs.Prelude.{Bool, true, false, cond, ◌&&◌, List, ℕ, ◌*◌, drop, Ok, Err}
use Rattle.field.specs.declared.refusal.Refusal.TheVariants.{Geometry, Header, Table, Element}
use Rattle.page.specs.Layout.{is_leaf, page_of}
use Rattle.page.specs.PageRules.{breach, header_bad, table_bad, block_of}
use Rattle.walk.specs.Tree.{Key}
use Rattle.view.specs.Geometry.{geometry_bad}
use Rattle.view.specs.Fault.{fault_at}
use Rattle.view.specs.View.{value_item}
use Rattle.lookup.specs.declared.descent.Step.TheVariants.{Down, Found, Absent}
use Rattle.lookup.specs.Descent.{Looked, Stepped, descend}
use Rattle.quick.specs.Halving.{Halved, halves_of}

-- ---- what halving comes to, in a leaf (true) that starts at byte `start` of the image, or in a branch; a breach of rule 6 is that of an element
abbrev pub says_of : Bool → ℕ → List ℕ → Halved → Stepped
says_of leaf start b (Err i) = Err (breach Element i 0)
says_of true start b (Ok place) = Ok (cond place.found (Found (value_item start b place.at).value) Absent)
says_of false start b (Ok place) = Ok (Down (page_of b place.at))

-- ---- a block: rule 5, in which a root leaf may have a count of 0, and then halving
unfoldable pub block_says : ℕ → Bool → List ℕ → Key → Stepped
block_says start top b key = cond (table_bad (is_leaf b) (top && is_leaf b) b) (Err (breach Table 0 0)) (says_of (is_leaf b) start b (halves_of (is_leaf b) b key))

-- ---- page q of an image, as the root or not: rule 4, and then its block
unfoldable pub page_says : List ℕ → ℕ → ℕ → Key → ℕ → Bool → Stepped
page_says image P N key q top = cond (header_bad N q (drop (q * P) image)) (Err (breach Header 0 0)) (block_says (q * P) top (block_of image P q) key)

-- ---- geometry first; then at most 16 levels from the root, each with rules 1 and 2 first, to a leaf
unfoldable pub quick_of : List ℕ → ℕ → ℕ → ℕ → Key → Looked
quick_of image P N root key = cond (geometry_bad image P N) (Err (fault_at Geometry 0 0 0)) (descend N (page_says image P N key) 16 true root)

-- The quick lookup, page by page: what a page says by its header, as a leaf and as a branch; and geometry, then the descent.
-- Assumes nothing.
use mathlib.Core.Path.{◌≡◌, refl, sym}
use mathlib.Core.Bool.{Bool, true, false, cond, and-true, and-false}
use mathlib.Core.List.{List}
use Prim.Native.Nat.{ℕ, ◌*◌}
use lib.ListN.{drop}
use Rattle.page.specs.Layout.{is_leaf}
use Rattle.page.specs.PageRules.{header_bad, table_bad, block_of, breach}
use Rattle.walk.specs.Tree.{Key}
use Rattle.view.specs.Geometry.{geometry_bad}
use Rattle.view.specs.Fault.{fault_at}
use Rattle.lookup.specs.Descent.{descend}
use Rattle.quick.specs.Halving.{Halved, halves_of}
use Rattle.quick.specs.Quick.{says_of, block_says, page_says, quick_of}
use Rattle.std.specs.Prelude.{Ok, Err}
use Rattle.field.specs.declared.refusal.Refusal.TheVariants.{Geometry, Header, Table}

-- what a branch says does not hang on where it starts
branch_free : (start : ℕ) (b : List ℕ) (h : Halved) → says_of false 0 b h ≡ says_of false start b h
branch_free start b (Ok place) = refl
branch_free start b (Err i) = refl

-- ---- page q
module _ (image : List ℕ) (P N : ℕ) (key : Key) (q : ℕ) (top : Bool) where
  pub says_header : header_bad N q (drop (q * P) image) ≡ true → page_says image P N key q top ≡ Err (breach Header 0 0)
  unfolding page_says
  says_header e = rw e

  module _ (b : List ℕ) (is : b ≡ block_of image P q) (good : header_bad N q (drop (q * P) image) ≡ false) where
    pub says_leaf : is_leaf b ≡ true → page_says image P N key q top ≡ cond (table_bad true top b) (Err (breach Table 0 0)) (says_of true (q * P) b (halves_of true b key))
    unfolding page_says block_says
    says_leaf e = rw (good, sym is, e, and-true top)

    pub says_branch : is_leaf b ≡ false → page_says image P N key q top ≡ cond (table_bad false false b) (Err (breach Table 0 0)) (says_of false 0 b (halves_of false b key))
    unfolding page_says block_says
    says_branch e = rw (good, sym is, e, and-false top, branch_free (q * P) b (halves_of false b key))

-- ---- geometry, then the descent
module _ (image : List ℕ) (P N root : ℕ) (key : Key) where
  pub quick_geometry : geometry_bad image P N ≡ true → quick_of image P N root key ≡ Err (fault_at Geometry 0 0 0)
  unfolding quick_of
  quick_geometry e = rw e

  pub quick_descends : geometry_bad image P N ≡ false → quick_of image P N root key ≡ descend N (page_says image P N key) 16 true root
  unfolding quick_of
  quick_descends e = rw e

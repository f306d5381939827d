-- The value that the quick lookup finds lies within the image, whatever the image is: its element was judged on the way.
-- Assumes nothing.
use mathlib.Core.Path.{◌≡◌, refl, sym}
use mathlib.Core.Bool.{Bool, true, false, cond, ◌&&◌}
use mathlib.Core.List.{List}
use Prim.Native.Nat.{ℕ, ◌+◌, ◌*◌, ◌≤◌}
use native.Mathlib.Omega.{arith}
use lib.ListN.{length, drop}
use Rattle.page.specs.Layout.{is_leaf}
use Rattle.page.specs.PageRules.{header_bad, table_bad, block_of, breach}
use Rattle.page.proofs.RuleLaws.{element_good}
use Rattle.walk.specs.Tree.{Key}
use Rattle.view.specs.declared.Value.{Value}
use Rattle.view.specs.Geometry.{geometry_bad, SoundSizes}
use Rattle.view.specs.Fault.{fault_at}
use Rattle.view.specs.View.{value_item}
use Rattle.view.proofs.ViewFrame.{header_ends}
use Rattle.view.proofs.ImageLaws.{block_fits}
use Rattle.view.proofs.GeometryLaws.{geometry_sizes}
use Rattle.lookup.specs.declared.descent.Step.TheVariants.{Found, Absent}
use Rattle.lookup.specs.Descent.{Stepped, descend}
use Rattle.lookup.proofs.DescendLaws.{descend_by}
use Rattle.quick.specs.Halving.{Halved, halves_of}
use Rattle.quick.specs.Quick.{says_of, block_says, page_says, quick_of}
use Rattle.quick.proofs.PlaceLaws.{found_judged}
use Rattle.std.specs.Prelude.{Ok, Err, Some}
use Rattle.field.specs.declared.refusal.Refusal.TheVariants.{Geometry, Header, Table}

-- a value's bytes lie within the image
abbrev Within : List ℕ → Value → Type 0
Within image v = v.place + v.length ≤ length image

-- what a page says is found lies in its block
module _ (image : List ℕ) (P N : ℕ) (sizes : SoundSizes image P N) (key : Key) (q : ℕ) (t : Bool) (v : Value) where
  abbrev b : List ℕ
  b = block_of image P q

  halves_within : header_bad N q (drop (q * P) image) ≡ false → (l : Bool) (h : Halved) → halves_of l b key ≡ h → says_of l (q * P) b h ≡ Ok (Found v) → Within image v
  halves_within g l (Err i) h f = absurd cc
  halves_within g false (Ok p) h f = absurd cc
  halves_within g true (Ok p) h f = go p.found refl f
    where
      go : (s : Bool) → p.found ≡ s → ◌≡◌ {A = Stepped} (Ok (cond s (Found (value_item (q * P) b p.at).value) Absent)) (Ok (Found v)) → Within image v
      go false n f = absurd cc
      go true n f =
          let u : (value_item (q * P) b p.at).value ≡ v = cc in
          let w = (element_good true b p.at (found_judged true b key p h n).1).1 in
          let l = block_fits image P N q sizes (header_ends N q (drop (q * P) image) g) in
          rw (sym u) (omega arith)

  says_within : page_says image P N key q t ≡ Ok (Found v) → Within image v
  unfolding page_says block_says
  says_within e = header (header_bad N q (drop (q * P) image)) refl (table_bad (is_leaf b) (t && is_leaf b) b) e
    where
      header : (s : Bool) → header_bad N q (drop (q * P) image) ≡ s → (u : Bool)
          → cond s (Err (breach Header 0 0)) (cond u (Err (breach Table 0 0)) (says_of (is_leaf b) (q * P) b (halves_of (is_leaf b) b key))) ≡ Ok (Found v) → Within image v
      header true g u f = absurd cc
      header false g true f = absurd cc
      header false g false f = halves_within g (is_leaf b) (halves_of (is_leaf b) b key) refl f

-- what the quick lookup finds lies within the image
pub quick_within : (image : List ℕ) (P N root : ℕ) (key : Key) (v : Value) → quick_of image P N root key ≡ Ok (Some v) → v.place + v.length ≤ length image
unfolding quick_of
quick_within image P N root key v e = go (geometry_bad image P N) refl e
  where
    go : (t : Bool) → geometry_bad image P N ≡ t
        → cond t (Err (fault_at Geometry 0 0 0)) (descend N (page_says image P N key) 16 true root) ≡ Ok (Some v) → Within image v
    go true g f = absurd cc
    go false g f =
        descend_by (λ a. a ≡ Ok (Some v) → Within image v) N (page_says image P N key)
        (λ q h. absurd cc) (λ q h. absurd cc)
        (λ q t w s h. let u : w ≡ v = cc in rw (sym u) (says_within image P N (geometry_sizes image P N g) key q t w s))
        (λ q t s h. absurd cc) (λ q t b s h. absurd cc)
        16 true root f

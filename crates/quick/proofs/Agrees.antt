-- Theorem: on any image, wherever the full lookup does not refuse, the quick lookup answers the same (`quick_agrees`). Page by page: a page that is no breach
-- to the full lookup keeps rules 4 to 7, so that halving finds there what the scan finds.
-- Assumes nothing.
use mathlib.Core.Path.{◌≡◌, refl, sym, ◌∙◌}
use mathlib.Core.Bool.{Bool, true, false, cond, ◌&&◌, and-true, and-false}
use mathlib.Core.List.{List}
use Prim.Native.Nat.{ℕ, ◌*◌}
use lib.ListN.{drop}
use Rattle.page.specs.Layout.{count_of, is_leaf}
use Rattle.page.specs.PageRules.{header_bad, table_bad, block_of, check_of, SoundBlock, breach}
use Rattle.page.specs.Search.{place_of}
use Rattle.page.proofs.RuleLaws.{breach_if_sound, sound_check}
use Rattle.walk.specs.Tree.{Key, View, bad, branch, leaf}
use Rattle.view.specs.declared.Fault.{Fault}
use Rattle.view.specs.declared.Value.{Value}
use Rattle.view.specs.Geometry.{geometry_bad}
use Rattle.view.specs.Fault.{fault_at}
use Rattle.view.specs.View.{row, child_item, value_item, view_of}
use Rattle.view.proofs.ViewLaws.{view_branch, view_leaf}
use Rattle.lookup.specs.Lookup.{lookup_of}
use Rattle.lookup.specs.Step.{step_of}
use Rattle.lookup.specs.Descent.{descend}
use Rattle.lookup.proofs.DescendLaws.{lookup_steps, descend_agrees}
use Rattle.lookup.proofs.FindLaws.{child_found, leaf_found, leaf_missing}
use Rattle.quick.specs.Quick.{says_of, block_says, page_says, quick_of}
use Rattle.quick.proofs.HalvedLaws.{halves_scan}
use Rattle.std.specs.Prelude.{Ok, Err}
use Rattle.field.specs.declared.refusal.Refusal.TheVariants.{Geometry}
use Rattle.page.specs.declared.breach.Breach.{Breach}

-- ---- what a sound block says by the scan, as the full lookup has it
module _ (b : List ℕ) (key : Key) where
  branch_says_lem : (start : ℕ) → SoundBlock false false b
      → says_of false start b (Ok (place_of false b key)) ≡ step_of (branch (row (child_item b) (count_of b) 0)) key
  unfolding step_of
  branch_says_lem start s = rw (child_found b key s).1

  leaf_says_lem : (start : ℕ) (t : Bool) → SoundBlock true t b
      → says_of true start b (Ok (place_of true b key)) ≡ step_of (leaf (row (value_item start b) (count_of b) 0)) key
  leaf_says_lem start t s = go (place_of true b key).found refl
    where
      go : (f : Bool) → (place_of true b key).found ≡ f
          → says_of true start b (Ok (place_of true b key)) ≡ step_of (leaf (row (value_item start b) (count_of b) 0)) key
      go true e = rw e (sym (leaf_found t b key start s e).1)
      go false e = rw e (sym (leaf_missing t b key start s e))

-- ---- a page
module _ (image : List ℕ) (P N : ℕ) (key : Key) (q : ℕ) (t : Bool) where
  abbrev b : List ℕ
  b = block_of image P q

  -- where it keeps rules 4 to 7, it says what the scan of its block finds
  page_says_lem : (l empty_ok : Bool) → header_bad N q (drop (q * P) image) ≡ false → is_leaf b ≡ l → (t && l) ≡ empty_ok → SoundBlock l empty_ok b
      → page_says image P N key q t ≡ says_of l (q * P) b (Ok (place_of l b key))
  unfolding page_says block_says check_of
  page_says_lem l empty_ok h k e s =
      let f : table_bad l empty_ok b ≡ false = (breach_if_sound _ _ _ (sound_check l empty_ok b s)).0 in
      rw (h, k, e, f, halves_scan l empty_ok b s key)

  -- where it is no breach to the full lookup, it says the same
  page_agrees : ((b : Breach) → step_of (view_of image P N q t) key ≡ Err b → ⊥) → page_says image P N key q t ≡ step_of (view_of image P N q t) key
  unfolding step_of
  page_agrees whole = go (view_of image P N q t) refl
    where
      go : (v : View Value) → view_of image P N q t ≡ v → page_says image P N key q t ≡ step_of (view_of image P N q t) key
      go (bad r i m) e = absurd (whole (breach r i m) (rw e))
      go (branch cs) e =
          let x = view_branch image P N q t cs e in
          rw (e, x.items) (page_says_lem false false x.header x.kind (and-false t) x.sound ∙ branch_says_lem b key (q * P) x.sound)
      go (leaf es) e =
          let x = view_leaf image P N q t es e in
          rw (e, x.items) (page_says_lem true t x.header x.kind (and-true t) x.sound ∙ leaf_says_lem b key (q * P) t x.sound)

-- wherever the full lookup does not refuse, the quick one answers the same
pub quick_agrees : (image : List ℕ) (P N root : ℕ) (key : Key) → ((x : Fault) → lookup_of image P N root key ≡ Err x → ⊥)
    → quick_of image P N root key ≡ lookup_of image P N root key
unfolding quick_of
quick_agrees image P N root key answers =
    let steps = lookup_steps image P N root key in
    rw steps (go (geometry_bad image P N) (rw steps at answers))
  where
    go : (g : Bool)
        → ((x : Fault) → cond g (Err (fault_at Geometry 0 0 0)) (descend N (λ p s. step_of (view_of image P N p s) key) 16 true root) ≡ Err x → ⊥)
        → cond g (Err (fault_at Geometry 0 0 0)) (descend N (page_says image P N key) 16 true root)
        ≡ cond g (Err (fault_at Geometry 0 0 0)) (descend N (λ p s. step_of (view_of image P N p s) key) 16 true root)
    go true a = refl
    go false a = descend_agrees N (λ p s. step_of (view_of image P N p s) key) (page_says image P N key) (page_agrees image P N key) 16 true root a

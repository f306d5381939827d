-- The value that a lookup finds lies within the image, whatever the image is: the page that holds it was judged on the way.
-- Assumes nothing.
use mathlib.Core.Path.{◌≡◌, refl, sym}
use mathlib.Core.Bool.{Bool, true, false, cond}
use mathlib.Core.List.{List, [], ◌∷◌}
use Prim.Native.Nat.{ℕ, zero, suc, ◌+◌, ◌*◌, ◌≤◌}
use native.Mathlib.Nat.{zero-add}
use native.Mathlib.Omega.{arith}
use lib.ListN.{length, drop}
use Rattle.page.specs.Layout.{count_of}
use Rattle.page.specs.PageRules.{block_of}
use Rattle.walk.specs.Tree.{Key, Item, View, bad, branch, leaf, At, same, inside, Answer, refused, found, absent, child_for, seek_from, look_page, lookup}
use Rattle.view.specs.declared.Value.{Value}
use Rattle.view.specs.Geometry.{geometry_bad, SoundSizes}
use Rattle.view.specs.View.{value_item, view_of}
use Rattle.view.specs.Fault.{fault_at}
use Rattle.lookup.specs.Lookup.{looked_of, lookup_of}
use Rattle.view.proofs.ViewLaws.{view_leaf, at_row}
use Rattle.view.proofs.ViewFrame.{header_ends}
use Rattle.view.proofs.ImageLaws.{block_fits}
use Rattle.view.proofs.GeometryLaws.{geometry_sizes}
use Rattle.std.specs.Prelude.{Ok, Err, Some}
use Rattle.field.specs.declared.refusal.Refusal.TheVariants.{Geometry, PageNumber}

-- an entry that is found is one of the leaf's
seek_at : (es : List (Item Value)) (key : Key) (p i : ℕ) (e : Item Value) (q j : ℕ) → seek_from es key p i ≡ found e q j → (k : ℕ) × At es k e
unfolding seek_from
seek_at [] key p i e q j h = absurd cc
seek_at (x ∷ es) key p i e q j h = go (same x.key key) h (seek_at es key p (suc i) e q j)
  where
    go : (t : Bool) → cond t (found x p i) (seek_from es key p (suc i)) ≡ found e q j
        → (seek_from es key p (suc i) ≡ found e q j → (k : ℕ) × At es k e)
        → (k : ℕ) × At (x ∷ es) k e
    go true g ih = (0, (let u : x ≡ e = cc in u))
    go false g ih = let r = ih g in (suc r.0, r.1)

module _ (image : List ℕ) (P N : ℕ) (sizes : SoundSizes image P N) (key : Key) where
  fits : (q : ℕ) (t : Bool) (es : List (Item Value)) (k : ℕ) (e : Item Value) → view_of image P N q t ≡ leaf es → At es k e
      → e.value.place + e.value.length ≤ length image
  fits q t es k e v a =
      let x = view_leaf image P N q t es v in
      let y = at_row (value_item (q * P) (block_of image P q)) (count_of (block_of image P q)) 0 k e (rw x.items at a) in
      let s : value_item (q * P) (block_of image P q) k ≡ e = rw (zero-add k) at y.1 in
      let w = x.sound.within k y.0 in
      let f = block_fits image P N q sizes (header_ends N q (drop (q * P) image) x.header) in
      rw (sym s) (omega arith)

  found_fits : (d : ℕ) (t : Bool) (q : ℕ) (e : Item Value) (p i : ℕ) → lookup N (view_of image P N) d t q key ≡ found e p i
      → e.value.place + e.value.length ≤ length image
  unfolding lookup look_page
  found_fits zero t q e p i h = absurd cc
  found_fits (suc d) t q e p i h = go (inside N q) h (view_of image P N q t) refl (λ c g. found_fits d false c e p i g)
    where
      page : (v : View Value) → view_of image P N q t ≡ v → look_page (λ c. lookup N (view_of image P N) d false c key) v q key ≡ found e p i
          → ((c : ℕ) → lookup N (view_of image P N) d false c key ≡ found e p i → e.value.place + e.value.length ≤ length image)
          → e.value.place + e.value.length ≤ length image
      page (bad r x m) f g ih = absurd cc
      page (branch cs) f g ih = ih (child_for cs key) g
      page (leaf es) f g ih = let a = seek_at es key q 0 e p i g in fits q t es a.0 e f a.1

      go : (b : Bool) → cond b (look_page (λ c. lookup N (view_of image P N) d false c key) (view_of image P N q t) q key) (refused PageNumber q 0 0) ≡ found e p i
          → (v : View Value) → view_of image P N q t ≡ v
          → ((c : ℕ) → lookup N (view_of image P N) d false c key ≡ found e p i → e.value.place + e.value.length ≤ length image)
          → e.value.place + e.value.length ≤ length image
      go false g v f ih = absurd cc
      go true g v f ih = page (view_of image P N q t) refl g ih

pub found_within : (image : List ℕ) (P N root : ℕ) (key : Key) (v : Value) → lookup_of image P N root key ≡ Ok (Some v) → v.place + v.length ≤ length image
unfolding lookup_of
found_within image P N root key v e = go (geometry_bad image P N) refl e
  where
    tree : SoundSizes image P N → (a : Answer Value) → lookup N (view_of image P N) 16 true root key ≡ a → looked_of a ≡ Ok (Some v) → v.place + v.length ≤ length image
    tree s (refused r q i m) h g = absurd cc
    tree s (found y q i) h g = let u : y.value ≡ v = cc in rw (sym u) (found_fits image P N s key 16 true root y q i h)
    tree s absent h g = absurd cc

    go : (t : Bool) → geometry_bad image P N ≡ t → cond t (Err (fault_at Geometry 0 0 0)) (looked_of (lookup N (view_of image P N) 16 true root key)) ≡ Ok (Some v) → v.place + v.length ≤ length image
    go true g h = absurd cc
    go false g h = tree (geometry_sizes image P N g) (lookup N (view_of image P N) 16 true root key) refl h

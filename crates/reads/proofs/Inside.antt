-- All bytes that the quick lookup looks at are bytes of the image.
-- Assumes nothing.
use mathlib.Core.Path.{◌≡◌, refl}
use mathlib.Core.Bool.{Bool, true, false, cond, ◌&&◌}
use mathlib.Core.List.{List, [], ◌∷◌, ◌++◌}
use Prim.Native.Nat.{ℕ, zero, suc, ◌+◌, ◌*◌, ◌≤◌, ◌<◌}
use native.Mathlib.Nat.{suc-mul, mul-le-mul_right}
use native.Mathlib.Omega.{arith}
use borrow.Author.Tests.{ltb-true}
use lib.Dec.{ltb}
use lib.ListN.{length, drop}
use Rattle.std.specs.declared.cmp.Ordering.{Ordering}
use Rattle.std.specs.declared.cmp.Ordering.TheVariants.{Less, Equal, Greater}
use Rattle.field.specs.Order.{order_of}
use Rattle.page.specs.Layout.{count_of, is_leaf, element_size, element_at, table_end, key_of}
use Rattle.page.specs.PageRules.{header_bad, table_bad, element_bad, block_of}
use Rattle.page.proofs.TestLaws.{and_both}
use Rattle.page.proofs.LayoutLaws.{element_room}
use Rattle.page.proofs.RuleLaws.{table_good, element_good}
use Rattle.walk.specs.Tree.{Key, inside, Every}
use Rattle.walk.proofs.Slots.{every_append}
use Rattle.view.specs.Geometry.{geometry_bad, SoundSizes}
use Rattle.view.proofs.GeometryLaws.{inside_parts, geometry_sizes}
use Rattle.view.proofs.ViewFrame.{header_ends, block_end, block_length}
use Rattle.lookup.specs.declared.descent.Step.TheVariants.{Down, Found, Absent}
use Rattle.lookup.specs.Descent.{Stepped}
use Rattle.quick.specs.Halving.{Halved, here, middle, by_order, halve, halves_of}
use Rattle.quick.specs.Quick.{page_says}
use Rattle.reads.specs.Reads.{middles, looks_at, Run, header_runs, number_runs, key_runs, element_runs, child_runs, block_runs, page_runs, onward_runs, descent_runs, reads_of}
use Rattle.reads.proofs.RunLaws.{}
use Rattle.std.specs.Prelude.{Ok, Err}

-- ---- halving stays below n

-- what halving comes to, but for a breach, is a place below n
abbrev Within : ℕ → Halved → Type 0
Within n (Ok place) = place.at < n
Within n (Err i) = Unit

module _ (n : ℕ) where
  middle_first : (i : ℕ) (bad : Bool) (o : Ordering) (lower higher : List ℕ) → i < n → Every (λ i. i < n) lower → Every (λ i. i < n) higher
      → Every (λ i. i < n) (i ∷ cond bad [] (by_order o lower [] higher))
  middle_first i true o lower higher l f g = (l, tt)
  middle_first i false Less lower higher l f g = (l, f)
  middle_first i false Equal lower higher l f g = (l, tt)
  middle_first i false Greater lower higher l f g = (l, g)

  middle_found : (i : ℕ) (bad : Bool) (o : Ordering) (lower higher : Halved) → i < n → Within n lower → Within n higher
      → Within n (cond bad (Err i) (by_order o lower (Ok (here i)) higher))
  middle_found i true o lower higher l f g = tt
  middle_found i false Less lower higher l f g = f
  middle_found i false Equal lower higher l f g = l
  middle_found i false Greater lower higher l f g = g

module _ (leaf : Bool) (b : List ℕ) (key : Key) (n : ℕ) where
  middles_within : (turns low high : ℕ) → high ≤ n → Every (λ i. i < n) (middles leaf b key turns low high)
  unfolding middles
  middles_within zero low high h = tt
  middles_within (suc turns) low high h = go (middles_within turns) (ltb low high) refl
    where
      go : ((low high : ℕ) → high ≤ n → Every (λ i. i < n) (middles leaf b key turns low high)) → (t : Bool) → ltb low high ≡ t
          → Every (λ i. i < n) (middles leaf b key (suc turns) low high)
      go ih false e = rw e tt
      go ih true e =
          let l = ltb-true low high e in
          let m = middle low high in
          rw e (middle_first n m (element_bad leaf b m) (order_of (key_of leaf b m) key) _ _ (omega arith) (ih (m + 1) high h) (ih low m (omega arith)))

  halve_within : 0 < n → (turns low high : ℕ) → low ≤ n → high ≤ n → Within n (halve leaf b key turns low high)
  unfolding halve
  halve_within p zero low high g h = omega arith
  halve_within p (suc turns) low high g h = go (halve_within p turns) (ltb low high) refl
    where
      go : ((low high : ℕ) → low ≤ n → high ≤ n → Within n (halve leaf b key turns low high)) → (t : Bool) → ltb low high ≡ t
          → Within n (halve leaf b key (suc turns) low high)
      go ih false e = rw e (omega arith)
      go ih true e =
          let l = ltb-true low high e in
          let m = middle low high in
          rw e (middle_found n m (element_bad leaf b m) (order_of (key_of leaf b m) key) _ _ (omega arith) (ih (m + 1) high (omega arith) h) (ih low m g (omega arith)))

-- ---- a block

-- a branch has an element
filled : (top leaf : Bool) (n : ℕ) → (n ≡ 0 → (top && leaf) ≡ true) → leaf ≡ false → 0 < n
filled top leaf zero h e = absurd (let f = (and_both top leaf (h refl)).1 in cc)
filled top leaf (suc n) h e = omega arith

-- a run ends within so many bytes
abbrev Ends : ℕ → Run → Type 0
Ends size r = r.from + r.bytes ≤ size

module _ (size start : ℕ) (b : List ℕ) (ends : start + length b ≤ size) where
  numbers_inside : (leaf : Bool) (i : ℕ) → element_at leaf i + element_size leaf ≤ length b → Every (Ends size) (number_runs leaf start i)
  numbers_inside false i h = (omega arith, tt)
  numbers_inside true i h = (omega arith, (omega arith, tt))

  key_inside : (leaf : Bool) (key : Key) (i : ℕ) → Every (Ends size) (key_runs leaf start b key i)
  key_inside leaf key i = go (element_bad leaf b i) refl
    where
      go : (t : Bool) → element_bad leaf b i ≡ t → Every (Ends size) (key_runs leaf start b key i)
      go true e = rw e tt
      go false e = rw e (omega (arith, (element_good leaf b i e).1), tt)

  elements_inside : (leaf : Bool) (key : Key) → table_end leaf b ≤ length b → (is : List ℕ) → Every (λ i. i < count_of b) is
      → Every (Ends size) (element_runs leaf start b key is)
  unfolding element_runs
  elements_inside leaf key t [] h = tt
  elements_inside leaf key t (i ∷ is) h =
      every_append (Ends size) (number_runs leaf start i ++ key_runs leaf start b key i) (element_runs leaf start b key is)
      (every_append (Ends size) (number_runs leaf start i) (key_runs leaf start b key i)
      (numbers_inside leaf i (element_room leaf b i h.0 t))
      (key_inside leaf key i))
      (elements_inside leaf key t is h.1)

  child_inside : (leaf : Bool) → table_end leaf b ≤ length b → (h : Halved) → (leaf ≡ false → Within (count_of b) h)
      → Every (Ends size) (child_runs leaf start h)
  child_inside false t (Ok place) w = (omega (arith, w refl), tt)
  child_inside false t (Err i) w = tt
  child_inside true t h w = tt

  block_inside_lem : (top : Bool) (key : Key) → Every (Ends size) (block_runs start top b key)
  unfolding block_runs looks_at halves_of
  block_inside_lem top key = go (table_bad (is_leaf b) (top && is_leaf b) b) refl
    where
      go : (t : Bool) → table_bad (is_leaf b) (top && is_leaf b) b ≡ t → Every (Ends size) (block_runs start top b key)
      go true e = rw e tt
      go false e =
          let leaf = is_leaf b in
          let n = count_of b in
          let t = table_good leaf (top && leaf) b e in
          rw e
          (every_append (Ends size) (element_runs leaf start b key (looks_at leaf b key)) (child_runs leaf start (halves_of leaf b key))
          (elements_inside leaf key t.1 (looks_at leaf b key) (middles_within leaf b key n n 0 n (omega arith)))
          (child_inside leaf t.1 (halves_of leaf b key) (λ f. halve_within leaf b key n (filled top leaf n t.0 f) n 0 n (omega arith) (omega arith))))

-- ---- pages and the descent
module _ (image : List ℕ) (P N : ℕ) (key : Key) (s : SoundSizes image P N) where
  page_inside : (q : ℕ) (top : Bool) → inside N q ≡ true → Every (Ends (length image)) (page_runs image P N key q top)
  unfolding page_runs
  page_inside q top i =
      let below = (inside_parts N q i).1 in
      let m : suc q * P ≤ N * P = mul-le-mul_right P (omega arith) in
      let e = suc-mul q P in
      every_append (Ends (length image)) (header_runs (q * P)) (cond (header_bad N q (drop (q * P) image)) [] (block_runs (q * P) top (block_of image P q) key))
      (omega arith, (omega arith, tt))
      (go (header_bad N q (drop (q * P) image)) refl)
    where
      go : (t : Bool) → header_bad N q (drop (q * P) image) ≡ t → Every (Ends (length image)) (cond t [] (block_runs (q * P) top (block_of image P q) key))
      go true e = tt
      go false e =
          let ends = header_ends N q (drop (q * P) image) e in
          block_inside_lem (length image) (q * P) (block_of image P q) (omega (arith, block_end image P N q ends s.holds, block_length image P N q ends s.holds)) top key

  descent_inside : (d : ℕ) (top : Bool) (q : ℕ) → Every (Ends (length image)) (descent_runs image P N key d top q)
  unfolding descent_runs
  descent_inside zero top q = tt
  descent_inside (suc d) top q = go (descent_inside d false) (inside N q) refl
    where
      onwards : ((child : ℕ) → Every (Ends (length image)) (descent_runs image P N key d false child)) → (says : Stepped)
          → Every (Ends (length image)) (onward_runs (descent_runs image P N key d false) says)
      onwards ih (Ok (Down child)) = ih child
      onwards ih (Ok (Found v)) = tt
      onwards ih (Ok Absent) = tt
      onwards ih (Err b) = tt

      go : ((child : ℕ) → Every (Ends (length image)) (descent_runs image P N key d false child)) → (t : Bool) → inside N q ≡ t
          → Every (Ends (length image)) (descent_runs image P N key (suc d) top q)
      go ih false e = rw e tt
      go ih true e =
          let says = page_says image P N key q top in
          rw e
          (every_append (Ends (length image)) (page_runs image P N key q top) (onward_runs (descent_runs image P N key d false) says) (page_inside q top e) (onwards ih says))

-- each run that the quick lookup looks at ends within the image
pub reads_inside : (image : List ℕ) (P N root : ℕ) (key : Key) → Every (λ r. r.from + r.bytes ≤ length image) (reads_of image P N root key)
unfolding reads_of
reads_inside image P N root key = go (geometry_bad image P N) refl
  where
    go : (t : Bool) → geometry_bad image P N ≡ t → Every (Ends (length image)) (cond t [] (descent_runs image P N key 16 true root))
    go true e = tt
    go false e = descent_inside image P N key (geometry_sizes image P N e) 16 true root

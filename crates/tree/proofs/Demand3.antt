-- Theorem `demand3`: for any image, page size, page count, root and freelist page that the judge passes, the lookup meets demand 3, as the record of
-- specs/Demand3 states it. The laws before it are its fields.
-- Assumes nothing.
use mathlib.Core.Path.{◌≡◌, refl, sym, ap, ◌∙◌}
use mathlib.Core.Bool.{Bool, true, false, cond}
use mathlib.Core.List.{List, [], ◌∷◌}
use mathlib.Core.Logic.{◌↔◌}
use mathlib.Core.Option.{none}
use Prim.Native.Nat.{ℕ, zero, suc, ◌+◌, ◌-◌, ◌*◌, ◌≤◌, ◌<◌}
use native.Mathlib.Nat.{zero-add, sub-zero}
use native.Mathlib.Omega.{arith}
use lib.ListN.{length, get_or, take, drop, length-drop}
use lib.Seq.{drop-drop, take-take, take-nil, length-take-le, get_or-take, get_or-drop, ext_get_or}
use Rattle.std.specs.Prelude.{Some, None, Ok, Err}
use Rattle.field.specs.declared.refusal.Refusal.TheVariants.{Geometry}
use Rattle.page.specs.Layout.{count_of, overflow_of, value_at, value_size, value_of}
use Rattle.page.specs.PageRules.{block_of}
use Rattle.walk.specs.Tree.{Key, Item, View, bad, branch, leaf, Answer, refused, found, absent, lookup, same, seek_from, LeafEntry}
use Rattle.walk.specs.Sound.{Sound}
use Rattle.walk.proofs.Theorems as tree
use Rattle.view.specs.declared.Fault.{Fault}
use Rattle.view.specs.declared.Value.{Value}
use Rattle.lookup.specs.Descent.{Looked}
use Rattle.view.specs.Geometry.{geometry_bad}
use Rattle.view.specs.View.{value_item, view_of, pages_of}
use Rattle.view.specs.Fault.{fault_at}
use Rattle.lookup.specs.Lookup.{looked_of, lookup_of, value_in}
use Rattle.judge.specs.Judge.{Passes}
use Rattle.tree.specs.Sound.{ReachedFrom}
use Rattle.tree.specs.Outside.{SameWithin}
use Rattle.tree.specs.Holds.{Holds, value_held}
use Rattle.tree.specs.Demand3.{ByLeaf, Demand3In}
use Rattle.view.proofs.ViewLaws.{checked, LeafBlock, view_branch, view_leaf, row_at, at_row}
use Rattle.view.proofs.ViewFrame.{block_is, header_ends, block_end, block_length, same_view}
use Rattle.tree.proofs.UsedPages.{reached_seen, reached_header}
use Rattle.tree.proofs.PassesSound.{Passed, judge_passed, passes_iff_sound}
use Rattle.view.proofs.GeometryLaws.{sizes_geometry}

-- a part of a part
drop-take : (i n : ℕ) (l : List ℕ) → drop i (take n l) ≡ take (n - i) (drop i l)
drop-take zero n l = ap (λ (k : ℕ). take k l) (sym (sub-zero n))
drop-take (suc i) zero l = let e : 0 - suc i ≡ 0 = omega arith in rw e
drop-take (suc i) (suc n) [] = sym (take-nil (suc n - suc i))
drop-take (suc i) (suc n) (x ∷ l) = let e : suc n - suc i ≡ n - i = omega arith in rw e (drop-take i n l)

part-part : (n k at m : ℕ) (l : List ℕ) → at + m ≤ n → take m (drop (k + at) l) ≡ take m (drop at (take n (drop k l)))
part-part n k at m l h =
    let a : take m (drop at (take n (drop k l))) ≡ take m (take (n - at) (drop at (drop k l))) = ap (take m) (drop-take at n (drop k l)) in
    sym (a ∙ take-take m (n - at) (drop at (drop k l)) (omega arith) ∙ ap (take m) (drop-drop at k l))

-- what a search of a page's entries finds is on that page
own_page : (es : List (Item Value)) (key : Key) (page i : ℕ) (e : Item Value) (q j : ℕ) → seek_from es key page i ≡ found e q j → q ≡ page
unfolding seek_from
own_page [] key page i e q j h = absurd (let z : ◌≡◌ {A = ℕ} 0 1 = cc in omega arith)
own_page (x ∷ es) key page i e q j h = go (same x.key key) h (own_page es key page (suc i) e q j)
  where
    go : (t : Bool) → cond t (found x page i) (seek_from es key page (suc i)) ≡ found e q j
        → (seek_from es key page (suc i) ≡ found e q j → q ≡ page) → q ≡ page
    go true g ih = let u : page ≡ q = cc in sym u
    go false g ih = ih g

module _ (image : List ℕ) (P N root f : ℕ) (passes : Passes image P N root f) where
  abbrev view : ℕ → Bool → View Value
  view = view_of image P N

  p : Passed image P N root f passes.entries passes.pages
  p = judge_passed image P N root f passes.entries passes.pages passes.passed

  looks : (key : Key) → lookup_of image P N root key ≡ looked_of (lookup N view 16 true root key)
  unfolding lookup_of
  looks key = rw (sizes_geometry image P N p.sizes)

  -- ---- pages reached are sound
  sound : Sound view (pages_of image P N) N 16 root true [] none
  sound = ((passes_iff_sound image P N root f).0 passes).tree

  -- the block of a page reached ends below page N
  ends : (q : ℕ) → ReachedFrom image P N root q → q + overflow_of (drop (q * P) image) < N
  ends q x = header_ends N q _ (reached_header image P N root sound q x)

  -- ---- leaf entries, by their bytes
  entry_holds : (q i : ℕ) (e : Item Value) → LeafEntry view root true q i e
      → Holds image P N root e.key q i × (e ≡ value_item (q * P) (block_of image P q) i)
  entry_holds q i e x =
      let b = view_leaf image P N q x.top x.entries x.is_leaf in
      let a = at_row (value_item (q * P) (block_of image P q)) (count_of (block_of image P q)) 0 i e (rw b.items at x.entry_at) in
      let s : value_item (q * P) (block_of image P q) i ≡ e = rw (zero-add i) at a.1 in (
        record {
          reached = record { level = x.level; top = x.top; way = x.way };
          is_a_leaf = b.kind;
          index = a.0;
          has_key = ap (λ (y : Item Value). y.key) s;
        },
        sym s,
      )

  -- a page that holds an entry is viewed as a leaf
  leaf_view : (key : Key) (q i : ℕ) (h : Holds image P N root key q i)
      → (es : List (Item Value)) × (view q h.reached.top ≡ leaf es) × LeafBlock image P N q h.reached.top es
  leaf_view key q i h = go (view q h.reached.top) refl
    where
      go : (v : View Value) → view q h.reached.top ≡ v
          → (es : List (Item Value)) × (view q h.reached.top ≡ leaf es) × LeafBlock image P N q h.reached.top es
      go (bad r e c) g = absurd (reached_seen image P N root sound q h.reached r e c g)
      go (branch cs) g =
          absurd (let a = (view_branch image P N q h.reached.top cs g).kind in let b = h.is_a_leaf in let z : ◌≡◌ {A = ℕ} 0 1 = cc in omega arith)
      go (leaf es) g = (es, g, view_leaf image P N q h.reached.top es g)

  holds_entry : (key : Key) (q i : ℕ) → Holds image P N root key q i → LeafEntry view root true q i (value_item (q * P) (block_of image P q) i)
  holds_entry key q i h =
      let v = leaf_view key q i h in
      let a = row_at (value_item (q * P) (block_of image P q)) (count_of (block_of image P q)) 0 i h.index in
      record {
        level = h.reached.level;
        top = h.reached.top;
        entries = v.0;
        way = h.reached.way;
        is_leaf = v.1;
        entry_at = rw v.2.items (rw (zero-add i) at a);
      }

  -- ---- lookup doesn't refuse
  never_refused_lem : (key : Key) (x : Fault) → lookup_of image P N root key ≡ Err x → ⊥
  never_refused_lem key x e = go (lookup N view 16 true root key) refl (sym (looks key) ∙ e)
    where
      go : (a : Answer Value) → lookup N view 16 true root key ≡ a → looked_of a ≡ Err x → ⊥
      go (refused r q i c) h g = tree.never_refused_lem N (pages_of image P N) view (checked image P N) root passes.entries p.visited p.walked key r q i c h
      go (found y q i) h g = let z : ◌≡◌ {A = ℕ} 0 1 = cc in omega arith
      go absent h g = let z : ◌≡◌ {A = ℕ} 0 1 = cc in omega arith

  -- ---- it says found exactly when some leaf reached from that root holds the key, and shows that entry
  found_iff_lem : (key : Key) (v : Value)
      → (lookup_of image P N root key ≡ Ok (Some v)) ↔ ((page : ℕ) × (i : ℕ) × Holds image P N root key page i × (v ≡ value_held image P page i))
  found_iff_lem key v = (λ e. there (lookup N view 16 true root key) refl (sym (looks key) ∙ e), back)
    where
      there : (a : Answer Value) → lookup N view 16 true root key ≡ a → looked_of a ≡ Ok (Some v)
          → (page : ℕ) × (i : ℕ) × Holds image P N root key page i × (v ≡ value_held image P page i)
      there (refused r q i c) h g = absurd (let z : ◌≡◌ {A = ℕ} 0 1 = cc in omega arith)
      there (found y q i) h g =
          let x = (tree.found_iff_lem N (pages_of image P N) view (checked image P N) root passes.entries p.visited p.walked key y q i).0 h in
          let w = entry_holds q i y x.0 in
          let u : y.value ≡ v = cc in
          (q, i, rw x.1 at w.0, sym u ∙ ap (λ (e : Item Value). e.value) w.1)
      there absent h g = absurd (let z : ◌≡◌ {A = ℕ} 0 1 = cc in omega arith)

      back : ((page : ℕ) × (i : ℕ) × Holds image P N root key page i × (v ≡ value_held image P page i)) → lookup_of image P N root key ≡ Ok (Some v)
      back (q, i, h, e) =
          let x = (tree.found_iff_lem N (pages_of image P N) view (checked image P N) root passes.entries p.visited p.walked key (value_item (q * P) (block_of image P q) i) q i).1
          (holds_entry key q i h, h.has_key) in
          looks key ∙ ap looked_of x ∙ ap (λ (w : Value). Ok (Some w)) (sym e)

  absent_iff_lem : (key : Key) → (lookup_of image P N root key ≡ Ok None) ↔ ((page i : ℕ) → Holds image P N root key page i → ⊥)
  absent_iff_lem key = (λ e. there (lookup N view 16 true root key) refl (sym (looks key) ∙ e), back)
    where
      there : (a : Answer Value) → lookup N view 16 true root key ≡ a → looked_of a ≡ Ok None → (page i : ℕ) → Holds image P N root key page i → ⊥
      there (refused r q i c) h g page j x = let z : ◌≡◌ {A = ℕ} 0 1 = cc in omega arith
      there (found y q i) h g page j x = let z : ◌≡◌ {A = ℕ} 0 1 = cc in omega arith
      there absent h g page j x =
          (tree.absent_iff_lem N (pages_of image P N) view (checked image P N) root passes.entries p.visited p.walked key).0 h page j
          (value_item (page * P) (block_of image P page) j) (holds_entry key page j x) x.has_key

      back : ((page i : ℕ) → Holds image P N root key page i → ⊥) → lookup_of image P N root key ≡ Ok None
      back n =
          looks key
          ∙ ap looked_of
          ((tree.absent_iff_lem N (pages_of image P N) view (checked image P N) root passes.entries p.visited p.walked key).1
          (λ q i e x k. n q i (rw k at (entry_holds q i e x).0)))

  -- ---- the answer comes from a leaf that is reached by level 16
  by_leaf : (key : Key) → ByLeaf image P N root key (lookup_of image P N root key)
  by_leaf key =
      let w = tree.lands N (pages_of image P N) view (checked image P N) root passes.entries p.visited p.walked key in
      record {
        page = w.page;
        reached = record { level = w.level; top = w.top; way = w.way };
        leads = w.leads;
        by16 = w.within;
        is_a_leaf = (view_leaf image P N w.page w.top w.entries w.is_leaf).kind;
        found = λ v e. there w.page w.entries v (lookup N view 16 true root key) refl w.answers (sym (looks key) ∙ e);
        absent = λ e. (absent_iff_lem key).0 e w.page;
      }
    where
      there : (page : ℕ) (es : List (Item Value)) (v : Value) (a : Answer Value) → lookup N view 16 true root key ≡ a
          → lookup N view 16 true root key ≡ seek_from es key page 0
          → looked_of a ≡ Ok (Some v)
          → (i : ℕ) × Holds image P N root key page i × (v ≡ value_held image P page i)
      there page es v (refused r q i c) h s g = absurd (let z : ◌≡◌ {A = ℕ} 0 1 = cc in omega arith)
      there page es v (found y q i) h s g =
          let x = (tree.found_iff_lem N (pages_of image P N) view (checked image P N) root passes.entries p.visited p.walked key y q i).0 h in
          let w = entry_holds q i y x.0 in
          let u : y.value ≡ v = cc in
          let k = own_page es key page 0 y q i (sym s ∙ h) in
          (i, rw k at (rw x.1 at w.0), rw k at (sym u ∙ ap (λ (e : Item Value). e.value) w.1))
      there page es v absent h s g = absurd (let z : ◌≡◌ {A = ℕ} 0 1 = cc in omega arith)

  -- ---- the value shown is the entry's
  value_shown_lem : (key : Key) (page i : ℕ) → Holds image P N root key page i
      → value_in image (Ok (Some (value_held image P page i))) ≡ value_of true (block_of image P page) i
  unfolding value_of
  value_shown_lem key q i h =
      let b : List ℕ = block_of image P q in
      let n : ℕ = (overflow_of (drop (q * P) image) + 1) * P in
      let l = block_length image P N q (ends q h.reached) p.sizes.holds in
      let w = (leaf_view key q i h).2.sound.within i h.index in
      part-part n (q * P) (value_at true b i) (value_size true b i) image (omega arith)
      ∙ ap (λ (s : List ℕ). take (value_size true b i) (drop (value_at true b i) s)) (sym (block_is image P q))

  -- ---- no second leaf entry has that key
  one_entry_lem : (key : Key) (page i page' i' : ℕ) → Holds image P N root key page i → Holds image P N root key page' i' → (page ≡ page') × (i ≡ i')
  one_entry_lem key q i q' i' h h' =
      let x = tree.one_place N (pages_of image P N) view (checked image P N) root passes.entries p.visited p.walked q i _ q' i' _
      (holds_entry key q i h) (holds_entry key q' i' h') (h.has_key ∙ sym h'.has_key) in
      (x.0, x.1)

  -- ---- bytes outside the blocks reached don't matter
  outside_free_lem : (image' : List ℕ) → SameWithin image image' P N root → (key : Key) → lookup_of image' P N root key ≡ lookup_of image P N root key
  unfolding lookup_of geometry_bad
  outside_free_lem image' same key =
      rw same.same_length
      (ap (λ (a : Answer Value). cond (geometry_bad image P N) (Err (fault_at Geometry 0 0 0)) (looked_of a))
      (tree.lookup_framed N view (view_of image' P N) root
      (λ q s r. same_view image P N q (ends q r) p.sizes.holds image' p.sizes.least_size same.same_length (λ k. same.same_bytes q k r) s)
      key))

  -- and the value shown has the same bytes
  outside_value_lem : (image' : List ℕ) → SameWithin image image' P N root → (key : Key)
      → value_in image' (lookup_of image' P N root key) ≡ value_in image (lookup_of image P N root key)
  outside_value_lem image' same key = ap (value_in image') (outside_free_lem image' same key) ∙ go (lookup_of image P N root key) refl
    where
      part : (n k : ℕ) → k + n ≤ length image → ((j : ℕ) → j < n → get_or image' (k + j) 0 ≡ get_or image (k + j) 0) → take n (drop k image') ≡ take n (drop k image)
      part n k l h =
          let e = same.same_length in
          let a : length (take n (drop k image')) ≡ n = length-take-le n (drop k image') (rw length-drop (omega arith)) in
          let b : length (take n (drop k image)) ≡ n = length-take-le n (drop k image) (rw length-drop (omega arith)) in
          ext_get_or 0 (take n (drop k image')) (take n (drop k image)) (a ∙ sym b)
          (λ j m.
          get_or-take n (drop k image') j 0 (omega arith) ∙ get_or-drop k image' j 0 ∙ h j (omega arith)
          ∙ sym (get_or-take n (drop k image) j 0 (omega arith) ∙ get_or-drop k image j 0))

      held : (page i : ℕ) → Holds image P N root key page i → value_in image' (Ok (Some (value_held image P page i))) ≡ value_in image (Ok (Some (value_held image P page i)))
      held page i h =
          let w = (leaf_view key page i h).2.sound.within i h.index in
          let f = block_end image P N page (ends page h.reached) p.sizes.holds in
          let l = block_length image P N page (ends page h.reached) p.sizes.holds in
          part (value_size true (block_of image P page) i) (page * P + value_at true (block_of image P page) i) (omega arith)
          (λ j m. same.same_bytes page (page * P + value_at true (block_of image P page) i + j) h.reached (omega arith) (omega arith))

      go : (a : Looked) → lookup_of image P N root key ≡ a → value_in image' a ≡ value_in image a
      go (Ok (Some v)) e = let x = (found_iff_lem key v).0 e in rw x.3 (held x.0 x.1 x.2)
      go (Ok None) e = refl
      go (Err x) e = refl

  -- ---- all of it
  pub demand3 : Demand3In (λ s. lookup_of s P N root) image P N root
  demand3 =
      record {
        never_refused = never_refused_lem;
        reaches_a_leaf = by_leaf;
        found_iff = found_iff_lem;
        value_shown = λ key page i h. ap (value_in image) ((found_iff_lem key (value_held image P page i)).1 (page, i, h, refl)) ∙ value_shown_lem key page i h;
        absent_iff = absent_iff_lem;
        one_entry = one_entry_lem;
        outside_free = λ image' same key. (outside_free_lem image' same key, outside_value_lem image' same key);
      }

-- Theorem: the judge passes exactly the sound images (`passes_iff_sound`).
-- Assumes nothing.
use mathlib.Core.Path.{◌≡◌, refl, sym, ap, ◌∙◌}
use mathlib.Core.Bool.{Bool, true, false, not, cond}
use mathlib.Core.List.{List, [], ◌++◌}
use mathlib.Core.Logic.{◌↔◌}
use mathlib.Core.Option.{Option, none, some}
use Prim.Native.Nat.{ℕ, ◌+◌, ◌-◌, ◌*◌, ◌≤◌, ◌<◌}
use native.Mathlib.Omega.{arith}
use borrow.Author.Tests.{le-leb, lt-leb, leb-true, leb-false, lt-ltb, le-ltb, ltb-true, ltb-false, eq-eqb, eqb-true, not-false}
use lib.Dec.{leb, ltb, eqb}
use lib.ListN.{length, drop}
use Rattle.std.specs.Prelude.{Ok, Err}
use Rattle.field.specs.declared.refusal.Refusal.TheVariants.{Geometry, PageNumber, Header, Table, Element, KeyOrder, UsedTwice}
use Rattle.page.specs.Layout.{id_of, type_of, count_of, overflow_of}
use Rattle.page.specs.PageRules.{Verdict, no_common, first_bad, block_of}
use Rattle.page.proofs.RuleLaws.{none_bad, bad_none_at, and_sound, breach_if_sound}
use Rattle.page.proofs.TestLaws.{and_both, or_neither}
use Rattle.walk.specs.Tree.{pass, fault, walk, inside, memb, first_in, Verdict as Walk}
use Rattle.walk.specs.Sound as walk-specs
use Rattle.walk.proofs.Pages.{memb_left, memb_right, memb_neither, first-none, none_first}
use Rattle.walk.proofs.SoundLaws as walk-laws
use Rattle.walk.proofs.Theorems.{pages_exact}
use Rattle.view.specs.declared.Fault.{Fault}
use Rattle.view.specs.Geometry.{geometry_bad, SoundSizes}
use Rattle.view.specs.View.{view_of, pages_at, pages_of}
use Rattle.view.proofs.GeometryLaws.{geometry_sizes, sizes_geometry}
use Rattle.view.specs.Fault.{fault_at}
use Rattle.judge.specs.declared.Counts.{Counts}
use Rattle.judge.specs.Judge.{Judged, counts, free_header_bad, id_at, id_outside, id_not_above, id_marked, ids_of, freelist_of, judged_of, refused_if_twice, after_tree, judge_of, Passes}
use Rattle.tree.specs.Sound.{UsedFrom, SoundFreelist, SoundImage}
use Rattle.view.proofs.ViewLaws.{checked}
use Rattle.tree.proofs.UsedPages.{block_iff, used_iff}

-- ---- tests
clash : {A : Type 0} (t : Bool) → t ≡ true → t ≡ false → A
clash t e h = absurd (let z : ◌≡◌ {A = ℕ} 0 1 = cc in omega arith)

refute : (t : Bool) → (t ≡ true → ⊥) → t ≡ false
refute true h = absurd (h refl)
refute false h = refl

-- ---- a judge that passes, taken apart
-- the freelist page's part, after a tree whose blocks have the pages vs
pub record Listed (image : List ℕ) (P N f : ℕ) (vs : List ℕ) : Type 0 where
  pub bounds : inside N f ≡ true
  pub header : free_header_bad N f (drop (f * P) image) ≡ false
  pub apart : first_in (pages_at image P f) vs ≡ none
  pub ids : ids_of N (pages_at image P f ++ vs) (block_of image P f) ≡ Ok tt

pub record Passed (image : List ℕ) (P N root f n k : ℕ) : Type 0 where
  pub sizes : SoundSizes image P N
  pub visited : List ℕ
  pub walked : walk N (pages_of image P N) (view_of image P N) 16 true root [] none [] ≡ pass n visited
  pub listed : Listed image P N f visited
  pub pages : k ≡ length (pages_at image P f ++ visited)

module _ {n k : ℕ} where
  cond_passed : (t : Bool) (x : Fault) (j : Judged) → cond t (Err x) j ≡ Ok (counts n k) → (t ≡ false) × (j ≡ Ok (counts n k))
  cond_passed true x j e = absurd (let z : ◌≡◌ {A = ℕ} 0 1 = cc in omega arith)
  cond_passed false x j e = (refl, e)

  twice_passed : (o : Option ℕ) (j : Judged) → refused_if_twice o j ≡ Ok (counts n k) → (o ≡ none) × (j ≡ Ok (counts n k))
  twice_passed none j e = (refl, e)
  twice_passed (some q) j e = absurd (let z : ◌≡◌ {A = ℕ} 0 1 = cc in omega arith)

  ids_passed : (v : Verdict) (f m l : ℕ) → judged_of v f m l ≡ Ok (counts n k) → (v ≡ Ok tt) × (m ≡ n) × (k ≡ l)
  ids_passed (Ok u) f m l e =
      let same : counts m l ≡ counts n k = cc in
      (refl, ap (λ (c : Counts). c.entries) same, ap (λ (c : Counts). c.pages) (sym same))
  ids_passed (Err b) f m l e = absurd (let z : ◌≡◌ {A = ℕ} 0 1 = cc in omega arith)

module _ (image : List ℕ) (P N root f n k : ℕ) where
  list_passed : (m : ℕ) (vs : List ℕ) → freelist_of image P N f m vs ≡ Ok (counts n k)
      → Listed image P N f vs × (m ≡ n) × (k ≡ length (pages_at image P f ++ vs))
  unfolding freelist_of
  list_passed m vs e =
      let i = cond_passed (not (inside N f)) (fault_at PageNumber f 0 0) _ e in
      let h = cond_passed (free_header_bad N f (drop (f * P) image)) (fault_at Header f 0 0) _ i.1 in
      let o = twice_passed (first_in (pages_at image P f) vs) _ h.1 in
      let v = ids_passed (ids_of N (pages_at image P f ++ vs) (block_of image P f)) f m (length (pages_at image P f ++ vs)) o.1 in
      (record { bounds = not-false _ i.0; header = h.0; apart = o.0; ids = v.0 }, v.1, v.2)

  passed_list : (vs : List ℕ) → Listed image P N f vs → freelist_of image P N f n vs ≡ Ok (counts n (length (pages_at image P f ++ vs)))
  unfolding freelist_of
  passed_list vs l = rw (l.bounds, l.header, l.apart, l.ids)

  pub judge_passed : judge_of image P N root f ≡ Ok (counts n k) → Passed image P N root f n k
  unfolding judge_of
  judge_passed e =
      let g = cond_passed (geometry_bad image P N) (fault_at Geometry 0 0 0) _ e in
      go (geometry_sizes image P N g.0) (walk N (pages_of image P N) (view_of image P N) 16 true root [] none []) refl g.1
    where
      go : SoundSizes image P N → (w : Walk) → walk N (pages_of image P N) (view_of image P N) 16 true root [] none [] ≡ w
          → after_tree image P N f w ≡ Ok (counts n k) → Passed image P N root f n k
      go s (pass m vs) q h =
          let x = list_passed m vs h in
          record { sizes = s; visited = vs; walked = q ∙ ap (λ (i : ℕ). pass i vs) x.1; listed = x.0; pages = x.2 }
      go s (fault r p i c) q h = absurd (let z : ◌≡◌ {A = ℕ} 0 1 = cc in omega arith)

  pub passed_judge : Passed image P N root f n k → judge_of image P N root f ≡ Ok (counts n k)
  unfolding judge_of
  passed_judge p = rw (sizes_geometry image P N p.sizes, p.walked) (passed_list p.visited p.listed ∙ ap (λ (m : ℕ). Ok (counts n m)) (sym p.pages))

module _ (image : List ℕ) (P N root n : ℕ) (vs : List ℕ) (walked : walk N (pages_of image P N) (view_of image P N) 16 true root [] none [] ≡ pass n vs) where
  -- ---- the tree
  pub walked_sound : walk-specs.Sound (view_of image P N) (pages_of image P N) N 16 root true [] none
  walked_sound = (walk-laws.passes_iff_sound N (pages_of image P N) (view_of image P N) root).0 (n, vs, walked)

  -- the pages visited are those used
  pub visited_iff : (k : ℕ) → (memb k vs ≡ true) ↔ UsedFrom image P N root k
  visited_iff k =
      let x = pages_exact N (pages_of image P N) (view_of image P N) (checked image P N) root n vs walked k in
      let u = used_iff image P N root walked_sound k in
      (λ e. u.0 (x.0 e), λ h. x.1 (u.1 h))

  -- ---- the freelist page
  module _ (f : ℕ) where
    abbrev s : List ℕ
    s = drop (f * P) image

    abbrev b : List ℕ
    b = block_of image P f

    within : (q : ℕ) → inside N q ≡ true → (2 ≤ q) × (q < N)
    within q e = let a = and_both (leb 2 q) (ltb q N) e in (leb-true _ _ a.0, ltb-true _ _ a.1)

    inside_of : (q : ℕ) → 2 ≤ q → q < N → inside N q ≡ true
    inside_of q l m = rw (le-leb 2 q l, lt-ltb q N m)

    sound_listed : SoundFreelist image P N root f → Listed image P N f vs
    unfolding free_header_bad ids_of
    sound_listed t =
        record {
          bounds = inside_of f t.from2 t.below_n;
          header = rw (eq-eqb (id_of s) f t.id, eq-eqb (type_of s) 4 t.type, lt-leb N (f + overflow_of s) t.whole);
          apart = none_first (pages_at image P f) vs (λ k e. refute (memb k vs) (λ v. t.apart k ((block_iff image P f k).0 e) ((visited_iff k).0 v)));
          ids =
              rw (le-ltb (length b) (32 + 8 * count_of b) t.table)
              (rw (none_bad (id_outside N b) no_common Element (count_of b) 0 (λ j l m. ap not (inside_of (id_at b j) (t.id_from2 j (omega arith)) (t.id_below_n j (omega arith)))))
              (rw (none_bad (id_not_above b) no_common KeyOrder (count_of b - 1) 1 (λ j l m. ap not (before j l (omega arith))))
              (none_bad (id_marked (pages_at image P f ++ vs) b) no_common UsedTwice (count_of b) 0
              (λ j l m.
              memb_neither (id_at b j) (pages_at image P f) vs
              (refute (memb (id_at b j) (pages_at image P f)) (λ e. t.not_own j (omega arith) ((block_iff image P f (id_at b j)).0 e)))
              (refute (memb (id_at b j) vs) (λ e. t.unused j (omega arith) ((visited_iff (id_at b j)).0 e)))))));
        }
      where
        before : (j : ℕ) → 1 ≤ j → j < count_of b → ltb (id_at b (j - 1)) (id_at b j) ≡ true
        before j l m =
            let e : j - 1 + 1 ≡ j = omega arith in
            let r : id_at b (j - 1) < id_at b (j - 1 + 1) = t.rising (j - 1) (omega arith) in
            lt-ltb _ _ (rw e at r)

    listed_sound : Listed image P N f vs → SoundFreelist image P N root f
    unfolding free_header_bad ids_of
    listed_sound x =
        let h0 = or_neither (not (eqb (id_of s) f)) _ x.header in
        let h1 = or_neither (not (eqb (type_of s) 4)) (leb N (f + overflow_of s)) h0.1 in
        let u4 = breach_if_sound (ltb (length b) (32 + 8 * count_of b)) Table _ x.ids in
        let a5 = and_sound (first_bad (id_outside N b) no_common Element (count_of b) 0) _ u4.1 in
        let a6 = and_sound (first_bad (id_not_above b) no_common KeyOrder (count_of b - 1) 1) (first_bad (id_marked (pages_at image P f ++ vs) b) no_common UsedTwice (count_of b) 0) a5.1 in
        let w = within f x.bounds in
        let id_in : (i : ℕ) → i < count_of b → (2 ≤ id_at b i) × (id_at b i < N) =
        λ i l. within (id_at b i) (not-false _ (bad_none_at (id_outside N b) no_common Element (count_of b) 0 a5.0 i (omega arith) (omega arith))) in
        let unmarked : (i : ℕ) → i < count_of b → memb (id_at b i) (pages_at image P f ++ vs) ≡ false =
        λ i l. bad_none_at (id_marked (pages_at image P f ++ vs) b) no_common UsedTwice (count_of b) 0 a6.1 i (omega arith) (omega arith) in
        record {
          from2 = w.0;
          below_n = w.1;
          id = eqb-true _ _ (not-false _ h0.0);
          type = eqb-true _ _ (not-false _ h1.0);
          whole = leb-false _ _ h1.1;
          apart = λ k o u. clash (memb k vs) ((visited_iff k).1 u) (first-none (pages_at image P f) vs x.apart k ((block_iff image P f k).1 o));
          table = ltb-false _ _ u4.0;
          id_from2 = λ i l. (id_in i l).0;
          id_below_n = λ i l. (id_in i l).1;
          rising = λ i l.
              let j : i + 1 - 1 ≡ i = omega arith in
              let r : ltb (id_at b (i + 1 - 1)) (id_at b (i + 1)) ≡ true = not-false _ (bad_none_at (id_not_above b) no_common KeyOrder (count_of b - 1) 1 a6.0 (i + 1) (omega arith) (omega arith)) in
              ltb-true _ _ (rw j at r);
          unused = λ i l u. clash (memb (id_at b i) (pages_at image P f ++ vs)) (memb_right (id_at b i) (pages_at image P f) vs ((visited_iff (id_at b i)).1 u)) (unmarked i l);
          not_own = λ i l o. clash (memb (id_at b i) (pages_at image P f ++ vs)) (memb_left (id_at b i) (pages_at image P f) vs ((block_iff image P f (id_at b i)).1 o)) (unmarked i l);
        }

-- ---- the whole image
pub passes_iff_sound : (image : List ℕ) (P N root f : ℕ) → Passes image P N root f ↔ SoundImage image P N root f
passes_iff_sound image P N root f = (there, back)
  where
    there : Passes image P N root f → SoundImage image P N root f
    there x =
        let p = judge_passed image P N root f x.entries x.pages x.passed in
        record {
          sizes = p.sizes;
          tree = walked_sound image P N root x.entries p.visited p.walked;
          freelist = listed_sound image P N root x.entries p.visited p.walked f p.listed;
        }

    back : SoundImage image P N root f → Passes image P N root f
    back s =
        let w = (walk-laws.passes_iff_sound N (pages_of image P N) (view_of image P N) root).1 s.tree in
        record {
          entries = w.0;
          pages = length (pages_at image P f ++ w.1);
          passed = passed_judge image P N root f w.0 (length (pages_at image P f ++ w.1))
              (record { sizes = s.sizes; visited = w.1; walked = w.2; listed = sound_listed image P N root w.0 w.1 w.2 f s.freelist; pages = refl });
        }

-- Theorems: every refusal of the judge and of lookup, the full one and the quick one, has a number above 0 (`judge_numbered`, `lookup_numbered`,
-- `quick_numbered`). So a judge that answers 0 has passed the image (`zero_passes`), and on an image that passed every lookup answers 0 (`lookup_zero`,
-- `quick_zero`).
-- 02, order 2: a common beginning above 0 is told by the judge with 6 and 7 alone, by the full lookup with 6 alone, and by the quick lookup and of the freelist
-- never (`judge_common`, `lookup_common`, `quick_common`, `freelist_common`).
-- What is said of refusals comes from one law, over any claim Q on a refusal's cause and common beginning. It holds of the freelist's refusals and the
-- quick lookup's if it holds of each cause with 0 (`freelist_told`, `quick_told`), of the full lookup's if also of `KeyOrder` with any (`lookup_told`), of
-- the judge's if also of `KeyRange` with any (`judge_told`).
-- Assumes nothing.
use mathlib.Core.Path.{◌≡◌, refl, sym, ◌∙◌}
use mathlib.Core.Bool.{Bool, true, false, not, cond, ◌&&◌}
use mathlib.Core.List.{List, [], ◌∷◌, ◌++◌}
use mathlib.Core.Option.{Option, none, some}
use mathlib.Core.Logic.{◌⊎◌, inl, inr}
use Prim.Native.Nat.{ℕ, zero, suc, ◌+◌, ◌-◌, ◌*◌, ◌<◌}
use native.Mathlib.Omega.{arith}
use lib.Dec.{ltb}
use lib.ListN.{length, drop}
use Rattle.std.specs.Prelude.{Ok, Err}
use Rattle.field.specs.declared.refusal.Refusal.{Refusal}
use Rattle.field.specs.declared.refusal.Refusal.TheVariants.{Geometry, PageNumber, Header, Table, Element, KeyOrder, KeyRange, UsedTwice, TooDeep, OutputShort, Argument, Full, Hash, Conflict, NodeTooLarge}
use Rattle.field.specs.Refusal.{number_of}
use Rattle.page.specs.declared.breach.Breach.{Breach}
use Rattle.page.specs.Layout.{count_of, is_leaf}
use Rattle.page.specs.PageRules.{Verdict, breach, and_then, breach_if, no_common, first_bad, table_bad, element_bad, key_bad, common_before, header_bad, block_of, check_of, after_check}
use Rattle.page.proofs.FirstBreach.{breach_first}
use Rattle.walk.specs.Tree.{Key, Item, View, bad, branch, leaf, keys, inside, first_in, Stray, first_out, unless_twice, unless_out, next, Walker, pass, fault, if_passed, walk_all, walk_page, walk, Verdict as Walk}
use Rattle.view.specs.declared.Fault.{Fault}
use Rattle.view.specs.declared.Value.{Value}
use Rattle.view.specs.Geometry.{geometry_bad}
use Rattle.view.specs.View.{elements_view, block_view, view_of, pages_at, pages_of}
use Rattle.view.specs.Fault.{fault_at}
use Rattle.lookup.specs.Lookup.{lookup_of, looked_number}
use Rattle.lookup.specs.Step.{step_of}
use Rattle.lookup.specs.Descent.{Looked, Stepped, descend}
use Rattle.lookup.proofs.StepLaws.{step_bad}
use Rattle.lookup.proofs.DescendLaws.{lookup_steps, descend_by}
use Rattle.quick.specs.Halving.{Halved, halves_of}
use Rattle.quick.specs.Quick.{says_of, block_says, page_says, quick_of}
use Rattle.judge.specs.Judge.{Judged, id_outside, id_not_above, id_marked, free_header_bad, ids_of, freelist_of, judged_of, refused_if_twice, after_tree, judge_of, Passes, judged_number}
use Rattle.tree.proofs.Demand3.{demand3}
use Rattle.tree.proofs.Quick.{quick_is_lookup}

-- each cause has a number above 0
above_0 : (r : Refusal) → 0 < number_of r
above_0 Geometry = omega arith
above_0 PageNumber = omega arith
above_0 Header = omega arith
above_0 Table = omega arith
above_0 Element = omega arith
above_0 KeyOrder = omega arith
above_0 KeyRange = omega arith
above_0 UsedTwice = omega arith
above_0 TooDeep = omega arith
above_0 OutputShort = omega arith
above_0 Argument = omega arith
above_0 Full = omega arith
above_0 Hash = omega arith
above_0 Conflict = omega arith
above_0 NodeTooLarge = omega arith

-- ---- a claim Q on a refusal's cause and common beginning, which holds of each cause with a common beginning of 0
module _ (Q : Refusal → ℕ → Type 0) (plain : (r : Refusal) → Q r 0) where
  -- ---- of a breach
  abbrev Told : Verdict → Type 0
  Told v = (b : Breach) → v ≡ Err b → Q b.refusal b.common

  breach_told : (r : Refusal) (i c : ℕ) → Q r c → Told (Err (breach r i c))
  breach_told r i c q b e = let o : breach r i c ≡ b = cc in rw (sym o) q

  breach_if_told : (t : Bool) (r : Refusal) (v : Verdict) → Told v → Told (breach_if t r v)
  breach_if_told true r v n = breach_told r 0 0 (plain r)
  breach_if_told false r v n = n

  then_told : (v w : Verdict) → Told v → Told w → Told (and_then v w)
  then_told (Ok u) w n m = m
  then_told (Err b) w n m = n

  first_told : (test : ℕ → Bool) (common : ℕ → ℕ) (r : Refusal) (k j : ℕ) → ((i : ℕ) → Q r (common i)) → Told (first_bad test common r k j)
  first_told test common r k j q b e =
      let h = breach_first test common r k j b.refusal b.element b.common e in
      rw (h.0, h.1) (q b.element)

  plain_told : (test : ℕ → Bool) (r : Refusal) (k j : ℕ) → Told (first_bad test no_common r k j)
  plain_told test r k j = first_told test no_common r k j (λ i. plain r)

  check_told : ((c : ℕ) → Q KeyOrder c) → (is_leaf empty_ok : Bool) (b : List ℕ) → Told (check_of is_leaf empty_ok b)
  unfolding check_of
  check_told six is_leaf empty_ok b =
      breach_if_told (table_bad is_leaf empty_ok b) Table _
      (then_told (first_bad (element_bad is_leaf b) no_common Element (count_of b) 0) (first_bad (key_bad is_leaf b) (common_before is_leaf b) KeyOrder (count_of b - 1) 1)
      (plain_told (element_bad is_leaf b) Element (count_of b) 0)
      (first_told (key_bad is_leaf b) (common_before is_leaf b) KeyOrder (count_of b - 1) 1 (λ i. six (common_before is_leaf b i))))

  ids_told : (N : ℕ) (marked b : List ℕ) → Told (ids_of N marked b)
  unfolding ids_of
  ids_told N marked b =
      breach_if_told (ltb (length b) (32 + 8 * count_of b)) Table _
      (then_told (first_bad (id_outside N b) no_common Element (count_of b) 0) _ (plain_told (id_outside N b) Element (count_of b) 0)
      (then_told (first_bad (id_not_above b) no_common KeyOrder (count_of b - 1) 1) (first_bad (id_marked marked b) no_common UsedTwice (count_of b) 0)
      (plain_told (id_not_above b) KeyOrder (count_of b - 1) 1) (plain_told (id_marked marked b) UsedTwice (count_of b) 0)))

  -- ---- of a page that is refused
  abbrev ToldView : (ℕ → Bool → View Value) → Type 0
  ToldView view = (q : ℕ) (t : Bool) (r : Refusal) (i c : ℕ) → view q t ≡ bad r i c → Q r c

  bad_told : (k : Refusal) (j d : ℕ) (r : Refusal) (i c : ℕ) → Q k d → ◌≡◌ {A = View Value} (bad k j d) (bad r i c) → Q r c
  bad_told k j d r i c q h = let u : k ≡ r = cc in let w : d ≡ c = cc in rw (sym u, sym w) q

  view_told : ((c : ℕ) → Q KeyOrder c) → (image : List ℕ) (P N : ℕ) → ToldView (view_of image P N)
  unfolding view_of block_view
  view_told six image P N q t r i c e = go (header_bad N q (drop (q * P) image)) e
    where
      block : (l : Bool) (v : Verdict) → Told v → after_check v bad (elements_view l (q * P) (block_of image P q)) ≡ bad r i c → Q r c
      block true (Ok u) n h = absurd cc
      block false (Ok u) n h = absurd cc
      block l (Err b) n h = bad_told b.refusal b.element b.common r i c (n b refl) h

      go : (h : Bool) → cond h (bad Header 0 0) (block_view (q * P) t (block_of image P q)) ≡ bad r i c → Q r c
      go true h = bad_told Header 0 0 r i c (plain Header) h
      go false h =
          block (is_leaf (block_of image P q)) (check_of (is_leaf (block_of image P q)) (t && is_leaf (block_of image P q)) (block_of image P q))
          (check_told six (is_leaf (block_of image P q)) (t && is_leaf (block_of image P q)) (block_of image P q)) h

  -- ---- of a fault of the walk
  abbrev ToldWalk : Walk → Type 0
  ToldWalk w = (r : Refusal) (p i c : ℕ) → w ≡ fault r p i c → Q r c

  walk_fault_told : (k : Refusal) (q j d : ℕ) → Q k d → ToldWalk (fault k q j d)
  walk_fault_told k q j d f r p i c h = let u : k ≡ r = cc in let w : d ≡ c = cc in rw (sym u, sym w) f

  all_told : (cs : List (Item ℕ)) (go : Walker) → ((p : ℕ) (low : Key) (high : Option Key) (vs : List ℕ) → ToldWalk (go p low high vs))
      → (high : Option Key) (n : ℕ) (vs : List ℕ) → ToldWalk (walk_all go cs high n vs)
  unfolding walk_all
  all_told [] go f high n vs r p i m e = absurd cc
  all_told (c ∷ cs) go f high n vs r p i m e = step (go c.value c.key (next cs high) vs) (f c.value c.key (next cs high) vs) (λ k ws. all_told cs go f high (n + k) ws) e
    where
      step : (w : Walk) → ToldWalk w → ((k : ℕ) (ws : List ℕ) → ToldWalk (walk_all go cs high (n + k) ws)) → if_passed w (λ k ws. walk_all go cs high (n + k) ws) ≡ fault r p i m → Q r m
      step (pass k ws) g ih h = ih k ws r p i m h
      step (fault k q j d) g ih h = g r p i m h

  module _ (seven : (c : ℕ) → Q KeyRange c) (N : ℕ) (block : ℕ → List ℕ) (view : ℕ → Bool → View Value) (viewed : ToldView view) where
    walk_told : (d : ℕ) (t : Bool) (q : ℕ) (low : Key) (high : Option Key) (vs : List ℕ) → ToldWalk (walk N block view d t q low high vs)
    unfolding walk walk_page
    walk_told zero t q low high vs r p i c e = walk_fault_told TooDeep q 0 0 (plain TooDeep) r p i c e
    walk_told (suc d) t q low high vs r p i c e = go (inside N q) (first_in (block q) vs) e (λ a x y z. walk_told d false a x y z)
      where
        ranged : (o : Option Stray) (w : Walk) → ToldWalk w → unless_out o q w ≡ fault r p i c → Q r c
        ranged none w f h = f r p i c h
        ranged (some j) w f h = walk_fault_told KeyRange q j.index j.common (seven j.common) r p i c h

        passes : (n : ℕ) (ws : List ℕ) → ToldWalk (pass n ws)
        passes n ws k a b m h = absurd cc

        page : (v : View Value) → view q t ≡ v → ((a : ℕ) (x : Key) (y : Option Key) (z : List ℕ) → ToldWalk (walk N block view d false a x y z))
            → walk_page (walk N block view d false) v q low high (block q ++ vs) ≡ fault r p i c → Q r c
        page (bad k j m) f ih h = walk_fault_told k q j m (viewed q t k j m f) r p i c h
        page (branch cs) f ih h = ranged (first_out low high (keys cs) 0) (walk_all (walk N block view d false) cs high 0 (block q ++ vs)) (all_told cs (walk N block view d false) ih high 0 (block q ++ vs)) h
        page (leaf es) f ih h = ranged (first_out low high (keys es) 0) (pass (length es) (block q ++ vs)) (passes (length es) (block q ++ vs)) h

        go : (a : Bool) (o : Option ℕ)
            → cond a (unless_twice o (walk_page (walk N block view d false) (view q t) q low high (block q ++ vs))) (fault PageNumber q 0 0) ≡ fault r p i c
            → ((a : ℕ) (x : Key) (y : Option Key) (z : List ℕ) → ToldWalk (walk N block view d false a x y z)) → Q r c
        go true (some k) h ih = walk_fault_told UsedTwice k 0 0 (plain UsedTwice) r p i c h
        go true none h ih = page (view q t) refl ih h
        go false o h ih = walk_fault_told PageNumber q 0 0 (plain PageNumber) r p i c h

  -- ---- of what a page says of a key, and so of lookup, the full one and the quick one
  abbrev ToldLooked : Looked → Type 0
  ToldLooked a = (x : Fault) → a ≡ Err x → Q x.refusal x.common

  looked_told : (r : Refusal) (p i c : ℕ) → Q r c → ToldLooked (Err (fault_at r p i c))
  looked_told r p i c q x e = let o : fault_at r p i c ≡ x = cc in rw (sym o) q

  abbrev ToldSteps : (ℕ → Bool → Stepped) → Type 0
  ToldSteps says = (q : ℕ) (t : Bool) (b : Breach) → says q t ≡ Err b → Q b.refusal b.common

  -- geometry, and then a descent
  look_told : (g : Bool) (N root : ℕ) (says : ℕ → Bool → Stepped) → ToldSteps says
      → ToldLooked (cond g (Err (fault_at Geometry 0 0 0)) (descend N says 16 true root))
  look_told true N root says told = looked_told Geometry 0 0 0 (plain Geometry)
  look_told false N root says told =
      descend_by ToldLooked N says
      (λ q. looked_told TooDeep q 0 0 (plain TooDeep)) (λ q. looked_told PageNumber q 0 0 (plain PageNumber))
      (λ q t v h x e. absurd cc) (λ q t h x e. absurd cc)
      (λ q t b h. looked_told b.refusal q b.element b.common (told q t b h))
      16 true root

  -- the full lookup
  pub lookup_told : ((c : ℕ) → Q KeyOrder c) → (image : List ℕ) (P N root : ℕ) (key : Key) (x : Fault) → lookup_of image P N root key ≡ Err x → Q x.refusal x.common
  lookup_told six image P N root key x e =
      look_told (geometry_bad image P N) N root (λ p s. step_of (view_of image P N p s) key)
      (λ q t b h. view_told six image P N q t b.refusal b.element b.common (step_bad (view_of image P N q t) key b h)) x (sym (lookup_steps image P N root key) ∙ e)

  -- the quick lookup, whose pages refuse with `Header`, `Table` and `Element` alone
  says_told : (image : List ℕ) (P N : ℕ) (key : Key) → ToldSteps (page_says image P N key)
  unfolding page_says block_says
  says_told image P N key q t r e =
      let b = block_of image P q in
      go b (header_bad N q (drop (q * P) image)) (table_bad (is_leaf b) (t && is_leaf b) b) (is_leaf b) (halves_of (is_leaf b) b key) r e
    where
      refuses : (k : Refusal) (i : ℕ) (r : Breach) → ◌≡◌ {A = Stepped} (Err (breach k i 0)) (Err r) → Q r.refusal r.common
      refuses k i r f = let o : breach k i 0 ≡ r = cc in rw (sym o) (plain k)

      go : (b : List ℕ) (h s l : Bool) (x : Halved) (r : Breach) → cond h (Err (breach Header 0 0)) (cond s (Err (breach Table 0 0)) (says_of l (q * P) b x)) ≡ Err r
          → Q r.refusal r.common
      go b true s l x r f = refuses Header 0 r f
      go b false true l x r f = refuses Table 0 r f
      go b false false l (Err i) r f = refuses Element i r f
      go b false false true (Ok place) r f = absurd cc
      go b false false false (Ok place) r f = absurd cc

  pub quick_told : (image : List ℕ) (P N root : ℕ) (key : Key) (x : Fault) → quick_of image P N root key ≡ Err x → Q x.refusal x.common
  unfolding quick_of
  quick_told image P N root key = look_told (geometry_bad image P N) N root (page_says image P N key) (says_told image P N key)

  -- ---- of the judge
  abbrev ToldJudged : Judged → Type 0
  ToldJudged j = (x : Fault) → j ≡ Err x → Q x.refusal x.common

  refused_told : (r : Refusal) (p i c : ℕ) → Q r c → ToldJudged (Err (fault_at r p i c))
  refused_told r p i c q x e = let o : fault_at r p i c ≡ x = cc in rw (sym o) q

  cond_told : (t : Bool) (i j : Judged) → ToldJudged i → ToldJudged j → ToldJudged (cond t i j)
  cond_told true i j a b = a
  cond_told false i j a b = b

  twice_told : (o : Option ℕ) (j : Judged) → ToldJudged j → ToldJudged (refused_if_twice o j)
  twice_told none j a = a
  twice_told (some q) j a = refused_told UsedTwice q 0 0 (plain UsedTwice)

  verdict_told : (v : Verdict) (f n k : ℕ) → Told v → ToldJudged (judged_of v f n k)
  verdict_told (Ok u) f n k m x e = absurd cc
  verdict_told (Err b) f n k m x e = refused_told b.refusal f b.element b.common (m b refl) x e

  pub freelist_told : (image : List ℕ) (P N f n : ℕ) (vs : List ℕ) (x : Fault) → freelist_of image P N f n vs ≡ Err x → Q x.refusal x.common
  unfolding freelist_of
  freelist_told image P N f n vs =
      cond_told (not (inside N f)) _ _ (refused_told PageNumber f 0 0 (plain PageNumber))
      (cond_told (free_header_bad N f (drop (f * P) image)) _ _ (refused_told Header f 0 0 (plain Header))
      (twice_told (first_in (pages_at image P f) vs) _
      (verdict_told (ids_of N (pages_at image P f ++ vs) (block_of image P f)) f n (length (pages_at image P f ++ vs))
      (ids_told N (pages_at image P f ++ vs) (block_of image P f)))))

  pub judge_told : ((c : ℕ) → Q KeyOrder c) → ((c : ℕ) → Q KeyRange c) → (image : List ℕ) (P N root f : ℕ) (x : Fault) → judge_of image P N root f ≡ Err x → Q x.refusal x.common
  unfolding judge_of
  judge_told six seven image P N root f =
      cond_told (geometry_bad image P N) _ _ (refused_told Geometry 0 0 0 (plain Geometry))
      (tree (walk N (pages_of image P N) (view_of image P N) 16 true root [] none [])
      (walk_told seven N (pages_of image P N) (view_of image P N) (view_told six image P N) 16 true root [] none []))
    where
      tree : (w : Walk) → ToldWalk w → ToldJudged (after_tree image P N f w)
      tree (pass n vs) g = freelist_told image P N f n vs
      tree (fault r p i c) g = refused_told r p i c (g r p i c refl)

-- ---- refusals are numbered from 1
pub lookup_numbered : (image : List ℕ) (P N root : ℕ) (key : Key) (x : Fault) → lookup_of image P N root key ≡ Err x → 0 < number_of x.refusal
lookup_numbered image P N root key x e = above_0 x.refusal

-- the quick lookup's too
pub quick_numbered : (image : List ℕ) (P N root : ℕ) (key : Key) (x : Fault) → quick_of image P N root key ≡ Err x → 0 < number_of x.refusal
quick_numbered image P N root key x e = above_0 x.refusal

pub judge_numbered : (image : List ℕ) (P N root f : ℕ) (x : Fault) → judge_of image P N root f ≡ Err x → 0 < number_of x.refusal
judge_numbered image P N root f x e = above_0 x.refusal

-- ---- 02, order 2: a common beginning is told with 6 and 7, 0 for freelist ids, and 0 with every other number
pub freelist_common : (image : List ℕ) (P N f n : ℕ) (vs : List ℕ) (x : Fault) → freelist_of image P N f n vs ≡ Err x → x.common ≡ 0
freelist_common = freelist_told (λ r c. c ≡ 0) (λ r. refl)

pub lookup_common : (image : List ℕ) (P N root : ℕ) (key : Key) (x : Fault) → lookup_of image P N root key ≡ Err x → 0 < x.common → x.refusal ≡ KeyOrder
lookup_common = lookup_told (λ r c. 0 < c → r ≡ KeyOrder) (λ r z. absurd (omega arith)) (λ c z. refl)

-- the quick lookup compares no two keys of a page, and tells 0
pub quick_common : (image : List ℕ) (P N root : ℕ) (key : Key) (x : Fault) → quick_of image P N root key ≡ Err x → x.common ≡ 0
quick_common = quick_told (λ r c. c ≡ 0) (λ r. refl)

pub judge_common : (image : List ℕ) (P N root f : ℕ) (x : Fault) → judge_of image P N root f ≡ Err x → 0 < x.common → (x.refusal ≡ KeyOrder) ⊎ (x.refusal ≡ KeyRange)
judge_common = judge_told (λ r c. 0 < c → (r ≡ KeyOrder) ⊎ (r ≡ KeyRange)) (λ r z. absurd (omega arith)) (λ c z. inl refl) (λ c z. inr refl)

-- ---- answers of 0
-- a judge that answers 0 has passed
pub zero_passes : (image : List ℕ) (P N root f : ℕ) → judged_number (judge_of image P N root f) ≡ 0 → Passes image P N root f
zero_passes image P N root f e = go (judge_of image P N root f) refl e
  where
    go : (j : Judged) → judge_of image P N root f ≡ j → judged_number j ≡ 0 → Passes image P N root f
    go (Ok c) h z = record { entries = c.entries; pages = c.pages; passed = h }
    go (Err x) h z = absurd (let l = judge_numbered image P N root f x h in omega arith)

-- ---- and then every lookup answers 0
pub lookup_zero : (image : List ℕ) (P N root f : ℕ) → Passes image P N root f → (key : Key) → looked_number (lookup_of image P N root key) ≡ 0
lookup_zero image P N root f passes key = go (lookup_of image P N root key) refl
  where
    go : (a : Looked) → lookup_of image P N root key ≡ a → looked_number a ≡ 0
    go (Ok value) e = refl
    go (Err x) e = absurd ((demand3 image P N root f passes).never_refused key x e)

-- the quick lookup as well
pub quick_zero : (image : List ℕ) (P N root f : ℕ) → Passes image P N root f → (key : Key) → looked_number (quick_of image P N root key) ≡ 0
quick_zero image P N root f passes key = rw (quick_is_lookup image P N root f passes key) (lookup_zero image P N root f passes key)

-- A page's own verdict in the judge's walk, by its block's check and range; and the freelist page's, rule by rule.
-- Assumes nothing.
use mathlib.Core.Path.{◌≡◌, refl, sym, ap, ◌∙◌}
use mathlib.Core.Bool.{Bool, true, false, not}
use mathlib.Core.List.{List, ◌++◌}
use mathlib.Core.Option.{Option, none, some}
use Prim.Native.Nat.{ℕ, ◌+◌, ◌-◌, ◌*◌, ◌≤◌, ◌<◌}
use native.Mathlib.Omega.{arith}
use borrow.Author.Tests.{lt-ltb, le-ltb, leb-false, not-false}
use lib.Dec.{leb, eqb}
use lib.ListN.{length, drop}
use Rattle.std.specs.Prelude.{Ok, Err}
use Rattle.std.specs.declared.result.Result.{Result}
use Rattle.field.specs.declared.refusal.Refusal.TheVariants.{PageNumber, Header, Table, Element, KeyOrder, KeyRange, UsedTwice}
use Rattle.page.specs.Layout.{id_of, type_of, count_of, overflow_of, is_leaf}
use Rattle.page.specs.PageRules.{Verdict, breach, and_then, no_common, first_bad, header_bad, block_of, check_of}
use Rattle.page.proofs.FirstBreach.{breach_first}
use Rattle.page.proofs.RuleLaws.{bad_none_at}
use Rattle.page.proofs.TestLaws.{or_neither}
use Rattle.walk.specs.Tree.{Key, Item, branch, keys, in_range, common_crossed, inside, first_in, Stray, first_out}
use Rattle.judge.specs.declared.range.Page.{Page}
use Rattle.judge.specs.declared.range.Page.TheVariants.{Branch, Leaf}
use Rattle.view.specs.View.{row, child_item, value_item, view_of, pages_at, pages_of}
use Rattle.view.specs.Fault.{fault_at}
use Rattle.view.specs.declared.Fault.{Fault}
use Rattle.view.specs.Geometry.{SoundSizes}
use Rattle.judge.specs.Judge.{counts, free_header_bad, id_at, id_outside, id_not_above, id_marked, ids_of, freelist_of, judged_of}
use Rattle.judge.specs.Walk.{on_page, key_out, common_out, breach_if_out, judge_page_of, met_of, Branching}
use Rattle.view.proofs.ViewLaws.{length_row, view_branch, view_leaf, bad_header, leaf_bad_lem, branch_bad_lem, leaf_good, branch_good}
use Rattle.view.proofs.PagesLaws.{pages_bad}
use Rattle.judge.proofs.WalkLaws.{meet_page, option_of, out_row, page_branch, page_leaf}
use Rattle.view.proofs.ViewFrame.{header_ends}
use Rattle.view.proofs.ImageLaws.{block_small}
use Rattle.view.proofs.GeometryLaws.{inside_parts}

-- ---- a page of the tree
-- what is said of a page after the verdict on it
abbrev pub unless_bad : Result Unit Fault → Page → Result Page Fault
unless_bad (Ok u) x = Ok x
unless_bad (Err f) x = Err f

out_told : (bad : ℕ → Bool) (common : ℕ → ℕ) (q k i : ℕ) (p : Page) → breach_if_out (option_of (first_bad bad common KeyRange k i)) q p ≡ unless_bad (on_page q (first_bad bad common KeyRange k i)) p
out_told bad common q k i p = go (first_bad bad common KeyRange k i) refl
  where
    go : (v : Verdict) → first_bad bad common KeyRange k i ≡ v → breach_if_out (option_of v) q p ≡ unless_bad (on_page q v) p
    go (Ok u) e = refl
    go (Err b) e = let h = (breach_first bad common KeyRange k i b.refusal b.element b.common e).0 in rw h

ranged : {A : Type 0} (f : ℕ → Item A) (low : Key) (high : Option Key) (q k : ℕ) (p : Page)
    → breach_if_out (first_out low high (keys (row f k 0)) 0) q p ≡ unless_bad (on_page q (first_bad (λ j. not (in_range low high (f j).key)) (λ j. common_crossed low high (f j).key) KeyRange k 0)) p
ranged f low high q k p = ap (λ (o : Option Stray). breach_if_out o q p) (out_row f low high k 0) ∙ out_told (λ j. not (in_range low high (f j).key)) (λ j. common_crossed low high (f j).key) q k 0 p

module _ (image : List ℕ) (P N q : ℕ) (top : Bool) (low : Key) (high : Option Key) where
  module _ (s : List ℕ) (is : s ≡ block_of image P q) (header : header_bad N q (drop (q * P) image) ≡ false) where
    pub leaf_page : is_leaf s ≡ true
        → judge_page_of (view_of image P N q top) q low high ≡ unless_bad (on_page q (and_then (check_of true top s) (first_bad (key_out true s low high) (common_out true s low high) KeyRange (count_of s) 0))) (Leaf (count_of s))
    unfolding judge_page_of
    leaf_page l = go (check_of true top s) refl
      where
        go : (c : Verdict) → check_of true top s ≡ c
            → judge_page_of (view_of image P N q top) q low high ≡ unless_bad (on_page q (and_then c (first_bad (key_out true s low high) (common_out true s low high) KeyRange (count_of s) 0))) (Leaf (count_of s))
        go (Err b) c = rw (leaf_bad_lem image P N q top s is header b.refusal b.element b.common l c)
        go (Ok u) c =
            rw (leaf_good image P N q top s is header l c, length_row (value_item (q * P) s) (count_of s) 0)
            (ranged (value_item (q * P) s) low high q (count_of s) (Leaf (count_of s)))

    pub branch_page : is_leaf s ≡ false
        → judge_page_of (view_of image P N q top) q low high ≡ unless_bad (on_page q (and_then (check_of false false s) (first_bad (key_out false s low high) (common_out false s low high) KeyRange (count_of s) 0))) (Branch (count_of s))
    unfolding judge_page_of
    branch_page l = go (check_of false false s) refl
      where
        go : (c : Verdict) → check_of false false s ≡ c
            → judge_page_of (view_of image P N q top) q low high ≡ unless_bad (on_page q (and_then c (first_bad (key_out false s low high) (common_out false s low high) KeyRange (count_of s) 0))) (Branch (count_of s))
        go (Err b) c = rw (branch_bad_lem image P N q top s is header b.refusal b.element b.common l c)
        go (Ok u) c =
            rw (branch_good image P N q top s is header l c, length_row (child_item s) (count_of s) 0)
            (ranged (child_item s) low high q (count_of s) (Branch (count_of s)))

-- a page with a bad header has no block, and is refused for its header
pub meet_header : (image : List ℕ) (P N q left : ℕ) (top : Bool) (low : Key) (high : Option Key) (vs : List ℕ)
    → 0 < left → inside N q ≡ true → header_bad N q (drop (q * P) image) ≡ true
    → met_of N (pages_of image P N) (view_of image P N) left top q low high vs ≡ Err (fault_at Header q 0 0)
unfolding first_in judge_page_of
meet_header image P N q left top low high vs spare within e =
    meet_page N (pages_of image P N) (view_of image P N) left top q low high vs spare within (ap (λ (ps : List ℕ). first_in ps vs) (pages_bad image P N q e))
    ∙ rw (bad_header image P N q top e)

-- ---- the freelist block
module _ (N : ℕ) (b vs : List ℕ) where
  pub ids_short : length b < 32 + 8 * count_of b → ids_of N vs b ≡ Err (breach Table 0 0)
  unfolding ids_of
  ids_short l = rw (lt-ltb (length b) (32 + 8 * count_of b) l)

  pub ids_long : 32 + 8 * count_of b ≤ length b
      → ids_of N vs b
      ≡ and_then (first_bad (id_outside N b) no_common Element (count_of b) 0) (and_then (first_bad (id_not_above b) no_common KeyOrder (count_of b - 1) 1) (first_bad (id_marked vs b) no_common UsedTwice (count_of b) 0))
  unfolding ids_of
  ids_long l = rw (le-ltb (length b) (32 + 8 * count_of b) l)

pub ids_inside : (N : ℕ) (b : List ℕ) → first_bad (id_outside N b) no_common Element (count_of b) 0 ≡ Ok tt → (i : ℕ) → i < count_of b → id_at b i < N
ids_inside N b e i l = (inside_parts N (id_at b i) (not-false _ (bad_none_at (id_outside N b) no_common Element (count_of b) 0 e i (omega arith) (omega arith)))).1

-- ---- the freelist page
pub free_ends : (N f : ℕ) (s : List ℕ) → free_header_bad N f s ≡ false → f + overflow_of s < N
unfolding free_header_bad
free_ends N f s e =
    let a = or_neither (not (eqb (id_of s) f)) _ e in
    let b = or_neither (not (eqb (type_of s) 4)) (leb N (f + overflow_of s)) a.1 in
    leb-false _ _ b.1

module _ (image : List ℕ) (P N f entries : ℕ) (vs : List ℕ) where
  pub list_outside : inside N f ≡ false → freelist_of image P N f entries vs ≡ Err (fault_at PageNumber f 0 0)
  unfolding freelist_of
  list_outside e = rw e

  module _ (within : inside N f ≡ true) where
    pub list_header : free_header_bad N f (drop (f * P) image) ≡ true → freelist_of image P N f entries vs ≡ Err (fault_at Header f 0 0)
    unfolding freelist_of
    list_header h = rw (within, h)

    module _ (header : free_header_bad N f (drop (f * P) image) ≡ false) where
      pub list_twice : (page : ℕ) → first_in (pages_at image P f) vs ≡ some page → freelist_of image P N f entries vs ≡ Err (fault_at UsedTwice page 0 0)
      unfolding freelist_of
      list_twice page e = rw (within, header, e)

      pub list_ids : first_in (pages_at image P f) vs ≡ none
          → freelist_of image P N f entries vs
          ≡ judged_of (ids_of N (pages_at image P f ++ vs) (block_of image P f)) f entries (length (pages_at image P f ++ vs))
      unfolding freelist_of
      list_ids e = rw (within, header, e)

-- the judge's answer, by the verdict on the ids as one on the freelist page
pub judged_on_page : (v : Verdict) (f entries pages : ℕ)
    → ((x : Fault) → on_page f v ≡ Err x → judged_of v f entries pages ≡ Err x) × (on_page f v ≡ Ok tt → judged_of v f entries pages ≡ Ok (counts entries pages))
judged_on_page (Ok u) f entries pages = (λ x e. absurd (let z : ◌≡◌ {A = ℕ} 0 1 = cc in omega arith), λ e. refl)
judged_on_page (Err b) f entries pages = (λ x e. ap Err (cc), λ e. absurd (let z : ◌≡◌ {A = ℕ} 0 1 = cc in omega arith))

-- ---- what a page's verdict says of its block
module _ (image : List ℕ) (P N q : ℕ) (top : Bool) (low : Key) (high : Option Key) (n : ℕ) where
  pub told_branch : judge_page_of (view_of image P N q top) q low high ≡ Ok (Branch n)
      → Branching image P N q n × (view_of image P N q top ≡ branch (row (child_item (block_of image P q)) n 0))
  told_branch e =
      let x = page_branch (view_of image P N q top) q low high n e in
      let b = view_branch image P N q top x.0 x.1 in
      let c : n ≡ count_of (block_of image P q) = sym x.2 ∙ ap length b.items ∙ length_row (child_item (block_of image P q)) (count_of (block_of image P q)) 0 in (
        record { ends = header_ends N q (drop (q * P) image) b.header; sound = b.sound; counted = c },
        x.1 ∙ ap branch (b.items ∙ ap (λ (k : ℕ). row (child_item (block_of image P q)) k 0) (sym c)),
      )

  -- a leaf has fewer entries than the image has bytes
  pub few_entries : SoundSizes image P N → judge_page_of (view_of image P N q top) q low high ≡ Ok (Leaf n) → n ≤ 2147483648
  few_entries sizes e =
      let x = page_leaf (view_of image P N q top) q low high n e in
      let b = view_leaf image P N q top x.0 x.1 in
      let c : n ≡ count_of (block_of image P q) = sym x.2 ∙ ap length b.items ∙ length_row (value_item (q * P) (block_of image P q)) (count_of (block_of image P q)) 0 in
      let f = b.sound.fits in
      let l = block_small image P N q sizes (header_ends N q (drop (q * P) image) b.header) in
      omega arith

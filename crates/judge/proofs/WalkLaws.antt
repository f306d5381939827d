-- The judge's walk, step by step: one page's verdict, and the children in a row.
-- Assumes nothing.
use mathlib.Core.Path.{◌≡◌, refl, sym, ap, ◌∙◌}
use mathlib.Core.Bool.{Bool, true, false, cond, not}
use mathlib.Core.List.{List, ◌++◌}
use mathlib.Core.Option.{Option, none, some}
use Prim.Native.Nat.{ℕ, zero, suc, ◌+◌, ◌-◌, ◌≤◌, ◌<◌}
use native.Mathlib.Numerals.{add-one}
use native.Mathlib.Omega.{arith}
use borrow.Author.Tests.{lt-ltb, le-ltb}
use lib.Dec.{ltb}
use lib.ListN.{length}
use Rattle.std.specs.Prelude.{Ok, Err}
use Rattle.std.specs.declared.result.Result.{Result}
use Rattle.field.specs.declared.refusal.Refusal.TheVariants.{PageNumber, KeyRange, UsedTwice, TooDeep}
use Rattle.page.specs.PageRules.{Verdict, breach, first_bad}
use Rattle.walk.specs.Tree.{Key, Item, View, bad, branch, leaf, keys, in_range, common_crossed, inside, first_in, Stray, stray, first_out, unless_out, next, Walker, pass, fault, walk_all, walk_page, walk, Verdict as Walk}
use Rattle.view.specs.declared.Fault.{Fault}
use Rattle.view.specs.declared.Value.{Value}
use Rattle.judge.specs.declared.range.Page.{Page}
use Rattle.judge.specs.declared.range.Page.TheVariants.{Branch, Leaf}
use Rattle.view.specs.Fault.{fault_at}
use Rattle.view.specs.View.{row}
use Rattle.judge.specs.Walk.{breach_if_out, breach_if_twice, judge_page_of, met_of, Marks, Says}

-- a fault, as the walk's verdict
abbrev pub faulted : Fault → Walk
faulted f = fault f.refusal f.page f.element f.common

-- two answers with one fault
same_fault : {A : Type 0} (f g : Fault) → ◌≡◌ {A = Result A Fault} (Err f) (Err g) → faulted f ≡ faulted g
same_fault f g e = ap faulted (cc)

-- no answer is a fault and none
pub never_both : {A B : Type 0} (r : Result A Fault) (f : Fault) (x : A) → r ≡ Err f → r ≡ Ok x → B
never_both r f x b p = absurd (let z : ◌≡◌ {A = ℕ} 0 1 = cc in omega arith)

-- ---- one page, with `left` levels to spend
module _ (N : ℕ) (block : ℕ → List ℕ) (view : ℕ → Bool → View Value) (q : ℕ) (t : Bool) (low : Key) (high : Option Key) (vs : List ℕ) where
  walk_deep : (left : ℕ) → left ≡ 0 → walk N block view left t q low high vs ≡ fault TooDeep q 0 0
  unfolding walk
  walk_deep left e = rw e

  walk_out : (left : ℕ) → 0 < left → inside N q ≡ false → walk N block view left t q low high vs ≡ fault PageNumber q 0 0
  unfolding walk
  walk_out zero l e = absurd (omega arith)
  walk_out (suc d) l e = rw e

  walk_twice : (left : ℕ) → 0 < left → inside N q ≡ true → (page : ℕ) → first_in (block q) vs ≡ some page → walk N block view left t q low high vs ≡ fault UsedTwice page 0 0
  unfolding walk
  walk_twice zero l e page m = absurd (omega arith)
  walk_twice (suc d) l e page m = rw (e, m)

  walks : (left : ℕ) → 0 < left → inside N q ≡ true → first_in (block q) vs ≡ none
      → walk N block view left t q low high vs ≡ walk_page (walk N block view (left - 1) false) (view q t) q low high (block q ++ vs)
  unfolding walk
  walks zero l e m = absurd (omega arith)
  walks (suc d) l e m = let k : suc d - 1 ≡ d = omega arith in rw (e, m, k)

  module _ (left : ℕ) (spare : 0 < left) (within : inside N q ≡ true) (fresh : first_in (block q) vs ≡ none) where
    walk_breach : (f : Fault) → judge_page_of (view q t) q low high ≡ Err f → walk N block view left t q low high vs ≡ faulted f
    unfolding walk_page judge_page_of
    walk_breach f e = walks left spare within fresh ∙ go (view q t) e
      where
        out : (o : Option Stray) (x : Page) (v : Walk) → breach_if_out o q x ≡ Err f → unless_out o q v ≡ faulted f
        out none x v h = never_both (Ok x) f x h refl
        out (some j) x v h = same_fault (fault_at KeyRange q j.index j.common) f h

        go : (v : View Value) → judge_page_of v q low high ≡ Err f → walk_page (walk N block view (left - 1) false) v q low high (block q ++ vs) ≡ faulted f
        go (bad s x y) h = same_fault (fault_at s q x y) f h
        go (branch cs) h = out (first_out low high (keys cs) 0) (Branch (length cs)) _ h
        go (leaf es) h = out (first_out low high (keys es) 0) (Leaf (length es)) _ h

    none_out : (o : Option Stray) (x y : Page) → breach_if_out o q x ≡ Ok y → (o ≡ none) × (x ≡ y)
    none_out none x y h = (refl, cc)
    none_out (some j) x y h = never_both (breach_if_out (some j) q x) (fault_at KeyRange q j.index j.common) y refl h

    walk_leaf : (n : ℕ) → judge_page_of (view q t) q low high ≡ Ok (Leaf n) → walk N block view left t q low high vs ≡ pass n (block q ++ vs)
    unfolding walk_page judge_page_of
    walk_leaf n e = walks left spare within fresh ∙ go (view q t) e
      where
        go : (v : View Value) → judge_page_of v q low high ≡ Ok (Leaf n) → walk_page (walk N block view (left - 1) false) v q low high (block q ++ vs) ≡ pass n (block q ++ vs)
        go (bad s x y) h = never_both (Err (fault_at s q x y)) (fault_at s q x y) (Leaf n) refl h
        go (branch cs) h = absurd (let o = (none_out (first_out low high (keys cs) 0) (Branch (length cs)) (Leaf n) h).1 in let z : ◌≡◌ {A = ℕ} 0 1 = cc in omega arith)
        go (leaf es) h =
            let o = none_out (first_out low high (keys es) 0) (Leaf (length es)) (Leaf n) h in
            let l : length es ≡ n = (let u = o.1 in cc) in
            rw (o.0, l)

    walk_branch : (n : ℕ) (cs : List (Item ℕ)) → view q t ≡ branch cs → judge_page_of (view q t) q low high ≡ Ok (Branch n)
        → walk N block view left t q low high vs ≡ walk_all (walk N block view (left - 1) false) cs high 0 (block q ++ vs)
    unfolding walk_page judge_page_of
    walk_branch n cs f e =
        let o = (none_out (first_out low high (keys cs) 0) (Branch (length cs)) (Branch n) (rw f at e)).0 in
        walks left spare within fresh ∙ rw (f, o)

-- ---- a page that the walk meets
module _ (N : ℕ) (block : ℕ → List ℕ) (view : ℕ → Bool → View Value) (left : ℕ) (t : Bool) (q : ℕ) (low : Key) (high : Option Key) (vs : List ℕ) where
  -- rule by rule
  pub meet_deep : left ≡ 0 → met_of N block view left t q low high vs ≡ Err (fault_at TooDeep q 0 0)
  unfolding met_of
  meet_deep e = rw e

  met_at : 0 < left → met_of N block view left t q low high vs ≡ cond (inside N q) (breach_if_twice (first_in (block q) vs) (judge_page_of (view q t) q low high)) (Err (fault_at PageNumber q 0 0))
  unfolding met_of
  met_at l = go left l
    where
      go : (d : ℕ) → 0 < d → met_of N block view d t q low high vs ≡ cond (inside N q) (breach_if_twice (first_in (block q) vs) (judge_page_of (view q t) q low high)) (Err (fault_at PageNumber q 0 0))
      go zero h = absurd (omega arith)
      go (suc d) h = refl

  pub meet_out : 0 < left → inside N q ≡ false → met_of N block view left t q low high vs ≡ Err (fault_at PageNumber q 0 0)
  meet_out l i = met_at l ∙ rw i

  pub meet_twice : 0 < left → inside N q ≡ true → (page : ℕ) → first_in (block q) vs ≡ some page → met_of N block view left t q low high vs ≡ Err (fault_at UsedTwice page 0 0)
  meet_twice l i page f = met_at l ∙ rw (i, f)

  pub meet_page : 0 < left → inside N q ≡ true → first_in (block q) vs ≡ none → met_of N block view left t q low high vs ≡ judge_page_of (view q t) q low high
  meet_page l i f = met_at l ∙ rw (i, f)

  -- a verdict that is no breach is the page's own
  pub met_own : (x : Page) → met_of N block view left t q low high vs ≡ Ok x
      → (0 < left) × (inside N q ≡ true) × (first_in (block q) vs ≡ none) × (judge_page_of (view q t) q low high ≡ Ok x)
  unfolding met_of
  met_own x e = levels left e
    where
      breached : {A : Type 0} (f : Fault) → ◌≡◌ {A = Result Page Fault} (Err f) (Ok x) → A
      breached f e = never_both {A = Page} (Err f) f x refl e

      met : (o : Option ℕ) → first_in (block q) vs ≡ o → breach_if_twice o (judge_page_of (view q t) q low high) ≡ Ok x
          → (first_in (block q) vs ≡ none) × (judge_page_of (view q t) q low high ≡ Ok x)
      met (some page) f e = breached (fault_at UsedTwice page 0 0) e
      met none f e = (f, e)

      within : (i : Bool) → inside N q ≡ i → cond i (breach_if_twice (first_in (block q) vs) (judge_page_of (view q t) q low high)) (Err (fault_at PageNumber q 0 0)) ≡ Ok x
          → (inside N q ≡ true) × (first_in (block q) vs ≡ none) × (judge_page_of (view q t) q low high ≡ Ok x)
      within true f e = let m = met (first_in (block q) vs) refl e in (f, m.0, m.1)
      within false f e = breached (fault_at PageNumber q 0 0) e

      levels : (d : ℕ) → met_of N block view d t q low high vs ≡ Ok x → (0 < d) × (inside N q ≡ true) × (first_in (block q) vs ≡ none) × (judge_page_of (view q t) q low high ≡ Ok x)
      levels zero e = breached (fault_at TooDeep q 0 0) e
      levels (suc d) e = let w = within (inside N q) refl e in (omega arith, w.0, w.1, w.2)

  -- and what the walk says then
  pub met_breach : (f : Fault) → met_of N block view left t q low high vs ≡ Err f → walk N block view left t q low high vs ≡ faulted f
  unfolding met_of
  met_breach f e = levels left refl e
    where
      met : 0 < left → inside N q ≡ true → (o : Option ℕ) → first_in (block q) vs ≡ o → breach_if_twice o (judge_page_of (view q t) q low high) ≡ Err f
          → walk N block view left t q low high vs ≡ faulted f
      met l w (some page) h e = walk_twice N block view q t low high vs left l w page h ∙ same_fault (fault_at UsedTwice page 0 0) f e
      met l w none h e = walk_breach N block view q t low high vs left l w h f e

      within : 0 < left → (b : Bool) → inside N q ≡ b → cond b (breach_if_twice (first_in (block q) vs) (judge_page_of (view q t) q low high)) (Err (fault_at PageNumber q 0 0)) ≡ Err f
          → walk N block view left t q low high vs ≡ faulted f
      within l true h e = met l h (first_in (block q) vs) refl e
      within l false h e = walk_out N block view q t low high vs left l h ∙ same_fault (fault_at PageNumber q 0 0) f e

      levels : (d : ℕ) → left ≡ d → met_of N block view d t q low high vs ≡ Err f → walk N block view left t q low high vs ≡ faulted f
      levels zero h e = walk_deep N block view q t low high vs left h ∙ same_fault (fault_at TooDeep q 0 0) f e
      levels (suc d) h e = within (omega arith) (inside N q) refl e

  pub met_leaf : (n : ℕ) → met_of N block view left t q low high vs ≡ Ok (Leaf n) → walk N block view left t q low high vs ≡ pass n (block q ++ vs)
  met_leaf n e =
      let m = met_own (Leaf n) e in
      walk_leaf N block view q t low high vs left m.0 m.1 m.2 n m.3

  pub met_branch : (n : ℕ) (cs : List (Item ℕ)) → view q t ≡ branch cs → met_of N block view left t q low high vs ≡ Ok (Branch n)
      → walk N block view left t q low high vs ≡ walk_all (walk N block view (left - 1) false) cs high 0 (block q ++ vs)
  met_branch n cs f e =
      let m = met_own (Branch n) e in
      walk_branch N block view q t low high vs left m.0 m.1 m.2 n cs f m.3

-- a page that is a branch or a leaf, by its verdict
unbreached : (o : Option Stray) (q : ℕ) (x y : Page) → breach_if_out o q x ≡ Ok y → x ≡ y
unbreached none q x y h = cc
unbreached (some j) q x y h = never_both (breach_if_out (some j) q x) (fault_at KeyRange q j.index j.common) y refl h

pub page_branch : (v : View Value) (q : ℕ) (low : Key) (high : Option Key) (n : ℕ) → judge_page_of v q low high ≡ Ok (Branch n) → (cs : List (Item ℕ)) × (v ≡ branch cs) × (length cs ≡ n)
unfolding judge_page_of
page_branch v q low high n = go v
  where
    go : (v : View Value) → judge_page_of v q low high ≡ Ok (Branch n) → (cs : List (Item ℕ)) × (v ≡ branch cs) × (length cs ≡ n)
    go (bad s x y) h = never_both (Err (fault_at s q x y)) (fault_at s q x y) (Branch n) refl h
    go (branch cs) h = let u = unbreached (first_out low high (keys cs) 0) q (Branch (length cs)) (Branch n) h in (cs, refl, cc)
    go (leaf es) h = absurd (let u = unbreached (first_out low high (keys es) 0) q (Leaf (length es)) (Branch n) h in let z : ◌≡◌ {A = ℕ} 0 1 = cc in omega arith)

pub page_leaf : (v : View Value) (q : ℕ) (low : Key) (high : Option Key) (n : ℕ) → judge_page_of v q low high ≡ Ok (Leaf n) → (es : List (Item Value)) × (v ≡ leaf es) × (length es ≡ n)
unfolding judge_page_of
page_leaf v q low high n = go v
  where
    go : (v : View Value) → judge_page_of v q low high ≡ Ok (Leaf n) → (es : List (Item Value)) × (v ≡ leaf es) × (length es ≡ n)
    go (bad s x y) h = never_both (Err (fault_at s q x y)) (fault_at s q x y) (Leaf n) refl h
    go (branch cs) h = absurd (let u = unbreached (first_out low high (keys cs) 0) q (Branch (length cs)) (Leaf n) h in let z : ◌≡◌ {A = ℕ} 0 1 = cc in omega arith)
    go (leaf es) h = let u = unbreached (first_out low high (keys es) 0) q (Leaf (length es)) (Leaf n) h in (es, refl, cc)

-- ---- an answer put together, and taken apart
pub says_fault : (r : Result ℕ Fault) (m : List ℕ) (w : Walk) (f : Fault) → w ≡ faulted f → r ≡ Err f → Says r m w
says_fault r m w f e o = rw e o

pub says_pass : (r : Result ℕ Fault) (m : List ℕ) (w : Walk) (n : ℕ) (vs : List ℕ) → w ≡ pass n vs → r ≡ Ok n → Marks m vs → Says r m w
says_pass r m w n vs e o h = rw e (o, h)

pub says_passed : (r : Result ℕ Fault) (m : List ℕ) (w : Walk) (n : ℕ) → Says r m w → r ≡ Ok n → (vs : List ℕ) × (w ≡ pass n vs) × Marks m vs
says_passed r m (pass k vs) n s e = let u = s.0 in let a : k ≡ n = cc in (vs, rw a, s.1)
says_passed r m (fault k p i c) n s e = never_both r (fault_at k p i c) n s e

pub says_broken : (r : Result ℕ Fault) (m : List ℕ) (w : Walk) (f : Fault) → Says r m w → r ≡ Err f → w ≡ faulted f
says_broken r m (pass k vs) f s e = never_both r f k e s.0
says_broken r m (fault k p i c) f s e = ap faulted (let u : fault_at k p i c ≡ f = cc in u)

-- ---- the children in a row
module _ (f : ℕ → Item ℕ) (c i : ℕ) where
  pub next_upper : (high : Option Key) → i < c → cond (ltb (i + 1) c) (some (f (i + 1)).key) high ≡ next (row f (c - (i + 1)) (i + 1)) high
  unfolding row
  next_upper high l = go (c - (i + 1)) refl
    where
      go : (k : ℕ) → c - (i + 1) ≡ k → cond (ltb (i + 1) c) (some (f (i + 1)).key) high ≡ next (row f k (i + 1)) high
      go zero e = let h : c ≤ i + 1 = omega arith in rw (le-ltb (i + 1) c h)
      go (suc k) e = let h : i + 1 < c = omega arith in rw (lt-ltb (i + 1) c h)

  module _ (go : Walker) (high : Option Key) (n : ℕ) (us : List ℕ) where
    pub turn_passed : (m : ℕ) (ws : List ℕ) → i < c → go (f i).value (f i).key (next (row f (c - (i + 1)) (i + 1)) high) us ≡ pass m ws
        → walk_all go (row f (c - i) i) high n us ≡ walk_all go (row f (c - (i + 1)) (i + 1)) high (n + m) ws
    unfolding walk_all row
    turn_passed m ws l e = let k : c - i ≡ suc (c - (i + 1)) = omega arith in rw (k, e)

    pub turn_broken : (e : Fault) → i < c → go (f i).value (f i).key (next (row f (c - (i + 1)) (i + 1)) high) us ≡ faulted e
        → walk_all go (row f (c - i) i) high n us ≡ faulted e
    unfolding walk_all row
    turn_broken e l h = let k : c - i ≡ suc (c - (i + 1)) = omega arith in rw (k, h)

    pub turn_done : c ≤ i → walk_all go (row f (c - i) i) high n us ≡ pass n us
    unfolding walk_all row
    turn_done l = let k : c - i ≡ 0 = omega arith in rw k

-- ---- rule 8: the first key out of range, by index
abbrev pub option_of : Verdict → Option Stray
option_of (Ok u) = none
option_of (Err b) = some (stray b.element b.common)

pub out_row : {A : Type 0} (f : ℕ → Item A) (low : Key) (high : Option Key) (k i : ℕ)
    → first_out low high (keys (row f k i)) i ≡ option_of (first_bad (λ j. not (in_range low high (f j).key)) (λ j. common_crossed low high (f j).key) KeyRange k i)
unfolding first_out first_bad row
out_row f low high zero i = refl
out_row f low high (suc k) i =
    go (in_range low high (f i).key) (ap (first_out low high (keys (row f k (i + 1)))) (sym (add-one i)) ∙ out_row f low high k (i + 1))
  where
    go : (t : Bool) → first_out low high (keys (row f k (i + 1))) (suc i) ≡ option_of (first_bad (λ j. not (in_range low high (f j).key)) (λ j. common_crossed low high (f j).key) KeyRange k (i + 1))
        → cond t (first_out low high (keys (row f k (i + 1))) (suc i)) (some (stray i (common_crossed low high (f i).key)))
        ≡ option_of (cond (not t) (Err (breach KeyRange i (common_crossed low high (f i).key))) (first_bad (λ j. not (in_range low high (f j).key)) (λ j. common_crossed low high (f j).key) KeyRange k (i + 1)))
    go true h = h
    go false h = refl

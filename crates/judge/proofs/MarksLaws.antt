-- The words that mark the pages visited, as a block's pages are looked at and marked.
-- Assumes nothing.
use mathlib.Core.Path.{◌≡◌, refl, sym, ap, ◌∙◌}
use mathlib.Core.Bool.{Bool, true, false, cond, ◌||◌}
use mathlib.Core.List.{List, [], ◌∷◌, ◌++◌}
use mathlib.Core.Logic.{◌⊎◌, inl, inr, ⊎_elim}
use mathlib.Core.Option.{none, some}
use Prim.Native.Nat.{ℕ, zero, suc, ◌+◌, ◌-◌, ◌≤◌, ◌<◌}
use native.Mathlib.Omega.{arith}
use borrow.Author.Tests.{eq-eqb, ne_eqb, eqb-true, eqb-false, ltb-true, ltb-false}
use lib.Arith.{lt_of_le-ne}
use lib.Dec.{eqb, ltb}
use lib.ListN.{length}
use Rattle.std.specs.Prelude.{Ok, Err}
use Rattle.std.specs.declared.result.Result.{Result}
use Rattle.field.specs.Refusal.{on_ok}
use Rattle.field.specs.declared.refusal.Refusal.TheVariants.{UsedTwice}
use Rattle.field.specs.Marks.{mark, is_marked, with_mark, with_marks, lowest_marked, no_marks, count_below, count}
use Rattle.field.proofs.BitLaws.{same_or}
use Rattle.field.proofs.MarkLaws.{mark_lt, with_same, with_other, count_with, mark_none, count_none, length_with, length_withs, lowest_none, lowest_le}
use Rattle.walk.specs.Tree.{memb, first_in}
use Rattle.view.specs.declared.Fault.{Fault}
use Rattle.view.specs.Fault.{fault_at}
use Rattle.view.specs.View.{pages_from}
use Rattle.judge.specs.Walk.{taken_of, Marks}

-- ---- no page, and one more
pub marks_none : Marks no_marks []
marks_none = record { each = λ k l. rw (mark_none k); counted = count_none }

-- a page that is not marked has the mark 0
unmarked : (m : List ℕ) (p : ℕ) → is_marked m p ≡ false → mark m p ≡ 0
unmarked m p fresh = go (mark m p) (mark_lt m p) (eqb-false (mark m p) 1 fresh)
  where
    go : (x : ℕ) → x < 2 → (x ≡ 1 → ⊥) → x ≡ 0
    go zero l n = refl
    go (suc zero) l n = absurd (n refl)
    go (suc (suc x)) l n = absurd (omega arith)

count_more : (m : List ℕ) (p : ℕ) → length m ≡ 512 → p < 32768 → is_marked m p ≡ false → count (with_mark m p) ≡ count m + 1
count_more m p long small fresh = count_with m p long small (unmarked m p fresh)

marks_with : (m vs : List ℕ) (p : ℕ) → Marks m vs → length m ≡ 512 → p < 32768 → is_marked m p ≡ false → Marks (with_mark m p) (p ∷ vs)
marks_with m vs p h long small fresh =
    let c = h.counted in
    record {
      each = λ k l. ⊎_elim (here k) (λ n. rw (with_other m p long small k n, ne_eqb k p n) (h.each k l)) (same_or k p);
      counted = omega (arith, count_more m p long small fresh);
    }
  where
    here : (k : ℕ) → k ≡ p → is_marked (with_mark m p) k ≡ memb k (p ∷ vs)
    here k e = rw (e, with_same m p long small, eq-eqb p p refl)

-- ---- the pages of a block
-- one page more, before or behind a list's first part
memb_swap : (x p : ℕ) (ps vs : List ℕ) → memb x (ps ++ p ∷ vs) ≡ memb x (p ∷ ps ++ vs)
memb_swap x p [] vs = refl
memb_swap x p (q ∷ ps) vs = rw (memb_swap x p ps vs) (turn (eqb x q) (eqb x p) (memb x (ps ++ vs)))
  where
    turn : (a b c : Bool) → (a || (b || c)) ≡ (b || (a || c))
    turn true true c = refl
    turn true false c = refl
    turn false true c = refl
    turn false false c = refl

length-swap : (p : ℕ) (ps vs : List ℕ) → length (ps ++ p ∷ vs) ≡ length (p ∷ ps ++ vs)
length-swap p [] vs = refl
length-swap p (q ∷ ps) vs = ap suc (length-swap p ps vs)

-- the k pages from q on, none of which is marked
abbrev Clear : List ℕ → ℕ → ℕ → Type 0
Clear m q k = (j : ℕ) → q ≤ j → j < q + k → is_marked m j ≡ false

clear_rest : (m : List ℕ) (q k : ℕ) → length m ≡ 512 → q + suc k ≤ 32768 → Clear m q (suc k) → Clear (with_mark m q) (q + 1) k
clear_rest m q k long small clear j l h = rw (with_other m q long (omega arith) j (λ e. omega arith)) (clear j (omega arith) (omega arith))

pub marks_pages : (k q : ℕ) (m vs : List ℕ) → length m ≡ 512 → q + k ≤ 32768 → Clear m q k → Marks m vs → Marks (with_marks m q k) (pages_from q k ++ vs)
unfolding with_marks pages_from
marks_pages zero q m vs long small clear h = h
marks_pages (suc k) q m vs long small clear h =
    let r =
    marks_pages k (q + 1) (with_mark m q) (q ∷ vs) (length_with m q ∙ long) (omega arith) (clear_rest m q k long small clear)
    (marks_with m vs q h long (omega arith) (clear q (omega arith) (omega arith)))
    in
    record {
      each = λ j l. r.each j l ∙ memb_swap j q (pages_from (q + 1) k) vs;
      counted = r.counted ∙ length-swap q (pages_from (q + 1) k) vs;
    }

pub count_pages : (k q : ℕ) (m : List ℕ) → length m ≡ 512 → q + k ≤ 32768 → Clear m q k → count (with_marks m q k) ≡ count m + k
unfolding with_marks
count_pages zero q m long small clear = omega arith
count_pages (suc k) q m long small clear =
    let r = count_pages k (q + 1) (with_mark m q) (length_with m q ∙ long) (omega arith) (clear_rest m q k long small clear) in
    let c = count_more m q long (omega arith) (clear q (omega arith) (omega arith)) in
    omega arith

-- the lowest that is marked is the first of them that was visited
pub first_lowest : (k q : ℕ) (m vs : List ℕ) → Marks m vs → q + k ≤ 32768 → lowest_marked m q k < q + k → first_in (pages_from q k) vs ≡ some (lowest_marked m q k)
unfolding first_in pages_from lowest_marked
first_lowest zero q m vs h small l = absurd (omega arith)
first_lowest (suc k) q m vs h small l = rw (sym (h.each q (omega arith))) (go (is_marked m q) (first_lowest k (q + 1) m vs h (omega arith)) l)
  where
    go : (t : Bool)
        → (lowest_marked m (q + 1) k < q + 1 + k → first_in (pages_from (q + 1) k) vs ≡ some (lowest_marked m (q + 1) k))
        → cond t q (lowest_marked m (q + 1) k) < q + suc k
        → cond t (some q) (first_in (pages_from (q + 1) k) vs) ≡ some (cond t q (lowest_marked m (q + 1) k))
    go true rest l = refl
    go false rest l = rest (omega arith)

-- where none is marked, none was visited
pub first_clear : (k q : ℕ) (m vs : List ℕ) → Marks m vs → q + k ≤ 32768 → Clear m q k → first_in (pages_from q k) vs ≡ none
unfolding first_in pages_from
first_clear zero q m vs h small clear = refl
first_clear (suc k) q m vs h small clear =
    rw (sym (h.each q (omega arith)) ∙ clear q (omega arith) (omega arith))
    (first_clear k (q + 1) m vs h (omega arith) (λ j l g. clear j (omega arith) (omega arith)))

-- ---- what `take_pages` answers and leaves, of the pages from q up to end
module _ (m m' : List ℕ) (q end : ℕ) (r : Result Unit Fault) (long : length m ≡ 512) (order : q ≤ end) (small : end ≤ 32768)
    (told : (r ≡ taken_of m q end) × (m' ≡ on_ok r (with_marks m q (end - q)) m))
  where
    pub taken_length : length m' ≡ 512
    taken_length = rw told.1 (go r)
      where
        go : (x : Result Unit Fault) → length (on_ok x (with_marks m q (end - q)) m) ≡ 512
        go (Ok u) = length_withs m q (end - q) ∙ long
        go (Err f) = long

    -- a fault names the first page of these that was visited
    pub taken_twice : (f : Fault) → r ≡ Err f → (vs : List ℕ) → Marks m vs
        → (page : ℕ) × (first_in (pages_from q (end - q)) vs ≡ some page) × (f ≡ fault_at UsedTwice page 0 0)
    taken_twice f e vs h = go (ltb (lowest_marked m q (end - q)) end) refl (sym told.0 ∙ e)
      where
        go : (t : Bool) → ltb (lowest_marked m q (end - q)) end ≡ t → cond t (Err (fault_at UsedTwice (lowest_marked m q (end - q)) 0 0)) (Ok (tt {0})) ≡ Err f
            → (page : ℕ) × (first_in (pages_from q (end - q)) vs ≡ some page) × (f ≡ fault_at UsedTwice page 0 0)
        go true l g =
            let l = ltb-true _ _ l in
            (lowest_marked m q (end - q), first_lowest (end - q) q m vs h (omega arith) (omega arith), cc)
        go false l g = absurd (let z : ◌≡◌ {A = ℕ} 0 1 = cc in omega arith)

    module _ (passed : r ≡ Ok tt) where
      all : end ≤ lowest_marked m q (end - q)
      all = go (ltb (lowest_marked m q (end - q)) end) refl (sym told.0 ∙ passed)
        where
          go : (t : Bool) → ltb (lowest_marked m q (end - q)) end ≡ t → cond t (Err (fault_at UsedTwice (lowest_marked m q (end - q)) 0 0)) (Ok (tt {0})) ≡ Ok (tt {0})
              → end ≤ lowest_marked m q (end - q)
          go true l g = absurd (let z : ◌≡◌ {A = ℕ} 0 1 = cc in omega arith)
          go false l g = ltb-false _ _ l

      clear : Clear m q (end - q)
      clear = lowest_none m q (end - q) (omega (arith, all, lowest_le m q (end - q)))

      left_with : m' ≡ with_marks m q (end - q)
      left_with = told.1 ∙ rw passed

      pub taken_first : (vs : List ℕ) → Marks m vs → first_in (pages_from q (end - q)) vs ≡ none
      taken_first vs h = first_clear (end - q) q m vs h (omega arith) clear

      pub taken_marks : (vs : List ℕ) → Marks m vs → Marks m' (pages_from q (end - q) ++ vs)
      taken_marks vs h = rw left_with (marks_pages (end - q) q m vs long (omega arith) clear h)

      pub taken_count : count m' ≡ count m + (end - q)
      taken_count = rw left_with (count_pages (end - q) q m long (omega arith) clear)

-- ---- any words mark some pages
listed : List ℕ → ℕ → List ℕ
listed m zero = []
listed m (suc k) = cond (is_marked m k) (k ∷ listed m k) (listed m k)

in_listed : (m : List ℕ) (n k : ℕ) → is_marked m k ≡ true → k < n → memb k (listed m n) ≡ true
unfolding listed
in_listed m zero k e l = absurd (omega arith)
in_listed m (suc n) k e l = go (is_marked m n) refl (same_or k n) (in_listed m n k e)
  where
    go : (t : Bool) → is_marked m n ≡ t → (k ≡ n) ⊎ (k ≡ n → ⊥) → (k < n → memb k (listed m n) ≡ true) → memb k (cond t (n ∷ listed m n) (listed m n)) ≡ true
    go true f (inl g) rest = rw (eq-eqb k n g)
    go true f (inr g) rest = rw (ne_eqb k n g) (rest (lt_of_le-ne (omega arith) g))
    go false f (inl g) rest = absurd (let h : is_marked m k ≡ false = rw g f in let z : ◌≡◌ {A = ℕ} 0 1 = cc in omega arith)
    go false f (inr g) rest = rest (lt_of_le-ne (omega arith) g)

listed_marked : (m : List ℕ) (n k : ℕ) → is_marked m k ≡ false → memb k (listed m n) ≡ false
unfolding listed
listed_marked m zero k e = refl
listed_marked m (suc n) k e = go (is_marked m n) refl (same_or k n) (listed_marked m n k e)
  where
    go : (t : Bool) → is_marked m n ≡ t → (k ≡ n) ⊎ (k ≡ n → ⊥) → memb k (listed m n) ≡ false → memb k (cond t (n ∷ listed m n) (listed m n)) ≡ false
    go true f (inl g) rest = absurd (let h : is_marked m k ≡ true = rw g f in let z : ◌≡◌ {A = ℕ} 0 1 = cc in omega arith)
    go true f (inr g) rest = rw (ne_eqb k n g) rest
    go false f d rest = rest

length-listed : (m : List ℕ) (n : ℕ) → count_below m n ≡ length (listed m n)
unfolding listed count_below
length-listed m zero = refl
length-listed m (suc n) = go (is_marked m n) refl (length-listed m n)
  where
    go : (t : Bool) → is_marked m n ≡ t → count_below m n ≡ length (listed m n) → mark m n + count_below m n ≡ length (cond t (n ∷ listed m n) (listed m n))
    go true f rest = let e = eqb-true (mark m n) 1 f in omega arith
    go false f rest = let e = unmarked m n f in omega arith

pub marks_some : (m : List ℕ) → (vs : List ℕ) × Marks m vs
unfolding count
marks_some m = (listed m 32768, record { each = λ k l. go (is_marked m k) refl l; counted = length-listed m 32768 })
  where
    go : {k : ℕ} (t : Bool) → is_marked m k ≡ t → k < 32768 → is_marked m k ≡ memb k (listed m 32768)
    go {k} true e l = e ∙ sym (in_listed m 32768 k e l)
    go {k} false e l = e ∙ sym (listed_marked m 32768 k e)

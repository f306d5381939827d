-- The lowest run of free pages: what `first` means, and what the scan knows at page i, before which the pages from `start` on are free.
-- Assumes nothing.
use mathlib.Core.Path.{◌≡◌, refl, sym, ap, ◌∙◌}
use mathlib.Core.Logic.{◌⊎◌, inl, inr, ⊎_elim}
use mathlib.Core.List.{List}
use mathlib.Core.Bool.{Bool, true, false, cond, ◌&&◌, and-false}
use Prim.Native.Nat.{ℕ, zero, suc, ◌+◌, ◌-◌, ◌≤◌, ◌<◌}
use native.Mathlib.Nat.{eq-or-lt_of_le, le-div_iff_mul-le}
use native.Mathlib.Omega.{arith}
use borrow.Author.Tests.{le-leb, lt-leb, leb-true}
use lib.Arith.{lt_of_le-ne}
use lib.Dec.{leb}
use lib.ListN.{get_or}
use Rattle.field.specs.Sizes.{pages_needed}
use Rattle.freelist.specs.declared.table.State.{State}
use Rattle.freelist.specs.declared.table.State.TheVariants.{InUse, Free, Pending, Broken}
use Rattle.freelist.specs.Table.{bit, state_from, state_of, is_state, is_free}
use Rattle.freelist.specs.Pages.{pages_from, all, first}
use Rattle.freelist.specs.Freelist.{run, FreeRun, lowest}
use Rattle.freelist.proofs.PageLaws.{clash, and_parts, row_next, row-none, in_row, all_row_of, all_row_at, all_not}

-- ---- first, from p on and below n
module _ (ok : ℕ → Bool) (none n : ℕ) where
  pub first_here : (p : ℕ) → p < n → ok p ≡ true → first ok none (pages_from p (n - p)) ≡ p
  unfolding first
  first_here p l h =
      rw (row_next p n l, h)

  pub first_next : (p : ℕ) → p < n → ok p ≡ false → first ok none (pages_from p (n - p)) ≡ first ok none (pages_from (p + 1) (n - (p + 1)))
  unfolding first
  first_next p l h =
      rw (row_next p n l, h)

  pub first-none : (p : ℕ) → n ≤ p → first ok none (pages_from p (n - p)) ≡ none
  unfolding first
  first-none p l =
      rw (row-none p n l)

  -- past d numbers at which it does not hold
  pub first_skip : (d p : ℕ) → p + d ≤ n → ((j : ℕ) → p ≤ j → j < p + d → ok j ≡ false) → first ok none (pages_from p (n - p)) ≡ first ok none (pages_from (p + d) (n - (p + d)))
  first_skip zero p l h = let e : p ≡ p + 0 = omega arith in ap (λ (x : ℕ). first ok none (pages_from x (n - x))) e
  first_skip (suc d) p l h =
      let e : p + 1 + d ≡ p + suc d = omega arith in
      first_next p (omega arith) (h p (omega arith) (omega arith))
      ∙ first_skip d (p + 1) (omega arith) (λ j a b. h j (omega arith) (omega arith))
      ∙ ap (λ (x : ℕ). first ok none (pages_from x (n - x))) e

-- ---- what `first` means
pub record First (ok : ℕ → Bool) (k p s : ℕ) : Type 0 where
  pub from : p ≤ s
  pub below : s < p + k
  pub here : ok s ≡ true
  pub none : (j : ℕ) → p ≤ j → j < s → ok j ≡ false

pub first_law : (ok : ℕ → Bool) (none k p : ℕ) → First ok k p (first ok none (pages_from p k)) ⊎ ((first ok none (pages_from p k) ≡ none) × ((j : ℕ) → p ≤ j → j < p + k → ok j ≡ false))
unfolding first pages_from
first_law ok none zero p = inr (refl, λ j a b. absurd (omega arith))
first_law ok none (suc k) p = go (first_law ok none k (p + 1)) (ok p) refl
  where
    r : ℕ
    r = first ok none (pages_from (p + 1) k)

    go : First ok k (p + 1) r ⊎ ((r ≡ none) × ((j : ℕ) → p + 1 ≤ j → j < p + 1 + k → ok j ≡ false)) → (x : Bool) → ok p ≡ x
        → First ok (suc k) p (cond (ok p) p r) ⊎ ((cond (ok p) p r ≡ none) × ((j : ℕ) → p ≤ j → j < p + suc k → ok j ≡ false))
    go ih true e = rw e (inl (record { from = omega arith; below = omega arith; here = e; none = λ j a b. absurd (omega arith) }))
    go (inl f) false e =
        let a = f.from in
        let b = f.below in
        rw e (inl (record {
          from = omega arith;
          below = omega arith;
          here = f.here;
          none = λ j l m. ⊎_elim (λ q. ap ok (sym q) ∙ e) (λ q. f.none j (omega arith) m) (eq-or-lt_of_le l);
        }))
    go (inr f) false e =
        rw e (inr (f.0, λ j l m. ⊎_elim (λ q. ap ok (sym q) ∙ e) (λ q. f.1 j (omega arith) (omega arith)) (eq-or-lt_of_le l)))

-- ---- runs

abbrev free : List ℕ → ℕ → Bool
free t k = is_free (state_of t k)

free_is : (s : State) → is_free s ≡ true → s ≡ Free
free_is InUse e = absurd (clash e refl)
free_is Free e = refl
free_is (Pending x) e = absurd (clash e refl)
free_is Broken e = absurd (clash e refl)

-- a page that is in one of the three states is free where its free bit is on
free_digit : (a b : Bool) (x : ℕ) → is_state (state_from a b x) ≡ true → is_free (state_from a b x) ≡ a
free_digit true true x e = e
free_digit true false x e = refl
free_digit false true x e = refl
free_digit false false x e = refl

pub free_bit_lem : (t : List ℕ) (i : ℕ) → is_state (state_of t i) ≡ true → is_free (state_of t i) ≡ bit t i
unfolding state_of
free_bit_lem t i h = free_digit (bit t i) (bit t (32768 + i)) (get_or t (1024 + i) 0) h

module _ (t : List ℕ) (n pages : ℕ) where
  run_on : (s : ℕ) → s + pages ≤ n → ((j : ℕ) → s ≤ j → j < s + pages → free t j ≡ true) → run t n pages s ≡ true
  unfolding run
  run_on s l h = rw (le-leb (s + pages) n l) (all_row_of (free t) s pages h)

  -- no run where it would go past n, or has a page in it that is not free
  run_past : (s : ℕ) → n < s + pages → run t n pages s ≡ false
  unfolding run
  run_past s l = rw (lt-leb (s + pages) n l)

  run_off : (s i : ℕ) → s ≤ i → i < s + pages → free t i ≡ false → run t n pages s ≡ false
  unfolding run
  run_off s i a b h = ap (λ (x : Bool). leb (s + pages) n && x) (all_not (free t) (pages_from s pages) i (in_row s pages i a b) h) ∙ and-false (leb (s + pages) n)

  -- the scan stands at page i: the pages from start to i - 1 are free, fewer than are sought, and no run starts below them
  pub record Scan (i start : ℕ) : Type 0 where
    pub from : 2 ≤ start
    pub to : start ≤ i
    pub less : i < start + pages
    pub free : (j : ℕ) → start ≤ j → j < i → is_free (state_of t j) ≡ true
    pub left : lowest t n pages ≡ first (run t n pages) n (pages_from start (n - start))

  pub scan_start : 1 ≤ pages → Scan 2 2
  unfolding lowest
  scan_start m = record { from = omega arith; to = omega arith; less = omega arith; free = λ j a b. absurd (omega arith); left = refl }

  -- a turn, after which the pages from r to i are free: they are as many as are sought, or the scan goes on
  pub scan_found : (i start r : ℕ) (b : Bool) → Scan i start → i < n → free t i ≡ b → r ≡ cond b start (i + 1) → i + 1 - r ≡ pages → (r ≡ lowest t n pages) × (r < n)
  scan_found i start r true s l h e m =
      let f = s.to in
      let on = run_on start (omega arith) (λ j a b. ⊎_elim (λ q. ap (free t) q ∙ h) (λ q. s.free j a q) (eq-or-lt_of_le (omega arith))) in
      (e ∙ sym (s.left ∙ first_here (run t n pages) n n start (omega arith) on), omega arith)
  scan_found i start r false s l h e m = let f = s.to in absurd (omega (arith, s.less))

  pub scan_next : (i start r : ℕ) (b : Bool) → Scan i start → i < n → free t i ≡ b → r ≡ cond b start (i + 1) → (i + 1 - r ≡ pages → ⊥) → Scan (i + 1) r
  scan_next i start r true s l h e m =
      let f = s.to in
      let o = s.less in
      rw e (record {
        from = s.from;
        to = omega arith;
        less = lt_of_le-ne (omega arith) (λ q. m (omega arith));
        free = λ j a b. ⊎_elim (λ q. ap (free t) q ∙ h) (λ q. s.free j a q) (eq-or-lt_of_le (omega arith));
        left = s.left;
      })
  scan_next i start r false s l h e m =
      let f = s.to in
      let o = s.less in
      let d : start + (i + 1 - start) ≡ i + 1 = omega arith in
      rw e (record {
        from = omega (arith, s.from);
        to = omega arith;
        less = omega arith;
        free = λ j a b. absurd (omega arith);
        left =
            s.left ∙ first_skip (run t n pages) n n (i + 1 - start) start (omega arith) (λ j a b. run_off j i (omega arith) (omega arith) h)
            ∙ ap (λ (x : ℕ). first (run t n pages) n (pages_from x (n - x))) d;
      })

  pub scan-end : (i start : ℕ) → Scan i start → n ≤ i → i ≤ n → lowest t n pages ≡ n
  scan-end i start s l m =
      let f = s.to in
      let o = s.less in
      s.left ∙ first_skip (run t n pages) n n (n - start) start (omega arith) (λ j a b. run_past j (omega arith))
      ∙ first-none (run t n pages) n n (start + (n - start)) (omega arith)

  -- what the lowest run is
  pub lowest_law : 2 ≤ n → First (run t n pages) (n - 2) 2 (lowest t n pages)
      ⊎ ((lowest t n pages ≡ n) × ((j : ℕ) → 2 ≤ j → j < 2 + (n - 2) → run t n pages j ≡ false))
  unfolding lowest
  lowest_law l = first_law (run t n pages) n (n - 2) 2

  pub lowest_top : 2 ≤ n → n ≤ lowest t n pages → lowest t n pages ≡ n
  lowest_top l h = ⊎_elim (λ f. absurd (omega (arith, f.below))) (λ f. f.0) (lowest_law l)

  -- a run, and the statement that it is one
  pub run_free : (s : ℕ) → 2 ≤ s → run t n pages s ≡ true → FreeRun t n pages s
  unfolding run
  run_free s l e =
      let h = and_parts (leb (s + pages) n) (all (free t) (pages_from s pages)) e in
      (l, leb-true (s + pages) n h.0, λ q a b. free_is (state_of t q) (all_row_at (free t) s pages h.1 q a b))

  pub free_run : (s : ℕ) → FreeRun t n pages s → run t n pages s ≡ true
  free_run s f = run_on s f.1 (λ q a b. ap is_free (f.2 q a b))

  -- below n there is one at the lowest place, and there is none lower
  pub lowest_free : 2 ≤ n → lowest t n pages < n → FreeRun t n pages (lowest t n pages)
  lowest_free l h = ⊎_elim (λ f. run_free (lowest t n pages) f.from f.here) (λ f. absurd (omega (arith, f.0))) (lowest_law l)

  pub lowest_least : 2 ≤ n → (j : ℕ) → j < lowest t n pages → FreeRun t n pages j → ⊥
  lowest_least l j h f =
      clash (free_run j f) (⊎_elim (λ g. g.none j f.0 h) (λ g. g.1 j f.0 (omega (arith, g.0))) (lowest_law l))

-- ---- pages needed: at least one for a byte
pub needed_some : (bytes size : ℕ) → 2 ≤ size → 1 ≤ bytes → 1 ≤ pages_needed bytes size
needed_some bytes size wide h = (le-div_iff_mul-le {k = size} {x = 1} {y = bytes + (size - 1)} (omega arith)).1 (omega arith)

-- Branches: a key that is present, the entry in its place, and the two neighbours that decide whether the order is kept.
-- Assumes nothing.
use mathlib.Core.Path.{◌≡◌, refl, ap, ◌∙◌}
use mathlib.Core.Bool.{Bool, true, false, not, ◌&&◌, ◌||◌}
use mathlib.Core.List.{List, ◌∷◌, ◌++◌}
use Prim.Native.Nat.{ℕ, zero, suc, ◌+◌, ◌-◌, ◌≤◌, ◌<◌}
use native.Mathlib.Nat.{add-zero, zero-add}
use native.Mathlib.Numerals.{add-one}
use native.Mathlib.Omega.{arith}
use lib.ListN.{take, drop}
use borrow.Author.Tests.{lt-ltb, le-ltb}
use Rattle.std.specs.declared.cmp.Ordering.{Ordering}
use Rattle.std.specs.declared.cmp.Ordering.TheVariants.{Less, Equal, Greater}
use Rattle.field.specs.Order.{order_of}
use Rattle.std.specs.Ordering.{is_lt, is_eq, is_le}
use Rattle.field.proofs.OrderLaws.{order_refl, order_equal, lower_iff}
use Rattle.page.specs.Layout.{Entry, count_of, key_of, entry_of, entries_from, entries_of}
use Rattle.page.specs.PageRules.{breach, SoundBlock}
use Rattle.page.proofs.SearchLaws.{before_equal}
use Rattle.pack.specs.Plan.{replace_at}
use Rattle.node.specs.Edit.{written, inserted, present, replaced, in_order, replace_branch, add_branch}
use Rattle.node.specs.Neighbours.{not_above, not_below}
use Rattle.std.specs.Prelude.{Err}
use Rattle.field.specs.declared.refusal.Refusal.TheVariants.{Conflict}

-- ---- tests
or-true : (s : Bool) → (s || true) ≡ true
or-true true = refl
or-true false = refl

and-true : (s : Bool) → (s && true) ≡ s
and-true true = refl
and-true false = refl

not_and : (s t : Bool) → not (s && t) ≡ (not s || not t)
not_and true t = refl
not_and false t = refl

-- ---- a key that is present, or absent
module _ (b key : List ℕ) where
  present_here : (k i m : ℕ) → m < k → order_of (key_of false b (i + m)) key ≡ Equal → present key (entries_from false b k i) ≡ true
  unfolding present entries_from
  present_here zero i m l e = absurd (omega arith)
  present_here (suc k) i zero l e = rw (rw add-zero at e)
  present_here (suc k) i (suc m) l e =
      let z : i + 1 + m ≡ i + suc m = omega arith in
      rw (present_here k (i + 1) m (omega arith) (rw z e)) (or-true (is_eq (order_of (key_of false b i) key)))

  pub present_at : (i : ℕ) → i < count_of b → key_of false b i ≡ key → present key (entries_of false b) ≡ true
  unfolding entries_of
  present_at i l e = present_here (count_of b) 0 i l (rw (zero-add, e) (order_refl key))

  differs : (j : ℕ) → (key_of false b j ≡ key → ⊥) → is_eq (order_of (key_of false b j) key) ≡ false
  differs j n = go (order_of (key_of false b j) key) refl
    where
      go : (o : Ordering) → order_of (key_of false b j) key ≡ o → is_eq (order_of (key_of false b j) key) ≡ false
      go Less e = rw e
      go Equal e = absurd (n (order_equal (key_of false b j) key e))
      go Greater e = rw e

  absent_from : (k i : ℕ) → ((j : ℕ) → j < i + k → key_of false b j ≡ key → ⊥) → present key (entries_from false b k i) ≡ false
  unfolding present entries_from
  absent_from zero i n = refl
  absent_from (suc k) i n = rw (differs i (n i (omega arith))) (absent_from k (i + 1) (λ j l. n j (omega arith)))

  pub absent_all : ((j : ℕ) → j < count_of b → key_of false b j ≡ key → ⊥) → present key (entries_of false b) ≡ false
  unfolding entries_of
  absent_all n = absent_from (count_of b) 0 (λ j l. n j (omega arith))

-- ---- the entry in its place
module _ (b original : List ℕ) (e : Entry) where
  replaced_from : (k i m : ℕ) → m < k → ((j : ℕ) → i ≤ j → j < i + m → order_of (key_of false b j) original ≡ Less)
      → order_of (key_of false b (i + m)) original ≡ Equal → replaced original e (entries_from false b k i) ≡ replace_at m e (entries_from false b k i)
  unfolding replaced entries_from
  replaced_from zero i m l low same = absurd (omega arith)
  replaced_from (suc k) i zero l low same = rw (rw add-zero at same)
  replaced_from (suc k) i (suc m) l low same =
      let z : i + 1 + m ≡ i + suc m = omega arith in
      rw (low i (omega arith) (omega arith), add-one (suc m))
      (ap (λ (es : List Entry). entry_of false b i ∷ es)
      (rw (add-one m) at (replaced_from k (i + 1) m (omega arith) (λ j p q. low j (omega arith) (omega arith)) (rw z same))))

  pub replaced_at : SoundBlock false true b → (i : ℕ) → i < count_of b → key_of false b i ≡ original
      → replaced original e (entries_of false b) ≡ replace_at i e (entries_of false b)
  unfolding entries_of
  replaced_at s i l same =
      let q : order_of (key_of false b i) original ≡ Equal = rw same (order_refl original) in
      replaced_from (count_of b) 0 i l (λ j p m. before_equal false true b s original i l q j (omega arith)) (rw zero-add q)

-- ---- its neighbours
-- a key that is not above another is one that the other is not lower than
pub not_lower : (a b : List ℕ) → is_le (order_of a b) ≡ not (is_lt (order_of b a))
not_lower a b = go (order_of a b) refl
  where
    go : (o : Ordering) → order_of a b ≡ o → is_le (order_of a b) ≡ not (is_lt (order_of b a))
    go Less e = rw (e, (lower_iff a b).0 e)
    go Equal e = rw (e, order_equal a b e, order_refl b)
    go Greater e = rw (e, (lower_iff b a).1 e)

module _ (b : List ℕ) (s : SoundBlock false true b) (e : Entry) where
  in_order_lem : (k i : ℕ) → i + k ≤ count_of b → in_order (entries_from false b k i) ≡ true
  unfolding in_order entries_from
  in_order_lem zero i h = refl
  in_order_lem (suc zero) i h = refl
  in_order_lem (suc (suc k)) i h = rw (s.rising i (omega arith)) (in_order_lem (suc k) (i + 1) (omega arith))

  abbrev after : ℕ → ℕ → Bool
  after zero i = true
  after (suc k) i = is_lt (order_of e.key (key_of false b i))

  abbrev before : ℕ → ℕ → Bool
  before zero i = true
  before (suc m) i = is_lt (order_of (key_of false b (i + m)) e.key)

  order_first : (k i : ℕ) → i + k ≤ count_of b → in_order (e ∷ entries_from false b k i) ≡ after k i
  unfolding in_order entries_from
  order_first zero i h = refl
  order_first (suc k) i h = rw (in_order_lem (suc k) i h) (and-true (is_lt (order_of e.key (key_of false b i))))

  order_around : (m k i r : ℕ) → k ≡ m + r + 1 → i + k ≤ count_of b
      → in_order (take m (entries_from false b k i) ++ e ∷ drop (suc m) (entries_from false b k i)) ≡ (before m i && after r (i + m + 1))
  unfolding in_order entries_from
  order_around zero zero i r q h = absurd (omega arith)
  order_around zero (suc k) i r q h =
      let a : k ≡ r = omega arith in
      let z : i + 1 ≡ i + 0 + 1 = omega arith in
      order_first k (i + 1) (omega arith) ∙ rw (a, z)
  order_around (suc m) zero i r q h = absurd (omega arith)
  order_around (suc zero) (suc zero) i r q h = absurd (omega arith)
  order_around (suc (suc m)) (suc zero) i r q h = absurd (omega arith)
  order_around (suc zero) (suc (suc k)) i r q h =
      let a : k ≡ r = omega arith in
      rw (order_first k (i + 1 + 1) (omega arith), add-zero i, a)
  order_around (suc (suc m)) (suc (suc k)) i r q h =
      let y : i + 1 + m ≡ i + suc m = omega arith in
      let z : i + 1 + suc m + 1 ≡ i + suc (suc m) + 1 = omega arith in
      rw (s.rising i (omega arith)) (order_around (suc m) (suc k) (i + 1) r (omega arith) (omega arith) ∙ rw (y, z))

  not-before : (i : ℕ) → not (before i 0) ≡ not_above b i e.key
  not-before zero = refl
  not-before (suc m) =
      let z : suc m - 1 ≡ m = omega arith in
      rw (lt-ltb 0 (suc m) (omega arith), z, zero-add)

  not_after : (r i : ℕ) → i + 1 + r ≡ count_of b → not (after r (0 + i + 1)) ≡ not_below b i e.key
  not_after zero i h = rw (le-ltb (i + 1) (count_of b) (omega arith))
  not_after (suc r) i h = rw (lt-ltb (i + 1) (count_of b) (omega arith), zero-add)

  order_split : (i r : ℕ) → i + 1 + r ≡ count_of b → in_order (replace_at i e (entries_from false b (count_of b) 0)) ≡ (before i 0 && after r (0 + i + 1))
  order_split i r h = rw (add-one i) (order_around i (count_of b) 0 r (omega arith) (omega arith))

  pub order_kept : (i : ℕ) → i < count_of b → not (in_order (replace_at i e (entries_of false b))) ≡ (not_above b i e.key || not_below b i e.key)
  unfolding entries_of
  order_kept i l =
      let r = count_of b - (i + 1) in
      let h : i + 1 + r ≡ count_of b = omega arith in
      rw (order_split i r h, not_and, not-before i, not_after r i h)

-- ---- what comes of each
module _ (P : ℕ) (out b : List ℕ) (e : Entry) where
  pub replace_absent : (original : List ℕ) → present original (entries_of false b) ≡ false
      → replace_branch P out original e (entries_of false b) ≡ Err (breach Conflict 0 0)
  unfolding replace_branch
  replace_absent original h = rw h

  module _ (original : List ℕ) (s : SoundBlock false true b) (i : ℕ) (l : i < count_of b) (same : key_of false b i ≡ original) where
    pub replace_breaks : (not_above b i e.key || not_below b i e.key) ≡ true → replace_branch P out original e (entries_of false b) ≡ Err (breach Conflict 0 0)
    unfolding replace_branch
    replace_breaks h = rw (present_at b original i l same, replaced_at b original e s i l same, order_kept b s e i l, h)

    pub replace_goes : not_above b i e.key ≡ false → not_below b i e.key ≡ false
        → replace_branch P out original e (entries_of false b) ≡ written false P out (replace_at i e (entries_of false b))
    unfolding replace_branch
    replace_goes h k = rw (present_at b original i l same, replaced_at b original e s i l same, order_kept b s e i l, h, k)

  pub add_present : present e.key (entries_of false b) ≡ true → add_branch P out e (entries_of false b) ≡ Err (breach Conflict 0 0)
  unfolding add_branch
  add_present h = rw h

  pub add_goes : present e.key (entries_of false b) ≡ false → add_branch P out e (entries_of false b) ≡ written false P out (inserted e (entries_of false b))
  unfolding add_branch
  add_goes h = rw h

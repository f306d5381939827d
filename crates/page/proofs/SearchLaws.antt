-- A scan of a sound block stops where a binary search does, and what it answers, in words.
-- Assumes nothing.
use mathlib.Core.Path.{◌≡◌, refl, sym, ap, ◌∙◌}
use mathlib.Core.Bool.{Bool, true, false}
use mathlib.Core.List.{List}
use mathlib.Core.Logic.{◌⊎◌, inl, inr, ⊎_elim, ◌↔◌}
use Prim.Native.Nat.{ℕ, zero, suc, ◌+◌, ◌-◌, ◌≤◌, ◌<◌}
use native.Mathlib.Nat.{sub-zero, zero-add, eq-or-lt_of_le}
use native.Mathlib.Numerals.{add-one}
use native.Mathlib.Omega.{arith}
use Rattle.std.specs.declared.cmp.Ordering.{Ordering}
use Rattle.std.specs.declared.cmp.Ordering.TheVariants.{Less, Equal, Greater}
use Rattle.field.specs.Order.{order_of}
use Rattle.page.proofs.EntryLaws.{rising_far}
use Rattle.field.proofs.OrderLaws.{order_refl, order_equal, lower_trans, lower_iff}
use Rattle.page.specs.declared.search.Place.{Place}
use Rattle.page.specs.Layout.{count_of, key_of}
use Rattle.page.specs.PageRules.{SoundBlock}
use Rattle.page.specs.Search.{place_at, scan_from, place_of}

-- ---- the scan
module _ (leaf : Bool) (b key : List ℕ) (n : ℕ) where
  scan_skip : (i : ℕ) → i < n → order_of (key_of leaf b i) key ≡ Less → scan_from leaf b key (n - i) i ≡ scan_from leaf b key (n - (i + 1)) (i + 1)
  unfolding scan_from
  scan_skip i l h = let e : n - i ≡ suc (n - (i + 1)) = omega arith in rw (e, h)

  scan_equal : (i : ℕ) → i < n → order_of (key_of leaf b i) key ≡ Equal → scan_from leaf b key (n - i) i ≡ record { at = i; found = true }
  unfolding scan_from
  scan_equal i l h = let e : n - i ≡ suc (n - (i + 1)) = omega arith in rw (e, h)

  scan_higher : (i : ℕ) → i < n → order_of (key_of leaf b i) key ≡ Greater → scan_from leaf b key (n - i) i ≡ record { at = i - 1; found = false }
  unfolding scan_from
  scan_higher i l h = let e : n - i ≡ suc (n - (i + 1)) = omega arith in rw (e, h)

  scan-end : (i : ℕ) → i ≡ n → scan_from leaf b key (n - i) i ≡ record { at = i - 1; found = false }
  unfolding scan_from
  scan-end i l = let e : n - i ≡ 0 = omega arith in rw e

  scan_to : (m : ℕ) → m ≤ n → ((k : ℕ) → k < m → order_of (key_of leaf b k) key ≡ Less) → scan_from leaf b key n 0 ≡ scan_from leaf b key (n - m) m
  scan_to zero l h = rw (sub-zero n)
  scan_to (suc m) l h = scan_to m (omega arith) (λ k q. h k (omega arith)) ∙ rw add-one at (scan_skip m (omega arith) (h m (omega arith)))

-- where the keys before m are lower and the key of m is equal, or those from m on are higher
module _ (leaf : Bool) (b key : List ℕ) (n : ℕ) (all : n ≡ count_of b) (m : ℕ) (before : (k : ℕ) → k < m → order_of (key_of leaf b k) key ≡ Less) where
  pub index_found : m < n → order_of (key_of leaf b m) key ≡ Equal → place_of leaf b key ≡ record { at = m; found = true }
  unfolding place_of
  index_found l e = rw (sym all) (scan_to leaf b key n m (omega arith) before ∙ scan_equal leaf b key n m l e)

  pub index_missing : m ≤ n → ((k : ℕ) → m ≤ k → k < n → order_of (key_of leaf b k) key ≡ Greater) → place_of leaf b key ≡ record { at = m - 1; found = false }
  unfolding place_of
  index_missing l g =
      rw (sym all)
      (scan_to leaf b key n m l before
      ∙ ⊎_elim (λ q. scan-end leaf b key n m q) (λ q. scan_higher leaf b key n m q (g m (omega arith) q)) (eq-or-lt_of_le l))

-- ---- a sound block's keys
module _ (leaf empty_ok : Bool) (b : List ℕ) (sound : SoundBlock leaf empty_ok b) (key : List ℕ) (mid : ℕ) (l : mid < count_of b) where
  pub before_equal : order_of (key_of leaf b mid) key ≡ Equal → (k : ℕ) → k < mid → order_of (key_of leaf b k) key ≡ Less
  before_equal e k q = rw (order_equal (key_of leaf b mid) key e) at (rising_far leaf empty_ok b sound k mid q l)

  pub up_to_lower : order_of (key_of leaf b mid) key ≡ Less → (k : ℕ) → k < mid + 1 → order_of (key_of leaf b k) key ≡ Less
  up_to_lower e k q =
      let h : k ≤ mid = omega arith in
      ⊎_elim
      (λ r. ap (λ (j : ℕ). order_of (key_of leaf b j) key) r ∙ e)
      (λ r. lower_trans (key_of leaf b k) (key_of leaf b mid) key (rising_far leaf empty_ok b sound k mid r l) e)
      (eq-or-lt_of_le h)

  pub from_higher_on : order_of (key_of leaf b mid) key ≡ Greater → (k : ℕ) → mid ≤ k → k < count_of b → order_of (key_of leaf b k) key ≡ Greater
  from_higher_on e k q m =
      let f : order_of key (key_of leaf b mid) ≡ Less = (lower_iff key (key_of leaf b mid)).1 e in
      ⊎_elim
      (λ r. ap (λ (j : ℕ). order_of (key_of leaf b j) key) (sym r) ∙ e)
      (λ r. (lower_iff key (key_of leaf b k)).0 (lower_trans key (key_of leaf b mid) (key_of leaf b k) f (rising_far leaf empty_ok b sound mid k r m)))
      (eq-or-lt_of_le q)

-- ---- what the scan answers, for any block: the first key that is not lower decides
pub data Scanned (leaf : Bool) (b key : List ℕ) (p : Place) : Type 0 where
  here : (m : ℕ) → m < count_of b → ((k : ℕ) → k < m → order_of (key_of leaf b k) key ≡ Less) → order_of (key_of leaf b m) key ≡ Equal
      → p ≡ record { at = m; found = true } → Scanned leaf b key p
  nowhere : (m : ℕ) → m ≤ count_of b → ((k : ℕ) → k < m → order_of (key_of leaf b k) key ≡ Less) → (m < count_of b → order_of (key_of leaf b m) key ≡ Greater)
      → p ≡ record { at = m - 1; found = false } → Scanned leaf b key p

not_both : (p : Place) (i j : ℕ) → p ≡ record { at = i; found = true } → p ≡ record { at = j; found = false } → ⊥
not_both p i j e f =
    let t : true ≡ false = ap (λ (x : Place). x.found) (sym e ∙ f) in
    let z : ◌≡◌ {A = ℕ} 0 1 = cc in
    omega arith

module _ (leaf : Bool) (b key : List ℕ) where
  scanned_from : (k i : ℕ) → i + k ≡ count_of b → ((j : ℕ) → j < i → order_of (key_of leaf b j) key ≡ Less) → Scanned leaf b key (scan_from leaf b key k i)
  unfolding scan_from
  scanned_from zero i e h = nowhere i (omega arith) h (λ l. absurd (omega arith)) refl
  scanned_from (suc k) i e h = go (scanned_from k (i + 1) (omega arith)) (order_of (key_of leaf b i) key) refl
    where
      go : (((j : ℕ) → j < i + 1 → order_of (key_of leaf b j) key ≡ Less) → Scanned leaf b key (scan_from leaf b key k (i + 1)))
          → (o : Ordering) → order_of (key_of leaf b i) key ≡ o → Scanned leaf b key (place_at (order_of (key_of leaf b i) key) i (scan_from leaf b key k (i + 1)))
      go ih Less q = rw q (ih (λ j l. ⊎_elim (λ r. ap (λ (n : ℕ). order_of (key_of leaf b n) key) r ∙ q) (λ r. h j r) (eq-or-lt_of_le (below j l))))
        where
          below : (j : ℕ) → j < i + 1 → j ≤ i
          below j l = omega arith
      go ih Equal q = rw q (here i (omega arith) h q refl)
      go ih Greater q = rw q (nowhere i (omega arith) h (λ l. q) refl)

  pub scanned : Scanned leaf b key (place_of leaf b key)
  unfolding place_of
  scanned = scanned_from (count_of b) 0 (zero-add (count_of b)) (λ j l. absurd (omega arith))

  -- found at i: i is an element, and its key is the one looked for
  pub found_at : (i : ℕ) → place_of leaf b key ≡ record { at = i; found = true } → (i < count_of b) × (key_of leaf b i ≡ key)
  found_at i e = go scanned
    where
      go : Scanned leaf b key (place_of leaf b key) → (i < count_of b) × (key_of leaf b i ≡ key)
      go (here m l h q p) =
          let same : m ≡ i = ap (λ (x : Place). x.at) (sym p ∙ e) in
          (omega arith, ap (key_of leaf b) (sym same) ∙ order_equal (key_of leaf b m) key q)
      go (nowhere m l h g p) = absurd (not_both _ i (m - 1) e p)

-- ---- and for a sound block
pub record Missing (leaf : Bool) (b key : List ℕ) (at : ℕ) : Type 0 where
  pub place : ℕ
  pub upto : place ≤ count_of b
  pub told : at ≡ place - 1
  pub lower : (k : ℕ) → k < place → order_of (key_of leaf b k) key ≡ Less
  pub higher : (k : ℕ) → place ≤ k → k < count_of b → order_of (key_of leaf b k) key ≡ Greater

module _ (leaf empty_ok : Bool) (b : List ℕ) (sound : SoundBlock leaf empty_ok b) (key : List ℕ) where
  -- a key that is there is found at its index
  pub present : (i : ℕ) → i < count_of b → key_of leaf b i ≡ key → place_of leaf b key ≡ record { at = i; found = true }
  present i l e =
      let q : order_of (key_of leaf b i) key ≡ Equal = rw e (order_refl key) in
      index_found leaf b key (count_of b) refl i (before_equal leaf empty_ok b sound key i l q) l q

  pub found_iff_lem : (i : ℕ) → (place_of leaf b key ≡ record { at = i; found = true }) ↔ ((i < count_of b) × (key_of leaf b i ≡ key))
  found_iff_lem i = (found_at leaf b key i, λ h. present i h.0 h.1)

  -- not found: the keys below the insertion place are lower and those from it on higher, and what is told is the place before it, never below 0
  pub missing_at : (at : ℕ) → place_of leaf b key ≡ record { at = at; found = false } → Missing leaf b key at
  missing_at at e = go (scanned leaf b key)
    where
      go : Scanned leaf b key (place_of leaf b key) → Missing leaf b key at
      go (here m l h q p) = absurd (not_both _ m at p e)
      go (nowhere m l h g p) =
          record {
            place = m;
            upto = l;
            told = ap (λ (x : Place). x.at) (sym e ∙ p);
            lower = h;
            higher = λ k a c. from_higher_on leaf empty_ok b sound key m (omega arith) (g (omega arith)) k a c;
          }

  pub missing_none : (at : ℕ) → place_of leaf b key ≡ record { at = at; found = false } → (k : ℕ) → k < count_of b → key_of leaf b k ≡ key → ⊥
  missing_none at e k l same = not_both _ k at (present k l same) e

  pub absent_iff_lem : ((place_of leaf b key).found ≡ false) ↔ ((k : ℕ) → k < count_of b → key_of leaf b k ≡ key → ⊥)
  absent_iff_lem = (λ e. there e (scanned leaf b key), λ h. back h (scanned leaf b key))
    where
      there : (place_of leaf b key).found ≡ false → Scanned leaf b key (place_of leaf b key) → (k : ℕ) → k < count_of b → key_of leaf b k ≡ key → ⊥
      there e (here m l h q p) = let t : true ≡ false = ap (λ (x : Place). x.found) (sym p) ∙ e in absurd (let z : ◌≡◌ {A = ℕ} 0 1 = cc in omega arith)
      there e (nowhere m l h g p) = missing_none (m - 1) p

      back : ((k : ℕ) → k < count_of b → key_of leaf b k ≡ key → ⊥) → Scanned leaf b key (place_of leaf b key) → (place_of leaf b key).found ≡ false
      back none (here m l h q p) = absurd (none m l (order_equal (key_of leaf b m) key q))
      back none (nowhere m l h g p) = ap (λ (x : Place). x.found) p

  -- the place that is told is 0, or its key is lower
  pub missing_lower : (at : ℕ) → place_of leaf b key ≡ record { at = at; found = false } → (at ≡ 0) ⊎ (order_of (key_of leaf b at) key ≡ Less)
  missing_lower at e =
      let m = missing_at at e in
      let t = m.told in
      ⊎_elim (λ z. inl (omega arith)) (λ l. inr (m.lower at (omega arith))) (eq-or-lt_of_le (from_zero m.place))
    where
      from_zero : (n : ℕ) → 0 ≤ n
      from_zero n = omega arith

  -- and every later key is higher
  pub missing_higher : (at : ℕ) → place_of leaf b key ≡ record { at = at; found = false } → (k : ℕ) → at < k → k < count_of b → order_of (key_of leaf b k) key ≡ Greater
  missing_higher at e k l n =
      let m = missing_at at e in
      let t = m.told in
      m.higher k (omega arith) n

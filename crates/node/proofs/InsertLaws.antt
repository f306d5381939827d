-- Where an entry is inserted: in place of an equal key, and else between the lower keys and the higher ones.
-- Assumes nothing.
use mathlib.Core.Path.{◌≡◌, refl, sym, ap}
use mathlib.Core.Bool.{Bool, true, false}
use mathlib.Core.List.{List, ◌∷◌}
use mathlib.Core.Logic.{⊎_elim}
use Prim.Native.Nat.{ℕ, zero, suc, ◌+◌, ◌≤◌, ◌<◌}
use native.Mathlib.Nat.{add-zero, zero-add, eq-or-lt_of_le}
use native.Mathlib.Numerals.{add-one}
use native.Mathlib.Omega.{arith}
use Rattle.std.specs.declared.cmp.Ordering.{Ordering}
use Rattle.std.specs.declared.cmp.Ordering.TheVariants.{Less, Equal, Greater}
use Rattle.std.specs.Ordering.{is_lt}
use Rattle.field.specs.Order.{order_of}
use Rattle.field.proofs.OrderLaws.{order_refl}
use Rattle.page.specs.declared.search.Place.{Place}
use Rattle.page.specs.Layout.{Entry, count_of, key_of, entry_of, entries_from, entries_of}
use Rattle.page.specs.PageRules.{SoundBlock}
use Rattle.page.proofs.SearchLaws.{Missing, before_equal}
use Rattle.pack.specs.Plan.{entry_with, insert_at, replace_at}
use Rattle.node.specs.Edit.{inserted}
use Rattle.node.specs.Neighbours.{Between}

-- ---- among the k entries from i on
module _ (leaf : Bool) (b : List ℕ) (e : Entry) where
  insert_from : (k i m : ℕ) → m ≤ k → ((j : ℕ) → i ≤ j → j < i + m → order_of (key_of leaf b j) e.key ≡ Less)
      → (m < k → order_of (key_of leaf b (i + m)) e.key ≡ Greater) → inserted e (entries_from leaf b k i) ≡ insert_at m e (entries_from leaf b k i)
  unfolding inserted entries_from
  insert_from zero i zero l low high = refl
  insert_from zero i (suc m) l low high = absurd (omega arith)
  insert_from (suc k) i zero l low high = let h = high (omega arith) in rw (rw add-zero at h)
  insert_from (suc k) i (suc m) l low high =
      let z : i + 1 + m ≡ i + suc m = omega arith in
      rw (low i (omega arith) (omega arith))
      (ap (λ (es : List Entry). entry_of leaf b i ∷ es) (insert_from k (i + 1) m (omega arith) (λ j p q. low j (omega arith) (omega arith)) (λ q. rw z (high (omega arith)))))

  replace_from : (k i m : ℕ) → m < k → ((j : ℕ) → i ≤ j → j < i + m → order_of (key_of leaf b j) e.key ≡ Less)
      → order_of (key_of leaf b (i + m)) e.key ≡ Equal → inserted e (entries_from leaf b k i) ≡ replace_at m e (entries_from leaf b k i)
  unfolding inserted entries_from
  replace_from zero i m l low same = absurd (omega arith)
  replace_from (suc k) i zero l low same = rw (rw add-zero at same)
  replace_from (suc k) i (suc m) l low same =
      let z : i + 1 + m ≡ i + suc m = omega arith in
      rw (low i (omega arith) (omega arith), add-one (suc m))
      (ap (λ (es : List Entry). entry_of leaf b i ∷ es)
      (rw (add-one m) at (replace_from k (i + 1) m (omega arith) (λ j p q. low j (omega arith) (omega arith)) (rw z same))))

-- ---- in a block
module _ (leaf : Bool) (b : List ℕ) (tag : ℕ) (key value : List ℕ) (i : ℕ) where
  pub insert_between : Between leaf b key i → inserted (entry_with tag key value) (entries_of leaf b) ≡ insert_at i (entry_with tag key value) (entries_of leaf b)
  unfolding entries_of
  insert_between h =
      insert_from leaf b (entry_with tag key value) (count_of b) 0 i h.upto (λ j p q. h.lower j (omega arith))
      (λ l. rw zero-add (h.higher i (omega arith) l))

  pub insert_equal : SoundBlock leaf true b → i < count_of b → key_of leaf b i ≡ key
      → inserted (entry_with tag key value) (entries_of leaf b) ≡ replace_at i (entry_with tag key value) (entries_of leaf b)
  unfolding entries_of
  insert_equal s l same =
      let q : order_of (key_of leaf b i) key ≡ Equal = rw same (order_refl key) in
      replace_from leaf b (entry_with tag key value) (count_of b) 0 i l (λ j p m. before_equal leaf true b s key i l q j (omega arith)) (rw zero-add q)

-- ---- by what the search told
pub place_is : (p : Place) (t : Bool) → p.found ≡ t → p ≡ record { at = p.at; found = t }
place_is p t h = rw (sym h)

module _ (leaf : Bool) (b key : List ℕ) (at : ℕ) (m : Missing leaf b key at) where
  between : (i : ℕ) → i ≡ m.place → Between leaf b key i
  between i e =
      let u = m.upto in
      record { upto = omega arith; lower = λ k l. m.lower k (omega arith); higher = λ k l n. m.higher k (omega arith) n }

  module _ (l : at < count_of b) where
    at_place : at ≤ m.place
    at_place = let t = m.told in omega arith

    pub after_lower : order_of (key_of leaf b at) key ≡ Less → Between leaf b key (at + 1)
    after_lower e =
        let t = m.told in
        ⊎_elim
        (λ q. let h = m.higher at (omega arith) l in absurd (let z : ◌≡◌ {A = ℕ} 0 1 = cc in omega arith))
        (λ q. between (at + 1) (omega arith))
        (eq-or-lt_of_le at_place)

    at_higher : order_of (key_of leaf b at) key ≡ Greater → Between leaf b key at
    at_higher e =
        ⊎_elim
        (λ q. between at q)
        (λ q. let h = m.lower at q in absurd (let z : ◌≡◌ {A = ℕ} 0 1 = cc in omega arith))
        (eq-or-lt_of_le at_place)

    never_equal : order_of (key_of leaf b at) key ≡ Equal → ⊥
    never_equal e =
        ⊎_elim
        (λ q. let h = m.higher at (omega arith) l in let z : ◌≡◌ {A = ℕ} 0 1 = cc in omega arith)
        (λ q. let h = m.lower at q in let z : ◌≡◌ {A = ℕ} 0 1 = cc in omega arith)
        (eq-or-lt_of_le at_place)

    pub not_lower : is_lt (order_of (key_of leaf b at) key) ≡ false → Between leaf b key at
    not_lower h = go (order_of (key_of leaf b at) key) refl
      where
        go : (o : Ordering) → order_of (key_of leaf b at) key ≡ o → Between leaf b key at
        go Less e = absurd (let t : is_lt Less ≡ false = rw e at h in let z : ◌≡◌ {A = ℕ} 0 1 = cc in omega arith)
        go Equal e = absurd (never_equal e)
        go Greater e = at_higher e

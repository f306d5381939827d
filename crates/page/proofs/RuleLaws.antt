-- What a loop that looks for the first bad element has to know, what the code of each rule tests, and that a check finds nothing in the sound
-- blocks and no others.
-- Assumes nothing.
use mathlib.Core.Path.{◌≡◌, refl, sym, ap, ◌∙◌}
use mathlib.Core.Bool.{Bool, true, false, not, ◌&&◌, ◌||◌, and-false}
use mathlib.Core.List.{List}
use mathlib.Core.Logic.{◌⊎◌, inl, inr, ⊎_elim, ◌↔◌}
use Prim.Native.Nat.{ℕ, zero, suc, ◌+◌, ◌-◌, ◌*◌, ◌/◌, ◌≤◌, ◌<◌}
use native.Mathlib.Nat.{eq-or-lt_of_le}
use native.Mathlib.Omega.{arith}
use lib.Dec.{ltb, eqb}
use lib.ListN.{length}
use borrow.Author.Tests.{le-ltb, ltb-false, lt-leb, leb-false, eq-eqb, ne_eqb, eqb-true, not-false}
use Rattle.std.specs.declared.cmp.Ordering.{Ordering}
use Rattle.std.specs.declared.cmp.Ordering.TheVariants.{Less}
use Rattle.field.specs.declared.order.Parting.{Parting}
use Rattle.field.specs.Order.{order_of, parting_of}
use Rattle.std.specs.Ordering.{is_lt}
use Rattle.field.proofs.OrderLaws.{is_lt_lem}
use Rattle.page.specs.Layout.{id_of, overflow_of, is_branch, count_of, element_size, element_at, pos_of, key_size, value_size, table_end, is_leaf, key_at, value_at, value_end, key_of}
use Rattle.page.specs.PageRules.{header_bad, and_then, breach_if, no_common, first_bad, outside, table_bad, element_bad, key_bad, common_before, kind_bad, kind_bad_at, elements_of, check_of, SoundBlock, breach, Verdict}
use Rattle.page.proofs.TestLaws.{ltb_same, and_both, or_neither}
use Rattle.std.specs.Prelude.{Ok, Err}
use Rattle.field.specs.declared.refusal.Refusal.TheVariants.{Table, Element, KeyOrder}
use Rattle.field.specs.declared.refusal.Refusal.{Refusal}
use Rattle.page.specs.declared.breach.Breach.{Breach}

-- ---- the first bad element, from i on and below n
-- two breaches that are the same have all in common
pub same_breach : {r s : Refusal} {i j c d : ℕ} → ◌≡◌ {A = Verdict} (Err (breach r i c)) (Err (breach s j d)) → (r ≡ s) × (i ≡ j) × (c ≡ d)
same_breach {r} {s} {i} {j} {c} {d} e =
    let b : breach r i c ≡ breach s j d = cc in
    (ap (λ (x : Breach). x.refusal) b, ap (λ (x : Breach). x.element) b, ap (λ (x : Breach). x.common) b)

module _ (bad : ℕ → Bool) (common : ℕ → ℕ) (refusal : Refusal) (n i : ℕ) where
  pub bad_skip : i < n → bad i ≡ false → first_bad bad common refusal (n - i) i ≡ first_bad bad common refusal (n - (i + 1)) (i + 1)
  unfolding first_bad
  bad_skip l h = let e : n - i ≡ suc (n - (i + 1)) = omega arith in rw (e, h)

  pub bad_here : i < n → bad i ≡ true → first_bad bad common refusal (n - i) i ≡ Err (breach refusal i (common i))
  unfolding first_bad
  bad_here l h = let e : n - i ≡ suc (n - (i + 1)) = omega arith in rw (e, h)

  pub bad_none : n ≤ i → first_bad bad common refusal (n - i) i ≡ Ok tt
  unfolding first_bad
  bad_none l = let e : n - i ≡ 0 = omega arith in rw e

-- it finds nothing where no element is bad, and only there
pub none_bad : (bad : ℕ → Bool) (common : ℕ → ℕ) (refusal : Refusal) (k i : ℕ) → ((j : ℕ) → i ≤ j → j < i + k → bad j ≡ false) → first_bad bad common refusal k i ≡ Ok tt
unfolding first_bad
none_bad bad common refusal zero i h = refl
none_bad bad common refusal (suc k) i h = rw (h i (omega arith) (omega arith)) (none_bad bad common refusal k (i + 1) (λ j l m. h j (omega arith) (omega arith)))

pub bad_none_at : (bad : ℕ → Bool) (common : ℕ → ℕ) (refusal : Refusal) (k i : ℕ) → first_bad bad common refusal k i ≡ Ok tt → (j : ℕ) → i ≤ j → j < i + k → bad j ≡ false
unfolding first_bad
bad_none_at bad common refusal zero i e j l m = absurd (omega arith)
bad_none_at bad common refusal (suc k) i e j l m = go (bad_none_at bad common refusal k (i + 1)) (bad i) refl
  where
    go : (first_bad bad common refusal k (i + 1) ≡ Ok tt → (j : ℕ) → i + 1 ≤ j → j < i + 1 + k → bad j ≡ false) → (t : Bool) → bad i ≡ t → bad j ≡ false
    go ih true p = absurd (let f : Err (breach refusal i (common i)) ≡ Ok tt = rw p at e in let z : ◌≡◌ {A = ℕ} 0 1 = cc in omega arith)
    go ih false p = ⊎_elim (λ q. ap bad (sym q) ∙ p) (λ q. ih (rw p at e) j (omega arith) (omega arith)) (eq-or-lt_of_le l)

-- ---- what the code of each rule tests

-- rule 5
table_least : (leaf : Bool) (b : List ℕ) → 32 ≤ length b → count_of b ≡ 0 → table_end leaf b ≤ length b
table_least false b h e = omega arith
table_least true b h e = omega arith

table_fits : (leaf : Bool) (l n : ℕ) → 32 ≤ l → ltb ((l - 32) / element_size leaf) n ≡ ltb l (element_at leaf n)
table_fits false l n h = ltb_same ((l - 32) / 24) n l (32 + 24 * n) (λ p. omega arith) (λ p. omega arith)
table_fits true l n h = ltb_same ((l - 32) / 32) n l (32 + 32 * n) (λ p. omega arith) (λ p. omega arith)

pub table_none : (leaf empty : Bool) (b : List ℕ) → 32 ≤ length b → count_of b ≡ 0 → table_bad leaf empty b ≡ not empty
unfolding table_bad
table_none leaf false b h e = rw (eq-eqb (count_of b) 0 e)
table_none leaf true b h e = rw (eq-eqb (count_of b) 0 e, le-ltb (length b) (table_end leaf b) (table_least leaf b h e))

pub table_over : (leaf empty : Bool) (b : List ℕ) (n : ℕ) → 32 ≤ length b → n ≡ count_of b → (n ≡ 0 → ⊥) → ltb ((length b - 32) / element_size leaf) n ≡ table_bad leaf empty b
unfolding table_bad
table_over leaf empty b n h e z = rw (table_fits leaf (length b) n h, e, ne_eqb (count_of b) 0 (λ f. z (e ∙ f)))

-- rule 6: what was read of an element, and its two tests
pub element_test : (leaf : Bool) (b : List ℕ) (i end pos key value : ℕ) (out kind : Bool)
    → end ≡ table_end leaf b → pos ≡ pos_of leaf b i → key ≡ key_size leaf b i → value ≡ value_size leaf b i
    → out ≡ outside end (length b) (element_at leaf i + pos) (element_at leaf i + pos + key + value) → kind ≡ kind_bad_at leaf b i
    → element_bad leaf b i ≡ (out || kind)
unfolding element_bad
element_test leaf b i end pos key value out kind p q r s o k = rw (o, k, p, q, r, s)

-- rule 7, by what a comparison of the key before and its own answered
module _ (leaf : Bool) (b : List ℕ) (i : ℕ) (p : Parting) (e : p ≡ parting_of (key_of leaf b (i - 1)) (key_of leaf b i)) where
  pub key_test : (t : Bool) → t ≡ is_lt p.order → key_bad leaf b i ≡ not t
  unfolding key_bad
  key_test t h = ap not (sym (h ∙ ap (λ (q : Parting). is_lt q.order) e))

  pub key_common : p.common ≡ common_before leaf b i
  key_common = ap (λ (q : Parting). q.common) e

-- ---- rule 4 in words
module _ (N q : ℕ) (s : List ℕ) where
  pub header_good : header_bad N q s ≡ false → (id_of s ≡ q) × ((is_branch s || is_leaf s) ≡ true) × (q + overflow_of s < N)
  unfolding header_bad
  header_good e =
      let both = or_neither _ _ e in
      let rest = or_neither _ _ both.1 in
      (eqb-true _ _ (not-false _ both.0), not-false _ rest.0, leb-false _ _ rest.1)

  good_header : id_of s ≡ q → (is_branch s || is_leaf s) ≡ true → q + overflow_of s < N → header_bad N q s ≡ false
  unfolding header_bad
  good_header i t h = rw (eq-eqb (id_of s) q i, t, lt-leb N (q + overflow_of s) h)

  pub header_iff : (header_bad N q s ≡ false) ↔ ((id_of s ≡ q) × ((is_branch s || is_leaf s) ≡ true) × (q + overflow_of s < N))
  header_iff = (header_good, λ h. good_header h.0 h.1 h.2)

-- ---- the kinds of rule 6 in words
pub kind_iff : (kind size : ℕ) → (kind_bad kind size ≡ false) ↔ ((kind ≡ 0) ⊎ ((kind ≡ 1) × (size ≡ 16)))
kind_iff kind size = (λ e. there (eqb kind 0) refl e, ⊎_elim (λ e. rw (eq-eqb kind 0 e)) (λ h. back h.0 h.1))
  where
    there : (t : Bool) → eqb kind 0 ≡ t → kind_bad kind size ≡ false → (kind ≡ 0) ⊎ ((kind ≡ 1) × (size ≡ 16))
    there true z e = inl (eqb-true kind 0 z)
    there false z e =
        let f : (eqb kind 1 && eqb size 16) ≡ true = not-false _ (rw z at e) in
        let both = and_both _ _ f in
        inr (eqb-true kind 1 both.0, eqb-true size 16 both.1)

    back : kind ≡ 1 → size ≡ 16 → kind_bad kind size ≡ false
    back k s = rw (k, s)

-- ---- verdicts taken apart
pub and_sound : (v w : Verdict) → and_then v w ≡ Ok tt → (v ≡ Ok tt) × (w ≡ Ok tt)
and_sound (Ok u) w e = (refl, e)
and_sound (Err b) w e = absurd (let z : ◌≡◌ {A = ℕ} 0 1 = cc in omega arith)

pub breach_if_sound : (bad : Bool) (refusal : Refusal) (v : Verdict) → breach_if bad refusal v ≡ Ok tt → (bad ≡ false) × (v ≡ Ok tt)
breach_if_sound true refusal v e = absurd (let z : ◌≡◌ {A = ℕ} 0 1 = cc in omega arith)
breach_if_sound false refusal v e = (refl, e)

-- ---- a check finds nothing in the sound blocks alone
module _ (leaf empty_ok : Bool) (b : List ℕ) where
  pub table_good : table_bad leaf empty_ok b ≡ false → (count_of b ≡ 0 → empty_ok ≡ true) × (table_end leaf b ≤ length b)
  unfolding table_bad
  table_good e =
      let both = or_neither (eqb (count_of b) 0 && not empty_ok) (ltb (length b) (table_end leaf b)) e in
      (λ z. not-false empty_ok (rw (eq-eqb (count_of b) 0 z) at both.0), ltb-false _ _ both.1)

  good_table : (count_of b ≡ 0 → empty_ok ≡ true) → table_end leaf b ≤ length b → table_bad leaf empty_ok b ≡ false
  unfolding table_bad
  good_table f h = go (eqb (count_of b) 0) refl
    where
      go : (t : Bool) → eqb (count_of b) 0 ≡ t → ((eqb (count_of b) 0 && not empty_ok) || ltb (length b) (table_end leaf b)) ≡ false
      go true e = rw (f (eqb-true _ _ e), and-false, le-ltb (length b) (table_end leaf b) h)
      go false e = rw (e, le-ltb (length b) (table_end leaf b) h)

module _ (leaf : Bool) (b : List ℕ) (i : ℕ) where
  pub element_good : element_bad leaf b i ≡ false → (table_end leaf b ≤ key_at leaf b i) × (value_end leaf b i ≤ length b) × (kind_bad_at leaf b i ≡ false)
  unfolding element_bad
  element_good e =
      let both = or_neither _ _ e in
      let ends = or_neither _ _ both.0 in
      (ltb-false _ _ ends.0, ltb-false _ _ ends.1, both.1)

  pub good_element : table_end leaf b ≤ key_at leaf b i → value_end leaf b i ≤ length b → kind_bad_at leaf b i ≡ false → element_bad leaf b i ≡ false
  unfolding element_bad
  good_element p q k = rw (le-ltb (key_at leaf b i) (table_end leaf b) p, le-ltb (length b) (value_end leaf b i) q, k)

module _ (leaf empty_ok : Bool) (b : List ℕ) where
  pub check_sound : check_of leaf empty_ok b ≡ Ok tt → SoundBlock leaf empty_ok b
  unfolding check_of key_bad
  check_sound e =
      let first = breach_if_sound _ _ _ e in
      let table = table_good leaf empty_ok b first.0 in
      let rest = and_sound _ _ first.1 in
      let good : (i : ℕ) → i < count_of b → (table_end leaf b ≤ key_at leaf b i) × (value_end leaf b i ≤ length b) × (kind_bad_at leaf b i ≡ false) =
      λ i l. element_good leaf b i (bad_none_at (element_bad leaf b) no_common Element (count_of b) 0 rest.0 i (omega arith) (omega arith)) in
      record {
        filled = table.0;
        fits = table.1;
        after = λ i l. (good i l).0;
        within = λ i l. (good i l).1;
        kinds = λ i l. (good i l).2;
        rising = λ i l.
            let same : i + 1 - 1 ≡ i = omega arith in
            let o : order_of (key_of leaf b (i + 1 - 1)) (key_of leaf b (i + 1)) ≡ Less = is_lt_lem _ (not-false _ (bad_none_at (key_bad leaf b) (common_before leaf b) KeyOrder (count_of b - 1) 1 rest.1 (i + 1) (omega arith) (omega arith))) in
            rw same at o;
      }

  pub sound_check : SoundBlock leaf empty_ok b → check_of leaf empty_ok b ≡ Ok tt
  unfolding check_of key_bad
  sound_check s =
      rw (
        good_table leaf empty_ok b s.filled s.fits,
        none_bad (element_bad leaf b) no_common Element (count_of b) 0 (λ j l m. good_element leaf b j (s.after j (omega arith)) (s.within j (omega arith)) (s.kinds j (omega arith))),
      )
      (none_bad (key_bad leaf b) (common_before leaf b) KeyOrder (count_of b - 1) 1 (λ j l m. ap (λ (o : Ordering). not (is_lt o)) (before j l (omega arith))))
    where
      before : (j : ℕ) → 1 ≤ j → j < count_of b → order_of (key_of leaf b (j - 1)) (key_of leaf b j) ≡ Less
      before j l m = let e : j - 1 + 1 ≡ j = omega arith in rw e at (s.rising (j - 1) (omega arith))

  pub sound_iff : (check_of leaf empty_ok b ≡ Ok tt) ↔ SoundBlock leaf empty_ok b
  sound_iff = (check_sound, sound_check)

-- sound, and so sound where a count of 0 is allowed
pub sound_weaker : (leaf empty_ok : Bool) (b : List ℕ) → SoundBlock leaf empty_ok b → SoundBlock leaf true b
sound_weaker leaf empty_ok b s =
    record { filled = λ e. refl; fits = s.fits; after = s.after; within = s.within; kinds = s.kinds; rising = s.rising }

-- ---- the check, a rule at a time
module _ (leaf empty_ok : Bool) (b : List ℕ) where
  pub check_table : table_bad leaf empty_ok b ≡ true → check_of leaf empty_ok b ≡ Err (breach Table 0 0)
  unfolding check_of
  check_table e = rw e

  pub check_elements_lem : table_bad leaf empty_ok b ≡ false → check_of leaf empty_ok b ≡ elements_of leaf b
  unfolding check_of
  check_elements_lem t = rw t

  pub check_stops : table_bad leaf empty_ok b ≡ false → (r : Refusal) (i c : ℕ) → first_bad (element_bad leaf b) no_common Element (count_of b) 0 ≡ Err (breach r i c) → check_of leaf empty_ok b ≡ Err (breach r i c)
  unfolding check_of
  check_stops t r i c e = rw (t, e)

  pub check_goes_on : table_bad leaf empty_ok b ≡ false → first_bad (element_bad leaf b) no_common Element (count_of b) 0 ≡ Ok tt → check_of leaf empty_ok b ≡ first_bad (key_bad leaf b) (common_before leaf b) KeyOrder (count_of b - 1) 1
  unfolding check_of
  check_goes_on t e = rw (t, e)

-- rule 6 passed, each key lies in the block
pub within_all : (leaf : Bool) (b : List ℕ) → first_bad (element_bad leaf b) no_common Element (count_of b) 0 ≡ Ok tt → (i : ℕ) → i < count_of b → value_at leaf b i ≤ length b
within_all leaf b e i l = let g = element_good leaf b i (bad_none_at (element_bad leaf b) no_common Element (count_of b) 0 e i (omega arith) (omega arith)) in omega arith

-- A breach names the first element that breaks its rule, and no earlier rule is broken: a check answers a breach where it is the first, and only there.
-- 02, order 2: a common beginning above 0 is told with 6 alone (`breach_common`).
-- Assumes nothing.
use mathlib.Core.Path.{◌≡◌, refl, sym, ap, ◌∙◌}
use mathlib.Core.Bool.{Bool, true, false, cond}
use mathlib.Core.List.{List}
use mathlib.Core.Logic.{◌⊎◌, inl, inr, ⊎_elim, ◌↔◌}
use Prim.Native.Nat.{ℕ, zero, suc, ◌+◌, ◌-◌, ◌≤◌, ◌<◌}
use native.Mathlib.Nat.{eq-or-lt_of_le}
use native.Mathlib.Omega.{arith}
use Rattle.page.specs.Layout.{count_of}
use Rattle.page.specs.PageRules.{no_common, first_bad, table_bad, element_bad, key_bad, common_before, check_of, breach, Verdict}
use Rattle.page.proofs.RuleLaws.{same_breach, none_bad, bad_none_at, check_table, check_stops, check_goes_on}
use Rattle.std.specs.Prelude.{Ok, Err}
use Rattle.field.specs.declared.refusal.Refusal.TheVariants.{Table, Element, KeyOrder}
use Rattle.field.specs.declared.refusal.Refusal.{Refusal}

-- ---- of the k elements from i on, j is the first that is bad
pub record First (bad : ℕ → Bool) (i k j : ℕ) : Type 0 where
  pub from : i ≤ j
  pub below : j < i + k
  pub here : bad j ≡ true
  pub none : (m : ℕ) → i ≤ m → m < j → bad m ≡ false

pub first_breach : (bad : ℕ → Bool) (common : ℕ → ℕ) (refusal : Refusal) (k i j : ℕ) → First bad i k j → first_bad bad common refusal k i ≡ Err (breach refusal j (common j))
unfolding first_bad
first_breach bad common refusal zero i j f = absurd (omega arith)
first_breach bad common refusal (suc k) i j f = go (λ g. first_breach bad common refusal k (i + 1) j g) (eq-or-lt_of_le f.from)
  where
    go : (First bad (i + 1) k j → first_bad bad common refusal k (i + 1) ≡ Err (breach refusal j (common j))) → (i ≡ j) ⊎ (i < j)
        → cond (bad i) (Err (breach refusal i (common i))) (first_bad bad common refusal k (i + 1)) ≡ Err (breach refusal j (common j))
    go ih (inl q) = rw (ap bad q ∙ f.here) (ap (λ (m : ℕ). Err (breach refusal m (common m))) q)
    go ih (inr q) =
        let b = f.below in
        rw (f.none i (omega arith) q) (ih (record { from = omega arith; below = omega arith; here = f.here; none = λ m l r. f.none m (omega arith) r }))

pub breach_first : (bad : ℕ → Bool) (common : ℕ → ℕ) (refusal : Refusal) (k i : ℕ) (r : Refusal) (j c : ℕ) → first_bad bad common refusal k i ≡ Err (breach r j c) → (r ≡ refusal) × (c ≡ common j) × First bad i k j
unfolding first_bad
breach_first bad common refusal zero i r j c e = absurd (let z : ◌≡◌ {A = ℕ} 0 1 = cc in omega arith)
breach_first bad common refusal (suc k) i r j c e = go (λ g. breach_first bad common refusal k (i + 1) r j c g) (bad i) refl
  where
    go : (first_bad bad common refusal k (i + 1) ≡ Err (breach r j c) → (r ≡ refusal) × (c ≡ common j) × First bad (i + 1) k j) → (t : Bool) → bad i ≡ t
        → (r ≡ refusal) × (c ≡ common j) × First bad i (suc k) j
    go ih true p =
        let f : Err (breach refusal i (common i)) ≡ Err (breach r j c) = rw p at e in
        let s = same_breach f in
        let q = s.1 in
        (sym s.0, sym s.2 ∙ ap common q, record { from = omega arith; below = omega arith; here = ap bad (sym q) ∙ p; none = λ m a b. absurd (omega arith) })
    go ih false p =
        let both = ih (rw p at e) in
        let g = both.2 in (
          both.0,
          both.1,
          record {
            from = omega arith;
            below = omega arith;
            here = g.here;
            none = λ m l r. ⊎_elim (λ q. ap bad (sym q) ∙ p) (λ q. g.none m (omega arith) r) (eq-or-lt_of_le l);
          },
        )

-- ---- the first breach of rules 5 to 7
pub data FirstBreach (leaf empty_ok : Bool) (b : List ℕ) (refusal : Refusal) (i common : ℕ) : Type 0 where
  table : refusal ≡ Table → i ≡ 0 → common ≡ 0 → table_bad leaf empty_ok b ≡ true → FirstBreach leaf empty_ok b refusal i common
  element : refusal ≡ Element → common ≡ 0 → table_bad leaf empty_ok b ≡ false → First (element_bad leaf b) 0 (count_of b) i → FirstBreach leaf empty_ok b refusal i common
  key : refusal ≡ KeyOrder → common ≡ common_before leaf b i → table_bad leaf empty_ok b ≡ false → ((j : ℕ) → j < count_of b → element_bad leaf b j ≡ false)
      → First (key_bad leaf b) 1 (count_of b - 1) i → FirstBreach leaf empty_ok b refusal i common

module _ (leaf empty_ok : Bool) (b : List ℕ) (refusal : Refusal) (i common : ℕ) where
  pub check_breach : check_of leaf empty_ok b ≡ Err (breach refusal i common) → FirstBreach leaf empty_ok b refusal i common
  check_breach e = go (table_bad leaf empty_ok b) refl
    where
      rest : table_bad leaf empty_ok b ≡ false → (v : Verdict) → first_bad (element_bad leaf b) no_common Element (count_of b) 0 ≡ v → FirstBreach leaf empty_ok b refusal i common
      rest t (Ok u) f =
          let last = breach_first (key_bad leaf b) (common_before leaf b) KeyOrder (count_of b - 1) 1 refusal i common (sym (check_goes_on leaf empty_ok b t f) ∙ e) in
          key last.0 last.1 t (λ j l. bad_none_at (element_bad leaf b) no_common Element (count_of b) 0 f j (omega arith) (omega arith)) last.2
      rest t (Err v) f =
          let same : first_bad (element_bad leaf b) no_common Element (count_of b) 0 ≡ Err (breach refusal i common) = f ∙ sym (check_stops leaf empty_ok b t v.refusal v.element v.common f) ∙ e in
          let first = breach_first (element_bad leaf b) no_common Element (count_of b) 0 refusal i common same in
          element first.0 first.1 t first.2

      go : (t : Bool) → table_bad leaf empty_ok b ≡ t → FirstBreach leaf empty_ok b refusal i common
      go true t =
          let f : Err (breach Table 0 0) ≡ Err (breach refusal i common) = sym (check_table leaf empty_ok b t) ∙ e in
          let s = same_breach f in
          table (sym s.0) (sym s.1) (sym s.2) t
      go false t = rest t (first_bad (element_bad leaf b) no_common Element (count_of b) 0) refl

  pub breach_check : FirstBreach leaf empty_ok b refusal i common → check_of leaf empty_ok b ≡ Err (breach refusal i common)
  breach_check (table n z c t) = check_table leaf empty_ok b t ∙ (cc)
  breach_check (element n c t f) =
      check_stops leaf empty_ok b t refusal i common (first_breach (element_bad leaf b) no_common Element (count_of b) 0 i f ∙ (cc))
  breach_check (key n c t h f) =
      check_goes_on leaf empty_ok b t (none_bad (element_bad leaf b) no_common Element (count_of b) 0 (λ j l m. h j (omega arith)))
      ∙ first_breach (key_bad leaf b) (common_before leaf b) KeyOrder (count_of b - 1) 1 i f ∙ (cc)

  pub breach_iff : (check_of leaf empty_ok b ≡ Err (breach refusal i common)) ↔ FirstBreach leaf empty_ok b refusal i common
  breach_iff = (check_breach, breach_check)

  -- a common beginning above 0 is of keys
  pub breach_common : check_of leaf empty_ok b ≡ Err (breach refusal i common) → 0 < common → refusal ≡ KeyOrder
  breach_common e l = go (check_breach e)
    where
      go : FirstBreach leaf empty_ok b refusal i common → refusal ≡ KeyOrder
      go (table n z c t) = absurd (omega arith)
      go (element n c t f) = absurd (omega arith)
      go (key n c t h f) = n

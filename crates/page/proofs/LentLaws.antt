-- A lent block: what its length and its header say, and that its check finds nothing in the sound ones and no others.
-- 02, order 2: a common beginning above 0 is told with 6 alone (`lent_common`).
-- Assumes nothing.
use mathlib.Core.Path.{◌≡◌, refl, sym, ◌∙◌}
use mathlib.Core.Bool.{Bool, true, false}
use mathlib.Core.List.{List}
use mathlib.Core.Logic.{◌↔◌}
use Prim.Native.Nat.{ℕ, ◌+◌, ◌-◌, ◌*◌, ◌/◌, ◌%◌, ◌≤◌, ◌<◌}
use native.Mathlib.Nat.{one-mul, le-div_iff_mul-le, div-add-mod', div-eq_of_eq-mul_left}
use native.Mathlib.Omega.{arith}
use lib.Dec.{eqb}
use lib.ListN.{length}
use borrow.Author.Tests.{leb-true, eqb-true, not-false}
use Rattle.page.specs.Layout.{is_leaf}
use Rattle.page.specs.PageRules.{check_of, length_bad, lent_header_bad, lent_check_of, SoundBlock, breach}
use Rattle.field.specs.Sizes.{size_allowed}
use Rattle.page.proofs.TestLaws.{eqb_same, and_both}
use Rattle.page.proofs.RuleLaws.{same_breach, breach_if_sound, check_sound, sound_check, sound_weaker}
use Rattle.page.proofs.FirstBreach.{breach_common}
use Rattle.std.specs.Prelude.{Ok, Err}
use Rattle.field.specs.declared.refusal.Refusal.TheVariants.{Geometry, Header, KeyOrder}
use Rattle.field.specs.declared.refusal.Refusal.{Refusal}

-- a whole number of pages, and one at least
pub record LengthGood (P : ℕ) (b : List ℕ) : Type 0 where
  pub size : 1024 ≤ P
  pub least : P ≤ length b
  pub whole : length b % P ≡ 0

pub size_least : (P : ℕ) → size_allowed P ≡ true → 1024 ≤ P
size_least P e = leb-true 1024 P (and_both _ _ e).0

module _ (P : ℕ) (b : List ℕ) where
  pub length_good : length_bad P b ≡ false → LengthGood P b
  length_good e =
      let both = and_both _ _ (not-false _ e) in
      let rest = and_both _ _ both.1 in
      record { size = size_least P both.0; least = leb-true _ _ rest.0; whole = eqb-true _ _ rest.1 }

  module _ (g : LengthGood P b) where
    pub pages_least : 1 ≤ length b / P
    pages_least = (le-div_iff_mul-le positive).1 (rw one-mul g.least)
      where
        positive : 0 < P
        positive = let s = g.size in omega arith

    pub overflow_test : (o : ℕ) → eqb o (length b / P - 1) ≡ eqb ((o + 1) * P) (length b)
    overflow_test o = eqb_same o (length b / P - 1) ((o + 1) * P) (length b) there back
      where
        there : o ≡ length b / P - 1 → (o + 1) * P ≡ length b
        there e =
            let n = pages_least in
            let f : o + 1 ≡ length b / P = omega arith in
            rw f (omega (arith, div-add-mod' (length b) P, g.whole))

        back : (o + 1) * P ≡ length b → o ≡ length b / P - 1
        back e =
            let s = g.size in
            let f : length b / P ≡ o + 1 = div-eq_of_eq-mul_left (omega arith) (sym e) in
            omega arith

  -- the check, a step at a time
  pub lent_length : length_bad P b ≡ true → lent_check_of P b ≡ Err (breach Geometry 0 0)
  unfolding lent_check_of
  lent_length e = rw e

  pub lent_header : length_bad P b ≡ false → lent_header_bad P b ≡ true → lent_check_of P b ≡ Err (breach Header 0 0)
  unfolding lent_check_of
  lent_header e f = rw (e, f)

  pub lent_rest : length_bad P b ≡ false → lent_header_bad P b ≡ false → lent_check_of P b ≡ check_of (is_leaf b) (is_leaf b) b
  unfolding lent_check_of
  lent_rest e f = rw (e, f)

  pub lent_iff : (lent_check_of P b ≡ Ok tt) ↔ ((length_bad P b ≡ false) × (lent_header_bad P b ≡ false) × SoundBlock (is_leaf b) (is_leaf b) b)
  unfolding lent_check_of
  lent_iff = (
    λ e.
        let first = breach_if_sound _ _ _ e in
        let then = breach_if_sound _ _ _ first.1 in
        (first.0, then.0, check_sound (is_leaf b) (is_leaf b) b then.1),
    λ h. rw (h.0, h.1) (sound_check (is_leaf b) (is_leaf b) b h.2),
  )

  -- what the calls on a lent block go on with
  pub lent_sound : lent_check_of P b ≡ Ok tt → (32 ≤ length b) × SoundBlock (is_leaf b) true b
  lent_sound e =
      let h = lent_iff.0 e in
      let g = length_good h.0 in
      let s = g.size in
      let l = g.least in
      (omega arith, sound_weaker (is_leaf b) (is_leaf b) b h.2)

  -- what it tells of two keys
  pub lent_common : (refusal : Refusal) (i common : ℕ) → lent_check_of P b ≡ Err (breach refusal i common) → 0 < common → refusal ≡ KeyOrder
  lent_common refusal i common e l = go (length_bad P b) refl (lent_header_bad P b) refl
    where
      told : (k : Refusal) → lent_check_of P b ≡ Err (breach k 0 0) → refusal ≡ KeyOrder
      told k h = absurd (let f : Err (breach k 0 0) ≡ Err (breach refusal i common) = sym h ∙ e in let z = (same_breach f).2 in omega arith)

      go : (t : Bool) → length_bad P b ≡ t → (u : Bool) → lent_header_bad P b ≡ u → refusal ≡ KeyOrder
      go true t u h = told Geometry (lent_length t)
      go false t true h = told Header (lent_header t h)
      go false t false h = breach_common (is_leaf b) (is_leaf b) b refusal i common (sym (lent_rest t h) ∙ e) l

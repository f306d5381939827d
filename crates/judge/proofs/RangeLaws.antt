-- Rule 8: a key against the ends of a range, and a block's keys, which rise.
-- Assumes nothing.
use mathlib.Core.Path.{◌≡◌, refl, sym, ap}
use mathlib.Core.Bool.{Bool, true, false, not, cond}
use mathlib.Core.List.{List}
use mathlib.Core.Logic.{⊎_elim}
use mathlib.Core.Option.{Option}
use Prim.Native.Nat.{ℕ, ◌+◌, ◌-◌, ◌≤◌, ◌<◌}
use native.Mathlib.Nat.{eq-or-lt_of_le}
use native.Mathlib.Omega.{arith}
use Rattle.field.specs.Order.{order_of}
use Rattle.std.specs.Ordering.{is_lt}
use lib.ListN.{length}
use Rattle.std.specs.Prelude.{Some, None, Ok}
use Rattle.field.specs.declared.refusal.Refusal.TheVariants.{KeyRange}
use Rattle.page.specs.Layout.{count_of, element_at, element_size, value_at, key_of}
use Rattle.page.specs.PageRules.{first_bad, SoundBlock}
use Rattle.page.proofs.LayoutLaws.{element_room}
use Rattle.page.proofs.RuleLaws.{none_bad}
use Rattle.page.proofs.EntryLaws.{rising_far}
use Rattle.walk.specs.Tree.{Key, lower, under, in_range, common_crossed}
use Rattle.walk.proofs.KeyLaws.{order_lower, lower_one_way, lower_not, weak_chain, under_chain, range_both}
use Rattle.judge.specs.Walk.{ranged_of, key_out, common_out}

-- ---- one key
-- against an end, by what a test answered
pub lower_is : (k end : Key) (t : Bool) → t ≡ is_lt (order_of k end) → lower k end ≡ t
unfolding lower
lower_is k end t e = sym e

-- a key that was found in its range, or outside it
module _ (low : Key) (high : Option Key) (k : Key) where
  pub is_in : ranged_of low high k ≡ None → not (in_range low high k) ≡ false
  is_in = go (in_range low high k)
    where
      go : (t : Bool) → cond t None (Some (common_crossed low high k)) ≡ None → not t ≡ false
      go true e = refl
      go false e = absurd (let z : ◌≡◌ {A = ℕ} 0 1 = cc in omega arith)

  pub is_out : (m : ℕ) → ranged_of low high k ≡ Some m → (not (in_range low high k) ≡ true) × (m ≡ common_crossed low high k)
  is_out m = go (in_range low high k)
    where
      go : (t : Bool) → cond t None (Some (common_crossed low high k)) ≡ Some m → (not t ≡ true) × (m ≡ common_crossed low high k)
      go true e = absurd (let z : ◌≡◌ {A = ℕ} 0 1 = cc in omega arith)
      go false e = (refl, cc)

-- ---- the keys of a sound block
-- each lies in the block
pub key_room : (is_leaf empty_ok : Bool) (b : List ℕ) (i : ℕ) → SoundBlock is_leaf empty_ok b → i < count_of b
    → (element_at is_leaf i + element_size is_leaf ≤ length b) × (value_at is_leaf b i ≤ length b)
key_room is_leaf empty_ok b i sound l = let w = sound.within i l in (element_room is_leaf b i l sound.fits, omega arith)

module _ (is_leaf empty_ok : Bool) (b : List ℕ) (sound : SoundBlock is_leaf empty_ok b) where
  not-before : (i j : ℕ) → i ≤ j → j < count_of b → lower (key_of is_leaf b j) (key_of is_leaf b i) ≡ false
  not-before i j l m =
      ⊎_elim
      (λ e. rw e (lower_not (key_of is_leaf b j)))
      (λ h. lower_one_way _ _ (order_lower _ _ (rising_far is_leaf empty_ok b sound i j h m)))
      (eq-or-lt_of_le l)

  -- where the first is not below the lower end and the last is below the upper, all are in range
  pub ends_against_range : (low : Key) (high : Option Key) → 0 < count_of b
      → lower (key_of is_leaf b 0) low ≡ false → under (key_of is_leaf b (count_of b - 1)) high ≡ true
      → first_bad (key_out is_leaf b low high) (common_out is_leaf b low high) KeyRange (count_of b) 0 ≡ Ok tt
  ends_against_range low high filled first last =
      none_bad (key_out is_leaf b low high) (common_out is_leaf b low high) KeyRange (count_of b) 0 (λ i l m. ap not (inside i (omega arith)))
    where
      up : (i : ℕ) → i < count_of b → under (key_of is_leaf b i) high ≡ true
      up i m =
          let l : i ≤ count_of b - 1 = omega arith in
          ⊎_elim
          (λ e. rw e last)
          (λ h. under_chain (key_of is_leaf b i) (key_of is_leaf b (count_of b - 1)) high (order_lower _ _ (rising_far is_leaf empty_ok b sound i (count_of b - 1) h (omega arith))) last)
          (eq-or-lt_of_le l)

      inside : (i : ℕ) → i < count_of b → in_range low high (key_of is_leaf b i) ≡ true
      inside i m = range_both low high (key_of is_leaf b i) (weak_chain low (key_of is_leaf b 0) (key_of is_leaf b i) first (not-before 0 i (omega arith) m)) (up i m)

-- The entries of a block: as many as its count, the j-th is that of element j, and in a sound block their keys rise.
-- Assumes nothing.
use mathlib.Core.Path.{◌≡◌, refl, ap, ◌∙◌}
use mathlib.Core.Bool.{Bool}
use mathlib.Core.List.{List}
use mathlib.Core.Logic.{⊎_elim}
use Prim.Native.Nat.{ℕ, zero, suc, ◌+◌, ◌<◌, ◌≤◌}
use native.Mathlib.Nat.{add-zero, zero-add, eq-or-lt_of_le}
use native.Mathlib.Numerals.{add-one}
use native.Mathlib.Omega.{arith}
use lib.ListN.{length, get_or}
use Rattle.std.specs.declared.cmp.Ordering.TheVariants.{Less}
use Rattle.field.specs.Order.{order_of}
use Rattle.field.proofs.OrderLaws.{lower_trans}
use Rattle.page.specs.Layout.{Entry, count_of, key_of, entry_of, entries_from, entries_of}
use Rattle.page.specs.PageRules.{SoundBlock}

-- ---- each entry once, in the elements' order
module _ (leaf : Bool) (b : List ℕ) where
  pub length_from : (k i : ℕ) → length (entries_from leaf b k i) ≡ k
  unfolding entries_from
  length_from zero i = refl
  length_from (suc k) i = ap suc (length_from k (i + 1))

  pub length-entries : length (entries_of leaf b) ≡ count_of b
  unfolding entries_of
  length-entries = length_from (count_of b) 0

  pub from_at : (d : Entry) (k i j : ℕ) → j < k → get_or (entries_from leaf b k i) j d ≡ entry_of leaf b (i + j)
  unfolding entries_from
  from_at d zero i j l = absurd (omega arith)
  from_at d (suc k) i zero l = rw add-zero
  from_at d (suc k) i (suc j) l =
      let e : i + 1 + j ≡ i + suc j = omega arith in
      from_at d k (i + 1) j (omega arith) ∙ ap (entry_of leaf b) e

  pub entry_at_lem : (d : Entry) (j : ℕ) → j < count_of b → get_or (entries_of leaf b) j d ≡ entry_of leaf b j
  unfolding entries_of
  entry_at_lem d j l = from_at d (count_of b) 0 j l ∙ ap (entry_of leaf b) (zero-add j)

-- ---- the keys of a sound block rise
module _ (leaf empty_ok : Bool) (b : List ℕ) (sound : SoundBlock leaf empty_ok b) where
  pub rising_far : (i j : ℕ) → i < j → j < count_of b → order_of (key_of leaf b i) (key_of leaf b j) ≡ Less
  rising_far i zero l m = absurd (omega arith)
  rising_far i (suc j) l m =
      let step : order_of (key_of leaf b j) (key_of leaf b (suc j)) ≡ Less = rw add-one at (sound.rising j (omega arith)) in
      let h : i ≤ j = omega arith in
      ⊎_elim
      (λ q. ap (λ (k : ℕ). order_of (key_of leaf b k) (key_of leaf b (suc j))) q ∙ step)
      (λ q. lower_trans (key_of leaf b i) (key_of leaf b j) (key_of leaf b (suc j)) (rising_far i j q (omega arith)) step)
      (eq-or-lt_of_le h)

  pub entries_rising : (d : Entry) (i j : ℕ) → i < j → j < count_of b
      → order_of (get_or (entries_of leaf b) i d).key (get_or (entries_of leaf b) j d).key ≡ Less
  entries_rising d i j l m = rw (entry_at_lem leaf b d i (omega arith), entry_at_lem leaf b d j m) (rising_far i j l m)

-- What the search of a sound block says of the child for a key, and of a leaf's entry with it.
-- Assumes nothing.
use mathlib.Core.Path.{◌≡◌, refl, sym, ap, ◌∙◌}
use mathlib.Core.Bool.{Bool, true, false}
use mathlib.Core.List.{List}
use mathlib.Core.Logic.{⊎_elim}
use mathlib.Core.Option.{none, some}
use Prim.Native.Nat.{ℕ, ◌+◌, ◌-◌, ◌≤◌, ◌<◌}
use native.Mathlib.Nat.{zero-add, eq-or-lt_of_le, add-sub_cancel_left}
use native.Mathlib.Omega.{arith}
use Rattle.field.proofs.OrderLaws.{lower_iff}
use Rattle.page.specs.declared.search.Leaf.{Leaf}
use Rattle.page.specs.declared.search.Place.{Place}
use Rattle.page.specs.Layout.{count_of, page_of, key_of, value_at, value_size}
use Rattle.page.specs.PageRules.{SoundBlock}
use Rattle.page.specs.Search.{place_of, leaf_of}
use Rattle.page.proofs.EntryLaws.{rising_far}
use Rattle.page.proofs.SearchLaws.{Scanned, here, nowhere, scanned, found_at, missing_none, from_higher_on}
use Rattle.walk.specs.Tree.{Item, lower, leaf, keys, Rising, child_for}
use Rattle.walk.proofs.KeyLaws.{order_lower, lower_one_way, lower_not}
use Rattle.walk.proofs.Bridge.{child_chosen, seek_hit, seek_miss}
use Rattle.view.specs.declared.Value.{Value}
use Rattle.lookup.specs.declared.descent.Step.TheVariants.{Found, Absent}
use Rattle.lookup.specs.Step.{seek_step, step_of}
use Rattle.view.specs.View.{row, child_item, value_item}
use Rattle.view.proofs.ViewLaws.{row_at, at_row, rising_row}
use Rattle.lookup.proofs.StepLaws.{child_mid, child_last}
use Rattle.std.specs.Prelude.{Ok}

-- a sound block's keys rise, as a row
pub rising_items : {A : Type 0} (is_leaf empty_ok : Bool) (b : List ℕ) (f : ℕ → Item A) → ((i : ℕ) → (f i).key ≡ key_of is_leaf b i)
    → SoundBlock is_leaf empty_ok b → Rising (keys (row f (count_of b) 0))
rising_items is_leaf empty_ok b f e s =
    rising_row f (count_of b) 0 (λ j l m. rw (e j, e (j + 1)) (order_lower _ _ (s.rising j (omega arith))))

-- ---- the child for a key
module _ (b key : List ℕ) (sound : SoundBlock false false b) where
  chosen : (i : ℕ) → i < count_of b → (0 < i → lower key (key_of false b i) ≡ false) → (i + 1 < count_of b → lower key (key_of false b (i + 1)) ≡ true)
      → child_for (row (child_item b) (count_of b) 0) key ≡ page_of b i
  chosen i l low high =
      let r = rising_items false false b (child_item b) (λ j. refl) sound in
      let h : i + 1 ≤ count_of b = omega arith in
      ⊎_elim
      (λ e. child_chosen (row (child_item b) (count_of b) 0) key i (child_item b i) none r (rw (zero-add i) at (child_last (child_item b) none (count_of b) 0 i e)) low refl)
      (λ m. child_chosen (row (child_item b) (count_of b) 0) key i (child_item b i) (some (key_of false b (i + 1))) r (rw (zero-add i) at (child_mid (child_item b) none (count_of b) 0 i m)) low (high m))
      (eq-or-lt_of_le h)

  pub child_found : ((place_of false b key).at < count_of b) × (child_for (row (child_item b) (count_of b) 0) key ≡ page_of b (place_of false b key).at)
  child_found = go (scanned false b key)
    where
      some_element : 0 < count_of b
      some_element = positive (count_of b) sound.filled
        where
          positive : (n : ℕ) → (n ≡ 0 → false ≡ true) → 0 < n
          positive Prim.Native.Nat.zero f = absurd (let e = f refl in cc)
          positive (Prim.Native.Nat.suc n) f = omega arith

      go : Scanned false b key (place_of false b key) → ((place_of false b key).at < count_of b) × (child_for (row (child_item b) (count_of b) 0) key ≡ page_of b (place_of false b key).at)
      go (here m l h q p) =
          let e : (place_of false b key).at ≡ m = ap (λ (x : Place). x.at) p in
          let k : key_of false b m ≡ key = (found_at false b key m p).1 in
          (rw e l, rw e (chosen m l (λ z. rw k (lower_not key)) (λ n. rw (sym k) (order_lower _ _ (rising_far false false b sound m (m + 1) (omega arith) n)))))
      go (nowhere m l h g p) =
          let e : (place_of false b key).at ≡ m - 1 = ap (λ (x : Place). x.at) p in
          let n : m - 1 < count_of b = (let s = some_element in omega arith) in
          let above : (k : ℕ) → m ≤ k → k < count_of b → lower key (key_of false b k) ≡ true =
          λ k x y. order_lower _ _ ((lower_iff key (key_of false b k)).1 (from_higher_on false false b sound key m (omega arith) (g (omega arith)) k x y)) in
          (rw e n, rw e (chosen (m - 1) n (λ z. lower_one_way _ _ (order_lower _ _ (h (m - 1) (omega arith)))) (λ y. above (m - 1 + 1) (omega arith) y)))

-- ---- a leaf's entry with a key
pub value_told_lem : (start : ℕ) (b : List ℕ) (i : ℕ) (x : Leaf) → x ≡ leaf_of b i
    → ◌≡◌ {A = Value} (record { kind = x.kind; place = start + x.value; length = x.end - x.value }) (value_item start b i).value
value_told_lem start b i x e = rw (e, add-sub_cancel_left (value_at true b i) (value_size true b i))

module _ (empty_ok : Bool) (b key : List ℕ) (start : ℕ) (sound : SoundBlock true empty_ok b) where
  abbrev items : List (Item Value)
  items = row (value_item start b) (count_of b) 0

  pub leaf_found : (place_of true b key).found ≡ true
      → ((place_of true b key).at < count_of b) × (step_of (leaf items) key ≡ Ok (Found (value_item start b (place_of true b key).at).value))
  unfolding step_of
  leaf_found f = go (scanned true b key)
    where
      go : Scanned true b key (place_of true b key)
          → ((place_of true b key).at < count_of b) × (step_of (leaf items) key ≡ Ok (Found (value_item start b (place_of true b key).at).value))
      go (here m l h q p) =
          let e : (place_of true b key).at ≡ m = ap (λ (x : Place). x.at) p in
          let k : key_of true b m ≡ key = (found_at true b key m p).1 in
          let a = seek_hit items key 0 0 m (value_item start b m) (rising_items true empty_ok b (value_item start b) (λ j. refl) sound)
          (rw (zero-add m) at (row_at (value_item start b) (count_of b) 0 m l)) k in
          (rw e l, rw e (ap seek_step a))
      go (nowhere m l h g p) =
          absurd (let n : (place_of true b key).found ≡ false = ap (λ (x : Place). x.found) p in cc)

  pub leaf_missing : (place_of true b key).found ≡ false → step_of (leaf items) key ≡ Ok Absent
  unfolding step_of
  leaf_missing f = go (scanned true b key)
    where
      go : Scanned true b key (place_of true b key) → step_of (leaf items) key ≡ Ok Absent
      go (here m l h q p) =
          absurd (let n : (place_of true b key).found ≡ true = ap (λ (x : Place). x.found) p in cc)
      go (nowhere m l h g p) =
          let a = seek_miss items key 0 0 (λ i e x k.
          let y = at_row (value_item start b) (count_of b) 0 i e x in
          let w : key_of true b i ≡ key = (let s : value_item start b i ≡ e = rw (zero-add i) at y.1 in ap (λ (v : Item Value). v.key) s ∙ k) in
          missing_none true empty_ok b sound key (m - 1) p i y.0 w) in
          ap seek_step a

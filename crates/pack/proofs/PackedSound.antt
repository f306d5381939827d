-- What is packed is sound: a block packed of good entries in order keeps rules 4 to 7, so that it may be the source of another.
-- Assumes nothing.
use mathlib.Core.Path.{◌≡◌, refl, sym, ap, ◌∙◌, subst}
use mathlib.Core.Bool.{Bool, true, false, ◌||◌}
use mathlib.Core.Logic.{⊎_elim}
use mathlib.Core.List.{List, [], ◌∷◌}
use Prim.Native.Nat.{ℕ, zero, suc, ◌+◌, ◌%◌, ◌^◌, ◌≤◌, ◌<◌}
use native.Mathlib.Nat.{eq-or-lt_of_le, mul-mod_left, mul-le-mul_right, one-mul}
use native.Mathlib.Omega.{arith}
use lib.Dec.{eqb}
use lib.ListN.{length, length-drop}
use lib.Seq.{length-take-le}
use borrow.Author.Tests.{le-leb, eq-eqb}
use Rattle.std.specs.declared.cmp.Ordering.TheVariants.{Less}
use Rattle.field.specs.Order.{order_of}
use Rattle.field.proofs.FieldLaws.{Bytes, field_fits}
use Rattle.field.specs.Sizes.{size_allowed, pages_needed}
use Rattle.page.specs.Layout.{Entry, count_of, is_leaf, element_at, table_end, value_size, value_end, key_of, value_of, entry_of, entries_from}
use Rattle.page.specs.PageRules.{header_bad, kind_bad, kind_bad_at, SoundBlock, check_of, lent_check_of, length_bad, lent_header_bad}
use Rattle.page.proofs.RuleLaws.{header_iff, kind_iff, sound_check}
use Rattle.pack.specs.Pack.{node_size, type_number, pack}
use Rattle.pack.specs.Entries.{Storable, Good, Each, RisingEntries}
use Rattle.pack.proofs.PackLaws.{node_size_lem, length_pack, covers, one_page}
use Rattle.pack.proofs.Decode.{id_packed, overflow_packed, type_packed, count_packed, length_packed, packed_run}
use Rattle.std.specs.Prelude.{Ok}

-- ---- entries
pub each_map : {F G : Entry → Type 0} (es : List Entry) → ((e : Entry) → F e → G e) → Each F es → Each G es
unfolding Each
each_map [] f h = tt
each_map (e ∷ es) f h = (f e h.0, each_map es f h.1)

-- a kind that is not bad is 0 or 1
kind_small : (kind size : ℕ) → kind_bad kind size ≡ false → kind < 256
kind_small kind size h = ⊎_elim (λ e. omega arith) (λ e. omega arith) ((kind_iff kind size).0 h)

pub good_storable : (leaf : Bool) (e : Entry) → Good leaf e → Storable leaf e
good_storable false e h = h
good_storable true e h = kind_small e.tag (length e.value) h

-- what holds of each of a block's entries, and of each two neighbours, holds at each index
pub each_at : (F : Entry → Type 0) (leaf : Bool) (b : List ℕ) (k i : ℕ) → Each F (entries_from leaf b k i) → (j : ℕ) → i ≤ j → j < i + k → F (entry_of leaf b j)
unfolding Each entries_from
each_at F leaf b zero i h j l m = absurd (omega arith)
each_at F leaf b (suc k) i h j l m =
    let rest = each_at F leaf b k (i + 1) h.1 j in
    ⊎_elim (λ q. subst (λ (n : ℕ). F (entry_of leaf b n)) q h.0) (λ q. rest (omega arith) (omega arith)) (eq-or-lt_of_le l)

pub rising_at : (leaf : Bool) (b : List ℕ) (k i : ℕ) → RisingEntries (entries_from leaf b k i)
    → (j : ℕ) → i ≤ j → j + 1 < i + k → order_of (key_of leaf b j) (key_of leaf b (j + 1)) ≡ Less
unfolding RisingEntries entries_from
rising_at leaf b zero i h j l m = absurd (omega arith)
rising_at leaf b (suc zero) i h j l m = absurd (omega arith)
rising_at leaf b (suc (suc k)) i h j l m =
    let rest = rising_at leaf b (suc k) (i + 1) h.1 j in
    ⊎_elim (λ q. subst (λ (n : ℕ). order_of (key_of leaf b n) (key_of leaf b (n + 1)) ≡ Less) q h.0) (λ q. rest (omega arith) (omega arith)) (eq-or-lt_of_le l)

-- the value of an entry that lies within the block is as long as its element says
value_length_lem : (leaf : Bool) (b : List ℕ) (i : ℕ) → value_end leaf b i ≤ length b → length (value_of leaf b i) ≡ value_size leaf b i
unfolding value_of
value_length_lem leaf b i h = length-take-le _ _ (rw length-drop (omega arith))

-- a good entry that lies within the block has a good kind there
good_kind : (leaf : Bool) (b : List ℕ) (i : ℕ) → value_end leaf b i ≤ length b → Good leaf (entry_of leaf b i) → kind_bad_at leaf b i ≡ false
good_kind false b i h g = refl
good_kind true b i h g = rw (value_length_lem true b i h) at g

kind_good : (leaf : Bool) (b : List ℕ) (i : ℕ) → Bytes b → value_end leaf b i ≤ length b → kind_bad_at leaf b i ≡ false → Good leaf (entry_of leaf b i)
unfolding value_of
kind_good false b i s h k = (field_fits 8 b (element_at false i) s, refl)
kind_good true b i s h k = rw (value_length_lem true b i h) k

-- ---- a range of a sound block's entries, so that what is packed of it is sound
module _ (leaf empty_ok : Bool) (b : List ℕ) (sound : SoundBlock leaf empty_ok b) where
  pub good_from : Bytes b → (k i : ℕ) → i + k ≤ count_of b → Each (Good leaf) (entries_from leaf b k i)
  unfolding Each entries_from
  good_from s zero i h = tt
  good_from s (suc k) i h =
      (kind_good leaf b i s (sound.within i (omega arith)) (sound.kinds i (omega arith)), good_from s k (i + 1) (omega arith))

  pub rising_from : (k i : ℕ) → i + k ≤ count_of b → RisingEntries (entries_from leaf b k i)
  unfolding RisingEntries entries_from
  rising_from zero i h = tt
  rising_from (suc zero) i h = tt
  rising_from (suc (suc k)) i h = (sound.rising i (omega arith), rising_from (suc k) (i + 1) (omega arith))

-- ---- a packed block
module _ (leaf empty_ok : Bool) (id : ℕ) (es : List Entry) (P : ℕ) (p : 0 < P) (small : node_size leaf es < 2 ^ 64)
    (filled : length es ≡ 0 → empty_ok ≡ true) (good : Each (Good leaf) es) (rising : RisingEntries es) where
  pub packed_sound : SoundBlock leaf empty_ok (pack leaf id es P)
  packed_sound =
      let b : List ℕ = pack leaf id es P in
      let run = packed_run leaf id es P p small (each_map es (good_storable leaf) good) in
      let n = count_packed leaf id es P p small in
      let k = length_pack leaf id es P p in
      let c = covers (node_size leaf es) P p in
      let s = node_size_lem leaf es in
      let e : table_end leaf b ≡ element_at leaf (length es) = ap (element_at leaf) n in
      let inside : (i : ℕ) → i < count_of b → value_end leaf b i ≤ length b = λ i l. let q = run.placed i (omega arith) (omega arith) in omega arith in
      record {
        filled = λ z. filled (sym n ∙ z);
        fits = omega arith;
        after = λ i l. let q = run.placed i (omega arith) (omega arith) in omega arith;
        within = inside;
        kinds = λ i l. good_kind leaf b i (inside i l) (each_at (Good leaf) leaf b (length es) 0 (subst (Each (Good leaf)) (sym run.entries) good) i (omega arith) (omega arith));
        rising = λ i l. rising_at leaf b (length es) 0 (subst RisingEntries (sym run.entries) rising) i (omega arith) (omega arith);
      }

  pub check_packed : check_of leaf empty_ok (pack leaf id es P) ≡ Ok tt
  check_packed = sound_check leaf empty_ok (pack leaf id es P) packed_sound

-- ---- and it passes rule 4, and as a lent block, for each allowed page size; an empty leaf does too
type_leaf : (leaf : Bool) (t : ℕ) → t ≡ type_number leaf → eqb t 2 ≡ leaf
type_leaf false t e = rw e
type_leaf true t e = rw e

type_known : (leaf : Bool) (t : ℕ) → t ≡ type_number leaf → (eqb t 1 || eqb t 2) ≡ true
type_known false t e = rw e
type_known true t e = rw e

module _ (leaf : Bool) (id : ℕ) (es : List Entry) (P : ℕ) (p : 0 < P) (small : node_size leaf es < 2 ^ 64) where
  pub leaf_packed : is_leaf (pack leaf id es P) ≡ leaf
  leaf_packed = type_leaf leaf _ (type_packed leaf id es P)

  -- rule 4, for a block that ends before page N
  pub header_packed : (N : ℕ) → id < 2 ^ 64 → id + pages_needed (node_size leaf es) P ≤ N → header_bad N id (pack leaf id es P) ≡ false
  header_packed N h k =
      let o = overflow_packed leaf id es P p small in
      let m = one_page (node_size leaf es) P p (omega (arith, node_size_lem leaf es)) in
      (header_iff N id (pack leaf id es P)).1 (id_packed leaf id es P h, type_known leaf _ (type_packed leaf id es P), omega arith)

  length_good : size_allowed P ≡ true → length_bad P (pack leaf id es P) ≡ false
  length_good allowed =
      let l = length_pack leaf id es P p in
      let o = one_page (node_size leaf es) P p (omega (arith, node_size_lem leaf es)) in
      let m = mul-le-mul_right P o in
      let one = one-mul P in
      let big : P ≤ length (pack leaf id es P) = omega arith in
      let whole : length (pack leaf id es P) % P ≡ 0 = rw l (mul-mod_left (pages_needed (node_size leaf es) P) P) in
      rw (allowed, le-leb _ _ big, eq-eqb _ _ whole)

  header_good : lent_header_bad P (pack leaf id es P) ≡ false
  header_good = rw (type_known leaf _ (type_packed leaf id es P), eq-eqb _ _ (length_packed leaf id es P p small))

  pub lent_packed : size_allowed P ≡ true → (length es ≡ 0 → leaf ≡ true) → Each (Good leaf) es → RisingEntries es
      → lent_check_of P (pack leaf id es P) ≡ Ok tt
  unfolding lent_check_of
  lent_packed allowed filled good rising =
      rw (length_good allowed, header_good, leaf_packed) (check_packed leaf leaf id es P p small filled good rising)

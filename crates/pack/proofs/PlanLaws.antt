-- Laws of plans: how many entries and bytes are planned, what the writers of the three parts leave, and the plans of each edit.
-- Assumes nothing.
use mathlib.Core.Path.{◌≡◌, refl, sym, ap, ◌∙◌}
use mathlib.Core.Bool.{Bool, true}
use mathlib.Core.List.{List, [], ◌∷◌, ◌++◌, append_assoc, append-nil}
use Prim.Native.Nat.{ℕ, ◌+◌, ◌-◌, ◌*◌, ◌≤◌, ◌<◌}
use native.Mathlib.Nat.{mul-add, mul-zero}
use native.Mathlib.Omega.{arith}
use lib.ListN.{length, take, drop, replicate, length-append}
use Rattle.std.specs.Prelude.{is_some, Some, None}
use Rattle.std.specs.declared.option.Option.{Option}
use Rattle.std.specs.Int.{from_bool}
use Rattle.field.specs.Field.{field}
use Rattle.field.specs.Run.{put_at}
use Rattle.field.specs.Sizes.{pages_needed}
use Rattle.page.specs.Layout.{Entry, element_size, element_at, count_of, entries_of}
use Rattle.page.specs.PageRules.{SoundBlock}
use Rattle.page.proofs.EntryLaws.{length_from}
use Rattle.pack.specs.Pack.{node_size, block_size, element, table, bodies, pack}
use Rattle.pack.specs.declared.write.Plan.{Plan}
use Rattle.pack.specs.Plan.{entry_with, range, maybe, fresh, planned, count_in, insert_at, replace_at, remove_at, cut_of}
use Rattle.pack.proofs.PackLaws.{count_below_lem, node_size_lem, length_bodies_append, table_then, bodies_then, covers, one_page}
use Rattle.pack.proofs.RangeLaws.{range_part, range_first, range_last, range_end}

-- ---- the new entry, or none
module _ (p : Plan) (key value : List ℕ) where
  fresh_length : length (fresh p key value) ≡ from_bool (is_some p.tag)
  fresh_length = go p.tag
    where
      go : (t : Option ℕ) → length (maybe t key value) ≡ from_bool (is_some t)
      go (Some tag) = refl
      go None = refl

  module _ (tag : ℕ) (h : p.tag ≡ Some tag) where
    pub some_table : (leaf : Bool) (at d : ℕ) → table leaf at d (fresh p key value) ≡ element leaf (d - at) (entry_with tag key value)
    unfolding table
    some_table leaf at d = rw (h, append-nil)

    pub some_bodies : bodies (fresh p key value) ≡ key ++ value
    unfolding bodies
    some_bodies = rw (h, append-nil)

    pub some_length : length (bodies (fresh p key value)) ≡ length key + length value
    some_length = rw some_bodies (length-append key value)

  pub none_table : (leaf : Bool) (at d : ℕ) → p.tag ≡ None → table leaf at d (fresh p key value) ≡ []
  unfolding table
  none_table leaf at d h = rw h

  pub none_bodies : p.tag ≡ None → bodies (fresh p key value) ≡ []
  unfolding bodies
  none_bodies h = rw h

-- ---- a plan
pub table_parts : (leaf : Bool) (p : Plan)
    → element_size leaf * count_in p ≡ element_size leaf * (p.stop - p.first) + element_size leaf * from_bool (is_some p.tag) + element_size leaf * (p.last - p.resume)
table_parts leaf p = rw (mul-add (element_size leaf) (p.stop - p.first + from_bool (is_some p.tag)) (p.last - p.resume), mul-add (element_size leaf) (p.stop - p.first) (from_bool (is_some p.tag)))

module _ (leaf : Bool) (b : List ℕ) (p : Plan) (key value : List ℕ) where
  abbrev xs : List Entry
  xs = range leaf b p.first p.stop

  abbrev ys : List Entry
  ys = fresh p key value

  abbrev zs : List Entry
  zs = range leaf b p.resume p.last

  pub planned_length : length (planned leaf b p key value) ≡ count_in p
  unfolding planned
  planned_length =
      let x = length_from leaf b (p.stop - p.first) p.first in
      let y = fresh_length p key value in
      let z = length_from leaf b (p.last - p.resume) p.resume in
      omega (arith, length-append (xs ++ ys) zs, length-append xs ys)

  pub planned_bodies : length (bodies (planned leaf b p key value)) ≡ length (bodies xs) + length (bodies ys) + length (bodies zs)
  unfolding planned
  planned_bodies = rw (length_bodies_append (xs ++ ys) zs, length_bodies_append xs ys)

  -- of the place where the bodies end: the pages cover it, and they fit
  pub planned_fits : (P end len : ℕ) → 0 < P → end ≡ element_at leaf (count_in p) + length (bodies (planned leaf b p key value))
      → block_size leaf (planned leaf b p key value) P ≤ len
      → (end + 8 ≡ node_size leaf (planned leaf b p key value)) × (end + 8 ≤ pages_needed (end + 8) P * P) × (pages_needed (end + 8) P * P ≤ len)
      × (1 ≤ pages_needed (end + 8) P) × (count_in p ≤ end)
  planned_fits P end len h e f =
      let l : element_size leaf * length (planned leaf b p key value) ≡ element_size leaf * count_in p = ap (λ (k : ℕ). element_size leaf * k) planned_length in
      let u : node_size leaf (planned leaf b p key value) ≡ end + 8 = omega (arith, node_size_lem leaf (planned leaf b p key value)) in
      (sym u, covers (end + 8) P h, rw u at f, one_page (end + 8) P h (omega arith), omega (arith, count_below_lem leaf (count_in p)))

  -- what the three writers of the table, and of the bodies, leave
  pub planned_table : {o₁ o₂ o₃ : List ℕ} (o : List ℕ) (w₁ w₂ d e₁ e₂ : ℕ)
      → w₁ ≡ element_at leaf (p.stop - p.first) → w₂ ≡ element_at leaf (p.stop - p.first + from_bool (is_some p.tag)) → w₁ ≤ length o → w₂ ≤ length o
      → e₁ ≡ d + length (bodies xs) → e₂ ≡ e₁ + length (bodies ys)
      → o₁ ≡ put_at o 32 (table leaf 32 d xs) → o₂ ≡ put_at o₁ w₁ (table leaf w₁ e₁ ys) → o₃ ≡ put_at o₂ w₂ (table leaf w₂ e₂ zs)
      → o₃ ≡ put_at o 32 (table leaf 32 d (planned leaf b p key value))
  unfolding planned
  planned_table o w₁ w₂ d e₁ e₂ hw₁ hw₂ h₁ h₂ he₁ he₂ q r s =
      let x : element_at leaf (length xs) ≡ w₁ = ap (element_at leaf) (length_from leaf b (p.stop - p.first) p.first) ∙ sym hw₁ in
      let l : length (xs ++ ys) ≡ p.stop - p.first + from_bool (is_some p.tag) =
      omega (arith, length-append xs ys, length_from leaf b (p.stop - p.first) p.first, fresh_length p key value) in
      let xy : element_at leaf (length (xs ++ ys)) ≡ w₂ = ap (element_at leaf) l ∙ sym hw₂ in
      let m = length_bodies_append xs ys in
      table_then o 32 w₂ (xs ++ ys) zs h₂ leaf d e₂ (sym xy) (omega arith) (table_then o 32 w₁ xs ys h₁ leaf d e₁ (sym x) he₁ q r) s

  pub planned_run : {o₁ o₂ o₃ : List ℕ} (o : List ℕ) (d e₁ e₂ : ℕ)
      → e₁ ≡ d + length (bodies xs) → e₂ ≡ e₁ + length (bodies ys) → e₂ ≤ length o
      → o₁ ≡ put_at o d (bodies xs) → o₂ ≡ put_at o₁ e₁ (bodies ys) → o₃ ≡ put_at o₂ e₂ (bodies zs)
      → o₃ ≡ put_at o d (bodies (planned leaf b p key value))
  unfolding planned
  planned_run o d e₁ e₂ he₁ he₂ h q r s =
      let m = length_bodies_append xs ys in
      bodies_then o d e₂ (xs ++ ys) zs h (omega arith) (bodies_then o d e₁ xs ys (omega arith) he₁ q r) s

-- ---- the plans of an insertion, of a replacement, of a removal, of a cut, and of a block with no source
module _ (leaf : Bool) (b : List ℕ) (i n : ℕ) (key value : List ℕ) (hn : n ≡ count_of b) where
  pub plan_insert : (tag : ℕ) → i ≤ n → planned leaf b (record { first = 0; stop = i; tag = Some tag; resume = i; last = n }) key value
      ≡ insert_at i (entry_with tag key value) (entries_of leaf b)
  unfolding planned
  plan_insert tag h =
      rw (hn, range_first leaf b i (omega arith), range_last leaf b i (omega arith))
      (append_assoc (take i (entries_of leaf b)) (entry_with tag key value ∷ []) (drop i (entries_of leaf b)))

  pub plan_replace : (tag : ℕ) → i < n → planned leaf b (record { first = 0; stop = i; tag = Some tag; resume = i + 1; last = n }) key value
      ≡ replace_at i (entry_with tag key value) (entries_of leaf b)
  unfolding planned
  plan_replace tag h =
      rw (hn, range_first leaf b i (omega arith), range_last leaf b (i + 1) (omega arith))
      (append_assoc (take i (entries_of leaf b)) (entry_with tag key value ∷ []) (drop (i + 1) (entries_of leaf b)))

  pub plan_remove : i < n → planned leaf b (record { first = 0; stop = i; tag = None; resume = i + 1; last = n }) key value
      ≡ remove_at i (entries_of leaf b)
  unfolding planned
  plan_remove h = rw (hn, range_first leaf b i (omega arith), range_last leaf b (i + 1) (omega arith), append-nil)

pub plan_cut : (leaf : Bool) (b : List ℕ) (i j : ℕ) (key value : List ℕ) → i ≤ j → j ≤ count_of b
    → planned leaf b (record { first = i; stop = j; tag = None; resume = j; last = j }) key value ≡ cut_of i j (entries_of leaf b)
unfolding planned
plan_cut leaf b i j key value h k = rw (range_end leaf b j j (omega arith), append-nil, append-nil) (range_part leaf b i j h k)

pub plan_new : (leaf : Bool) (b : List ℕ) (tag : Option ℕ) (key value : List ℕ)
    → planned leaf b (record { first = 0; stop = 0; tag = tag; resume = 0; last = 0 }) key value ≡ maybe tag key value
unfolding planned
plan_new leaf b tag key value = rw (range_end leaf b 0 0 (omega arith), append-nil)

-- 32 zeros are a block with no entries
pub no_entries : (leaf : Bool) → SoundBlock leaf true (replicate 32 0)
unfolding field
no_entries leaf =
    let z = mul-zero (element_size leaf) in
    record {
      filled = λ e. refl;
      fits = omega arith;
      after = λ i l. absurd (omega arith);
      within = λ i l. absurd (omega arith);
      kinds = λ i l. absurd (omega arith);
      rising = λ i l. absurd (omega arith);
    }

-- a block of the same entries is the same block
pub same_block : {es es' : List Entry} (leaf : Bool) (id P r : ℕ) (o o' : List ℕ) → es ≡ es'
    → (r ≡ block_size leaf es P) × (o' ≡ pack leaf id es P ++ drop r o) → (r ≡ block_size leaf es' P) × (o' ≡ pack leaf id es' P ++ drop r o)
same_block leaf id P r o o' e h = rw e at h

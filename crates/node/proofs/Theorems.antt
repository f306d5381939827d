-- The theorems: what an edit makes passes the lent check again and holds just the entries meant; an inserted key is found, and a deleted one is not.
-- Assumes nothing.
use mathlib.Core.Path.{◌≡◌, refl, sym, ap, subst}
use mathlib.Core.Bool.{Bool, true, false}
use mathlib.Core.List.{List, ◌++◌}
use Prim.Native.Nat.{ℕ, ◌+◌, ◌-◌, ◌≤◌, ◌<◌}
use native.Mathlib.Omega.{arith}
use lib.ListN.{length}
use borrow.Author.Tests.{not-false, ltb-true}
use Rattle.std.specs.declared.cmp.Ordering.TheVariants.{Less}
use Rattle.field.specs.Order.{order_of}
use Rattle.field.proofs.FieldLaws.{Bytes}
use Rattle.field.proofs.OrderLaws.{order_refl}
use Rattle.page.specs.Layout.{Entry, id_of, count_of, is_leaf, key_of, entries_of}
use Rattle.page.specs.PageRules.{kind_bad, SoundBlock, lent_check_of}
use Rattle.page.specs.Search.{place_of, index_of}
use Rattle.page.proofs.EntryLaws.{rising_far}
use Rattle.page.proofs.SearchLaws.{absent_iff_lem}
use Rattle.pack.specs.Pack.{node_size, pack}
use Rattle.pack.specs.Plan.{entry_with, range, remove_at}
use Rattle.pack.specs.Entries.{Good, Each, RisingEntries}
use Rattle.pack.proofs.RangeLaws.{range_first, range_last}
use Rattle.pack.proofs.Decode.{decode}
use Rattle.pack.proofs.PackedSound.{each_map, each_at, good_storable, good_from, rising_from, lent_packed, leaf_packed}
use Rattle.size.specs.Size.{node_limit}
use Rattle.node.specs.Edit.{inserted, insert_of, delete_of}
use Rattle.node.proofs.NodeLaws.{lent, lent_as}
use Rattle.node.proofs.InsertLaws.{place_is}
use Rattle.node.proofs.OutcomeLaws.{checked_node, refuse_node, written_node, each_append, each_from, each_inserted, inserted_there, rising_inserted, rising_append}
use Rattle.std.specs.Prelude.{Ok}
use Rattle.field.specs.declared.refusal.Refusal.TheVariants.{Argument}

-- ---- a leaf packed of good entries in order
module _ (P id : ℕ) (b : List ℕ) (es : List Entry) (passed : lent_check_of P b ≡ Ok tt) (small : node_size true es ≤ node_limit)
    (good : Each (Good true) es) (rising : RisingEntries es) where
  positive : 0 < P
  positive = let l = (lent P b passed).least in omega arith

  pub made_passes : lent_check_of P (pack true id es P) ≡ Ok tt
  made_passes = lent_packed true id es P positive (omega arith) (lent P b passed).allowed (λ z. refl) good rising

  pub made_holds : entries_of true (pack true id es P) ≡ es
  made_holds = decode true id es P positive (omega arith) (each_map es (good_storable true) good)

  made_sound : SoundBlock true true (pack true id es P)
  made_sound = lent_as P (pack true id es P) true made_passes (leaf_packed true id es P positive (omega arith))

  -- a key that none of the entries has is not found, and one that is not found none has
  pub made_absent : (key : List ℕ) → Each (λ e. e.key ≡ key → ⊥) es → (place_of true (pack true id es P) key).found ≡ false
  unfolding entries_of
  made_absent key none =
      let here : Each (λ e. e.key ≡ key → ⊥) (entries_of true (pack true id es P)) = subst (Each (λ e. e.key ≡ key → ⊥)) (sym made_holds) none in
      (absent_iff_lem true true (pack true id es P) made_sound key).1
      (λ k l. each_at (λ e. e.key ≡ key → ⊥) true (pack true id es P) (count_of (pack true id es P)) 0 here k (omega arith) (omega arith))

  pub made_none : (key : List ℕ) → (place_of true (pack true id es P) key).found ≡ false → Each (λ e. e.key ≡ key → ⊥) es
  unfolding entries_of
  made_none key h =
      let none = (absent_iff_lem true true (pack true id es P) made_sound key).0 h in
      subst (Each (λ e. e.key ≡ key → ⊥)) made_holds
      (each_from (λ e. e.key ≡ key → ⊥) true (pack true id es P) (count_of (pack true id es P)) 0 (λ j p q. none j (omega arith)))

  -- so that `index` answers by the search
  pub made_index : (key : List ℕ) (t : Bool) → (place_of true (pack true id es P) key).found ≡ t
      → index_of P (pack true id es P) key ≡ Ok (record { at = (place_of true (pack true id es P) key).at; found = t })
  unfolding index_of
  made_index key t h =
      rw (made_passes, leaf_packed true id es P positive (omega arith)) (ap Ok (place_is (place_of true (pack true id es P) key) t h))

-- ---- insert: the block written passes, holds the entries with the new one in order, and its key is found
module _ (P : ℕ) (b key : List ℕ) (kind : ℕ) (value out : List ℕ) (es : List Entry) (bytes : Bytes b) (done : insert_of P b key kind value out ≡ Ok es) where
  record Inserted : Type 0 where
    passed : lent_check_of P b ≡ Ok tt
    leaf : is_leaf b ≡ true
    kind_good : kind_bad kind (length value) ≡ false
    small : node_size true (inserted (entry_with kind key value) (entries_of true b)) ≤ node_limit
    same : inserted (entry_with kind key value) (entries_of true b) ≡ es

  went : Inserted
  unfolding insert_of
  went =
      let first = checked_node _ _ done in
      let second = refuse_node _ Argument _ first.1 in
      let third = refuse_node _ Argument _ second.1 in
      let last = written_node true P out _ third.1 in
      record { passed = first.0; leaf = not-false _ second.0; kind_good = third.0; small = last.0; same = last.1 }

  source : SoundBlock true true b
  source = lent_as P b true went.passed went.leaf

  good : Each (Good true) (inserted (entry_with kind key value) (entries_of true b))
  unfolding entries_of
  good = each_inserted (Good true) (entry_with kind key value) _ went.kind_good (good_from true true b source bytes (count_of b) 0 (omega arith))

  rising : RisingEntries (inserted (entry_with kind key value) (entries_of true b))
  unfolding entries_of
  rising = rising_inserted (entry_with kind key value) _ (rising_from true true b source (count_of b) 0 (omega arith))

  pub insert_passes : lent_check_of P (pack true (id_of b) es P) ≡ Ok tt
  insert_passes = rw (sym went.same) (made_passes P (id_of b) b _ went.passed went.small good rising)

  pub insert_holds : entries_of true (pack true (id_of b) es P) ≡ inserted (entry_with kind key value) (entries_of true b)
  insert_holds = rw (sym went.same) (made_holds P (id_of b) b _ went.passed went.small good rising)

  pub insert_found : (place_of true (pack true (id_of b) es P) key).found ≡ true
  insert_found = rw (sym went.same) (go (place_of true (pack true (id_of b) (inserted (entry_with kind key value) (entries_of true b)) P) key).found refl)
    where
      go : (t : Bool) → (place_of true (pack true (id_of b) (inserted (entry_with kind key value) (entries_of true b)) P) key).found ≡ t → t ≡ true
      go true h = refl
      go false h =
          absurd (inserted_there (entry_with kind key value) (entries_of true b) (made_none P (id_of b) b _ went.passed went.small good rising key h))

  pub insert_index : index_of P (pack true (id_of b) es P) key ≡ Ok (record { at = (place_of true (pack true (id_of b) es P) key).at; found = true })
  insert_index = rw (sym went.same) (made_index P (id_of b) b _ went.passed went.small good rising key true (rw went.same insert_found))

-- ---- delete: the block written passes, holds the entries without the one, and its key is not found
module _ (P : ℕ) (b : List ℕ) (i : ℕ) (out : List ℕ) (es : List Entry) (bytes : Bytes b) (done : delete_of P b i out ≡ Ok es) where
  record Gone : Type 0 where
    passed : lent_check_of P b ≡ Ok tt
    leaf : is_leaf b ≡ true
    below : i < count_of b
    small : node_size true (remove_at i (entries_of true b)) ≤ node_limit
    same : remove_at i (entries_of true b) ≡ es

  gone : Gone
  unfolding delete_of
  gone =
      let first = checked_node _ _ done in
      let second = refuse_node _ Argument _ first.1 in
      let third = refuse_node _ Argument _ second.1 in
      let last = written_node true P out _ third.1 in
      record { passed = first.0; leaf = not-false _ second.0; below = ltb-true i (count_of b) (not-false _ third.0); small = last.0; same = last.1 }

  whole : SoundBlock true true b
  whole = lent_as P b true gone.passed gone.leaf

  -- two ranges are left
  two : remove_at i (entries_of true b) ≡ range true b 0 i ++ range true b (i + 1) (count_of b)
  two = let l = gone.below in rw (range_first true b i (omega arith), range_last true b (i + 1) (omega arith))

  left_each : (F : Entry → Type 0) → Each F (range true b 0 i) → Each F (range true b (i + 1) (count_of b)) → Each F (remove_at i (entries_of true b))
  left_each F h k = rw two (each_append F (range true b 0 i) (range true b (i + 1) (count_of b)) h k)

  left_good : Each (Good true) (remove_at i (entries_of true b))
  left_good =
      let l = gone.below in
      left_each (Good true) (good_from true true b whole bytes (i - 0) 0 (omega arith)) (good_from true true b whole bytes (count_of b - (i + 1)) (i + 1) (omega arith))

  left_rising : RisingEntries (remove_at i (entries_of true b))
  left_rising =
      let l = gone.below in
      rw two
      (rising_append (range true b 0 i) (range true b (i + 1) (count_of b)) (rising_from true true b whole (i - 0) 0 (omega arith))
      (rising_from true true b whole (count_of b - (i + 1)) (i + 1) (omega arith))
      (each_from _ true b (i - 0) 0
      (λ j p q. each_from _ true b (count_of b - (i + 1)) (i + 1) (λ k r t. rising_far true true b whole j k (omega arith) (omega arith)))))

  equal_not_lower : order_of (key_of true b i) (key_of true b i) ≡ Less → ⊥
  equal_not_lower e =
      let f = order_refl (key_of true b i) in
      let z : ◌≡◌ {A = ℕ} 0 1 = cc in
      omega arith

  left_other : Each (λ e. e.key ≡ key_of true b i → ⊥) (remove_at i (entries_of true b))
  left_other =
      let l = gone.below in
      left_each (λ e. e.key ≡ key_of true b i → ⊥)
      (each_from _ true b (i - 0) 0 (λ j p q same. equal_not_lower (rw same at (rising_far true true b whole j i (omega arith) l))))
      (each_from _ true b (count_of b - (i + 1)) (i + 1) (λ j p q same. equal_not_lower (rw same at (rising_far true true b whole i j (omega arith) (omega arith)))))

  pub delete_passes : lent_check_of P (pack true (id_of b) es P) ≡ Ok tt
  delete_passes = rw (sym gone.same) (made_passes P (id_of b) b _ gone.passed gone.small left_good left_rising)

  pub delete_holds : entries_of true (pack true (id_of b) es P) ≡ remove_at i (entries_of true b)
  delete_holds = rw (sym gone.same) (made_holds P (id_of b) b _ gone.passed gone.small left_good left_rising)

  pub delete_absent : (place_of true (pack true (id_of b) es P) (key_of true b i)).found ≡ false
  delete_absent = rw (sym gone.same) (made_absent P (id_of b) b _ gone.passed gone.small left_good left_rising (key_of true b i) left_other)

  pub delete_index : index_of P (pack true (id_of b) es P) (key_of true b i)
      ≡ Ok (record { at = (place_of true (pack true (id_of b) es P) (key_of true b i)).at; found = false })
  delete_index =
      rw (sym gone.same)
      (made_index P (id_of b) b _ gone.passed gone.small left_good left_rising (key_of true b i) false (rw gone.same delete_absent))

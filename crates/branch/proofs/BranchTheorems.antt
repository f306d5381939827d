-- The theorem on branches and new nodes: what insert_branch, new_leaf and new_branch make passes the lent check, and holds just the entries meant.
-- Assumes nothing.
use mathlib.Core.Path.{◌≡◌, refl, sym}
use mathlib.Core.Bool.{Bool, true, false}
use mathlib.Core.List.{List, [], ◌∷◌}
use Prim.Native.Nat.{ℕ, suc, ◌^◌, ◌≤◌, ◌<◌}
use native.Mathlib.Omega.{arith}
use lib.Dec.{ltb}
use lib.ListN.{length}
use borrow.Author.Tests.{not-false}
use Rattle.std.specs.declared.cmp.Ordering.{Ordering}
use Rattle.std.specs.declared.cmp.Ordering.TheVariants.{Less, Equal, Greater}
use Rattle.field.specs.Order.{order_of}
use Rattle.std.specs.Ordering.{is_eq}
use Rattle.field.specs.Sizes.{size_allowed}
use Rattle.field.proofs.FieldLaws.{Bytes}
use Rattle.field.proofs.OrderLaws.{is_lt_lem}
use Rattle.page.specs.Layout.{Entry, id_of, count_of, is_leaf, entries_of}
use Rattle.page.specs.PageRules.{SoundBlock, lent_check_of}
use Rattle.page.proofs.TestLaws.{and_both}
use Rattle.pack.specs.Pack.{node_size, pack}
use Rattle.pack.specs.Plan.{entry_with}
use Rattle.pack.specs.Entries.{Good, Each, RisingEntries}
use Rattle.pack.proofs.Decode.{decode}
use Rattle.pack.proofs.PackedSound.{each_map, good_storable, good_from, rising_from, lent_packed}
use Rattle.size.specs.Size.{node_limit}
use Rattle.node.specs.Edit.{inserted, written, present, replaced, in_order, replace_branch, add_branch, branch_outcome, insert_branch_of, new_leaf_of, new_branch_of}
use Rattle.node.proofs.NodeLaws.{allowed_range, lent, lent_as}
use Rattle.node.proofs.OutcomeLaws.{checked_node, refuse_node, written_node, each_inserted, rising_inserted}
use Rattle.std.specs.Prelude.{Ok, Some, None}
use Rattle.field.specs.declared.refusal.Refusal.TheVariants.{Geometry, Argument, Conflict}
use Rattle.std.specs.declared.option.Option.{Option}

-- ---- entries that can be packed as a node
pub record Packable (leaf : Bool) (es : List Entry) : Type 0 where
  pub filled : length es ≡ 0 → leaf ≡ true
  pub good : Each (Good leaf) es
  pub rising : RisingEntries es

pub record Passes (leaf : Bool) (P id : ℕ) (es : List Entry) : Type 0 where
  pub passes : lent_check_of P (pack leaf id es P) ≡ Ok tt
  pub holds : entries_of leaf (pack leaf id es P) ≡ es

packed : (leaf : Bool) (P id : ℕ) (es : List Entry) → size_allowed P ≡ true → node_size leaf es ≤ node_limit → Packable leaf es → Passes leaf P id es
packed leaf P id es allowed small h =
    let r = (allowed_range P allowed).0 in
    record {
      passes = lent_packed leaf id es P (omega arith) (omega arith) allowed h.filled h.good h.rising;
      holds = decode leaf id es P (omega arith) (omega arith) (each_map es (good_storable leaf) h.good);
    }

-- ---- what an insertion and a replacement keep
inserted_some : (e : Entry) (es : List Entry) → length (inserted e es) ≡ 0 → ⊥
unfolding inserted
inserted_some e [] h = omega arith
inserted_some e (f ∷ es) h = go (order_of f.key e.key) refl h
  where
    go : (o : Ordering) → order_of f.key e.key ≡ o → length (inserted e (f ∷ es)) ≡ 0 → ⊥
    go Less q k = let m : suc (length (inserted e es)) ≡ 0 = rw q at k in omega arith
    go Equal q k = let m : suc (length es) ≡ 0 = rw q at k in omega arith
    go Greater q k = let m : suc (suc (length es)) ≡ 0 = rw q at k in omega arith

replaced_some : (original : List ℕ) (e : Entry) (es : List Entry) → present original es ≡ true → length (replaced original e es) ≡ 0 → ⊥
unfolding present replaced
replaced_some original e [] p h = absurd (let z : ◌≡◌ {A = ℕ} 0 1 = cc in omega arith)
replaced_some original e (f ∷ es) p h = go (is_eq (order_of f.key original)) refl h
  where
    go : (t : Bool) → is_eq (order_of f.key original) ≡ t → length (replaced original e (f ∷ es)) ≡ 0 → ⊥
    go true q k = let m : suc (length es) ≡ 0 = rw q at k in omega arith
    go false q k = let m : suc (length (replaced original e es)) ≡ 0 = rw q at k in omega arith

each_replaced : (F : Entry → Type 0) (original : List ℕ) (e : Entry) (es : List Entry) → F e → Each F es → Each F (replaced original e es)
unfolding Each replaced
each_replaced F original e [] p h = tt
each_replaced F original e (f ∷ es) p h = go (each_replaced F original e es p h.1) (is_eq (order_of f.key original)) refl
  where
    go : Each F (replaced original e es) → (t : Bool) → is_eq (order_of f.key original) ≡ t → Each F (replaced original e (f ∷ es))
    go rest true q = rw q (p, h.1)
    go rest false q = rw q (h.0, rest)

order_rising : (es : List Entry) → in_order es ≡ true → RisingEntries es
unfolding in_order RisingEntries
order_rising [] h = tt
order_rising (e ∷ []) h = tt
order_rising (e ∷ f ∷ es) h = let both = and_both _ _ h in (is_lt_lem _ both.0, order_rising (f ∷ es) both.1)

-- ---- insert_branch
module _ (P : ℕ) (b key : List ℕ) (child : ℕ) (out : List ℕ) (es : List Entry) (bytes : Bytes b) (fits : child < 2 ^ 64)
    (passed : lent_check_of P b ≡ Ok tt) (branch : is_leaf b ≡ false) where
  source : SoundBlock false true b
  source = lent_as P b false passed branch

  source_good : Each (Good false) (entries_of false b)
  unfolding entries_of
  source_good = good_from false true b source bytes (count_of b) 0 (omega arith)

  source_rising : RisingEntries (entries_of false b)
  unfolding entries_of
  source_rising = rising_from false true b source (count_of b) 0 (omega arith)

  added : add_branch P out (entry_with child key []) (entries_of false b) ≡ Ok es → Passes false P (id_of b) es
  unfolding add_branch
  added h =
      let first = refuse_node (present key (entries_of false b)) Conflict (written false P out (inserted (entry_with child key []) (entries_of false b))) h in
      let last = written_node false P out (inserted (entry_with child key []) (entries_of false b)) first.1 in
      rw (sym last.1)
      (packed false P (id_of b) _ (lent P b passed).allowed last.0
      (record {
        filled = λ z. absurd (inserted_some (entry_with child key []) (entries_of false b) z);
        good = each_inserted (Good false) (entry_with child key []) (entries_of false b) (fits, refl) source_good;
        rising = rising_inserted (entry_with child key []) (entries_of false b) source_rising;
      }))

  changed : (original : List ℕ) → replace_branch P out original (entry_with child key []) (entries_of false b) ≡ Ok es → Passes false P (id_of b) es
  unfolding replace_branch
  changed original h =
      let first = refuse_node _ Conflict _ h in
      let second = refuse_node _ Conflict _ first.1 in
      let last = written_node false P out _ second.1 in
      rw (sym last.1)
      (packed false P (id_of b) _ (lent P b passed).allowed last.0
      (record {
        filled = λ z. absurd (replaced_some original (entry_with child key []) (entries_of false b) (not-false _ first.0) z);
        good = each_replaced (Good false) original (entry_with child key []) (entries_of false b) (fits, refl) source_good;
        rising = order_rising (replaced original (entry_with child key []) (entries_of false b)) (not-false _ second.0);
      }))

pub branch_passes : (P : ℕ) (b : List ℕ) (original : Option (List ℕ)) (key : List ℕ) (child : ℕ) (out : List ℕ) (es : List Entry) → Bytes b → child < 2 ^ 64
    → insert_branch_of P b original key child out ≡ Ok es → Passes false P (id_of b) es
unfolding insert_branch_of
branch_passes P b original key child out es bytes fits done =
    let first = checked_node _ _ done in
    let second = refuse_node _ Argument _ first.1 in
    let third = refuse_node (ltb child 2) Argument _ second.1 in
    go original first.0 second.0 third.1
  where
    go : (o : Option (List ℕ)) → lent_check_of P b ≡ Ok tt → is_leaf b ≡ false
        → branch_outcome P out o (entry_with child key []) (entries_of false b) ≡ Ok es → Passes false P (id_of b) es
    go (Some o) passed branch h = changed P b key child out es bytes fits passed branch o h
    go None passed branch h = added P b key child out es bytes fits passed branch h

-- ---- new nodes
pub new_leaf_passes : (P id : ℕ) (out : List ℕ) (es : List Entry) → new_leaf_of P out ≡ Ok es → Passes true P id es
unfolding new_leaf_of Each RisingEntries
new_leaf_passes P id out es done =
    let first = refuse_node _ Geometry _ done in
    let last = written_node true P out _ first.1 in
    rw (sym last.1) (packed true P id [] (not-false _ first.0) last.0 (record { filled = λ z. refl; good = tt; rising = tt }))

pub new_branch_passes : (P id : ℕ) (key : List ℕ) (child : ℕ) (out : List ℕ) (es : List Entry) → child < 2 ^ 64 → new_branch_of P key child out ≡ Ok es
    → Passes false P id es
unfolding new_branch_of Each RisingEntries
new_branch_passes P id key child out es fits done =
    let first = refuse_node _ Geometry _ done in
    let second = refuse_node (ltb child 2) Argument _ first.1 in
    let last = written_node false P out _ second.1 in
    rw (sym last.1) (packed false P id (entry_with child key [] ∷ []) (not-false _ first.0) last.0 (record { filled = one_some; good = ((fits, refl), tt); rising = tt }))
  where
    one_some : suc 0 ≡ 0 → false ≡ true
    one_some z = absurd (omega arith)

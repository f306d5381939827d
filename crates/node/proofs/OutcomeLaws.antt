-- Outcomes and entries: what an outcome that is a node says of the tests before it, and what insertion and removal keep of a list of entries.
-- Assumes nothing.
use mathlib.Core.Path.{◌≡◌, refl}
use mathlib.Core.Bool.{Bool, true, false}
use mathlib.Core.List.{List, [], ◌∷◌, ◌++◌}
use Prim.Native.Nat.{ℕ, zero, suc, ◌+◌, ◌≤◌, ◌<◌}
use native.Mathlib.Omega.{arith}
use lib.Dec.{ltb}
use lib.ListN.{length}
use borrow.Author.Tests.{ltb-false}
use Rattle.std.specs.declared.cmp.Ordering.{Ordering}
use Rattle.std.specs.declared.cmp.Ordering.TheVariants.{Less, Equal, Greater}
use Rattle.field.specs.Order.{order_of}
use Rattle.field.proofs.OrderLaws.{order_equal, lower_iff}
use Rattle.page.specs.Layout.{Entry, entry_of, entries_from}
use Rattle.page.specs.PageRules.{and_then, Verdict}
use Rattle.pack.specs.Pack.{node_size, block_size}
use Rattle.pack.specs.Entries.{Each, RisingEntries}
use Rattle.size.specs.Size.{node_limit}
use Rattle.node.specs.Edit.{Outcome, refuse, written, inserted}
use Rattle.std.specs.Prelude.{Ok, Err}
use Rattle.field.specs.declared.refusal.Refusal.TheVariants.{OutputShort, NodeTooLarge}
use Rattle.field.specs.declared.refusal.Refusal.{Refusal}

-- ---- an outcome that is a node
module _ {es : List Entry} where
  pub checked_node : (v : Verdict) (o : Outcome) → and_then v o ≡ Ok es → (v ≡ Ok tt) × (o ≡ Ok es)
  checked_node (Ok u) o e = (refl, e)
  checked_node (Err b) o e = absurd (let z : ◌≡◌ {A = ℕ} 0 1 = cc in omega arith)

  pub refuse_node : (bad : Bool) (refusal : Refusal) (o : Outcome) → refuse bad refusal o ≡ Ok es → (bad ≡ false) × (o ≡ Ok es)
  refuse_node false refusal o e = (refl, e)
  refuse_node true refusal o e = absurd (let z : ◌≡◌ {A = ℕ} 0 1 = cc in omega arith)

  pub written_node : (leaf : Bool) (P : ℕ) (out : List ℕ) (fs : List Entry) → written leaf P out fs ≡ Ok es → (node_size leaf fs ≤ node_limit) × (fs ≡ es)
  unfolding written
  written_node leaf P out fs e =
      let first = refuse_node (ltb node_limit (node_size leaf fs)) NodeTooLarge (refuse (ltb (length out) (block_size leaf fs P)) OutputShort (Ok fs)) e in
      let same : Ok fs ≡ Ok es = (refuse_node (ltb (length out) (block_size leaf fs P)) OutputShort (Ok fs) first.1).1 in
      (ltb-false node_limit (node_size leaf fs) first.0, cc)

-- ---- what holds of each entry
pub each_append : (F : Entry → Type 0) (xs ys : List Entry) → Each F xs → Each F ys → Each F (xs ++ ys)
unfolding Each
each_append F [] ys h k = k
each_append F (x ∷ xs) ys h k = (h.0, each_append F xs ys h.1 k)

pub each_from : (F : Entry → Type 0) (leaf : Bool) (b : List ℕ) (k i : ℕ) → ((j : ℕ) → i ≤ j → j < i + k → F (entry_of leaf b j)) → Each F (entries_from leaf b k i)
unfolding Each entries_from
each_from F leaf b zero i h = tt
each_from F leaf b (suc k) i h = (h i (omega arith) (omega arith), each_from F leaf b k (i + 1) (λ j p q. h j (omega arith) (omega arith)))

pub each_inserted : (F : Entry → Type 0) (e : Entry) (es : List Entry) → F e → Each F es → Each F (inserted e es)
unfolding Each inserted
each_inserted F e [] p h = (p, tt)
each_inserted F e (f ∷ es) p h = go (each_inserted F e es p h.1) (order_of f.key e.key) refl
  where
    go : Each F (inserted e es) → (o : Ordering) → order_of f.key e.key ≡ o → Each F (inserted e (f ∷ es))
    go rest Less q = rw q (h.0, rest)
    go rest Equal q = rw q (p, h.1)
    go rest Greater q = rw q (p, h)

-- an entry that is inserted is there
pub inserted_there : (e : Entry) (es : List Entry) → Each (λ f. f.key ≡ e.key → ⊥) (inserted e es) → ⊥
unfolding Each inserted
inserted_there e [] h = h.0 refl
inserted_there e (f ∷ es) h = go (inserted_there e es) (order_of f.key e.key) refl h
  where
    go : (Each (λ g. g.key ≡ e.key → ⊥) (inserted e es) → ⊥) → (o : Ordering) → order_of f.key e.key ≡ o
        → Each (λ g. g.key ≡ e.key → ⊥) (inserted e (f ∷ es)) → ⊥
    go rest Less q k = let m : Each (λ g. g.key ≡ e.key → ⊥) (f ∷ inserted e es) = rw q at k in rest m.1
    go rest Equal q k = let m : Each (λ g. g.key ≡ e.key → ⊥) (e ∷ es) = rw q at k in m.0 refl
    go rest Greater q k = let m : Each (λ g. g.key ≡ e.key → ⊥) (e ∷ f ∷ es) = rw q at k in m.0 refl

-- ---- rising keys
above_head : (f g e : Entry) (es : List Entry) → order_of f.key g.key ≡ Less → order_of f.key e.key ≡ Less
    → RisingEntries (inserted e (g ∷ es)) → RisingEntries (f ∷ inserted e (g ∷ es))
unfolding RisingEntries inserted
above_head f g e es p q h = go (order_of g.key e.key) refl h
  where
    go : (o : Ordering) → order_of g.key e.key ≡ o → RisingEntries (inserted e (g ∷ es)) → RisingEntries (f ∷ inserted e (g ∷ es))
    go Less r k = rw r (p, rw r at k)
    go Equal r k = rw r (q, rw r at k)
    go Greater r k = rw r (q, rw r at k)

pub rising_inserted : (e : Entry) (es : List Entry) → RisingEntries es → RisingEntries (inserted e es)
unfolding RisingEntries inserted
rising_inserted e [] h = tt
rising_inserted e (f ∷ []) h = go (order_of f.key e.key) refl
  where
    go : (o : Ordering) → order_of f.key e.key ≡ o → RisingEntries (inserted e (f ∷ []))
    go Less q = rw q (q, tt)
    go Equal q = rw q tt
    go Greater q = rw q ((lower_iff e.key f.key).1 q, tt)
rising_inserted e (f ∷ g ∷ es) h = go (rising_inserted e (g ∷ es) h.1) (order_of f.key e.key) refl
  where
    go : RisingEntries (inserted e (g ∷ es)) → (o : Ordering) → order_of f.key e.key ≡ o → RisingEntries (inserted e (f ∷ g ∷ es))
    go rest Less q = rw q (above_head f g e es h.0 q rest)
    go rest Equal q = rw q (rw (order_equal f.key e.key q) at h.0, h.1)
    go rest Greater q = rw q ((lower_iff e.key f.key).1 q, h)

pub rising_append : (xs ys : List Entry) → RisingEntries xs → RisingEntries ys → Each (λ x. Each (λ y. order_of x.key y.key ≡ Less) ys) xs
    → RisingEntries (xs ++ ys)
unfolding RisingEntries Each
rising_append [] ys h k a = k
rising_append (x ∷ []) [] h k a = tt
rising_append (x ∷ []) (y ∷ ys) h k a = (a.0.0, k)
rising_append (x ∷ z ∷ xs) ys h k a = (h.0, rising_append (z ∷ xs) ys h.1 k a.1)

-- The resulting node: the size of planned entries, counted part by part, and the three ends of an edit.
-- Assumes nothing.
use mathlib.Core.Path.{◌≡◌, ◌∙◌}
use mathlib.Core.Bool.{Bool, true, false}
use mathlib.Core.List.{List, ◌++◌}
use Prim.Native.Nat.{ℕ, ◌+◌, ◌*◌, ◌/◌, ◌≤◌, ◌<◌}
use native.Mathlib.Nat.{div-lt_iff_lt-mul, le-div_iff_mul-le}
use native.Mathlib.Omega.{arith}
use lib.Dec.{ltb}
use lib.ListN.{length, drop}
use borrow.Author.Tests.{lt-ltb, le-ltb}
use Rattle.page.specs.Layout.{Entry, element_size}
use Rattle.pack.specs.declared.write.Plan.{Plan}
use Rattle.std.specs.Int.{div_ceil}
use Rattle.pack.specs.Pack.{node_size, block_size, pack}
use Rattle.pack.specs.Plan.{range, fresh, planned}
use Rattle.pack.proofs.PackLaws.{node_append, ceil_pages}
use Rattle.size.specs.Size.{node_limit, capped_size, entries_size}
use Rattle.size.proofs.SizeLaws.{size_least}
use Rattle.node.specs.Edit.{written, Edits}
use Rattle.node.proofs.NodeLaws.{past_limit, within_limit}
use Rattle.std.specs.Prelude.{Ok, Err, Some, None}
use Rattle.field.specs.declared.refusal.Refusal.TheVariants.{OutputShort, NodeTooLarge}
use Rattle.page.specs.PageRules.{breach}

-- ---- sizes
module _ (leaf : Bool) (p : Plan) (key value : List ℕ) where
  pub some_size : (tag : ℕ) → p.tag ≡ Some tag → entries_size leaf (fresh p key value) ≡ element_size leaf + (length key + length value)
  unfolding node_size
  some_size tag h = rw h (omega arith)

  pub none_size : p.tag ≡ None → entries_size leaf (fresh p key value) ≡ 0
  unfolding node_size
  none_size h = rw h

  pub planned_size : (b : List ℕ) → node_size leaf (planned leaf b p key value)
      ≡ 40
      + (entries_size leaf (range leaf b p.first p.stop)
      + (entries_size leaf (fresh p key value) + entries_size leaf (range leaf b p.resume p.last)))
  unfolding planned
  planned_size b =
      let xs : List Entry = range leaf b p.first p.stop in
      let ys : List Entry = fresh p key value in
      let zs : List Entry = range leaf b p.resume p.last in
      let u = node_append leaf (xs ++ ys) zs in
      let v = node_append leaf xs ys in
      let x = size_least leaf xs in
      let y = size_least leaf ys in
      let z = size_least leaf zs in
      omega arith

-- three parts counted one after the other
pub counted_three : {r₁ r₂ r₃ : ℕ} (sum a b c : ℕ) → r₁ ≡ capped_size (sum + a) → r₂ ≡ capped_size (r₁ + b) → r₃ ≡ capped_size (r₂ + c) → r₃ ≡ capped_size (sum + (a + (b + c)))
counted_three sum a b c e f g = omega arith

-- ---- the ends: too large, too short, written; in the code's numbers, the counted size and the pages
module _ (leaf : Bool) (id P : ℕ) (out : List ℕ) (es : List Entry) (size : ℕ) (told : size ≡ capped_size (node_size leaf es)) where
  pub too_large : node_limit < size → written leaf P out es ≡ Err (breach NodeTooLarge 0 0)
  unfolding written
  too_large h = let e = past_limit size (node_size leaf es) told h in rw e

  module _ (h : size ≤ node_limit) (p : 0 < P) (pages : ℕ) (hp : pages ≡ div_ceil size P) where
    pub pages_size : pages * P ≡ block_size leaf es P
    pages_size = rw (hp ∙ ceil_pages size P p, (within_limit size (node_size leaf es) told h).0)

    pub too_short_lem : length out / P < pages → written leaf P out es ≡ Err (breach OutputShort 0 0)
    unfolding written
    too_short_lem l =
        let e = (within_limit size (node_size leaf es) told h).1 in
        let k = (div-lt_iff_lt-mul p).0 l in
        let s = pages_size in
        let f : ltb (length out) (block_size leaf es P) ≡ true = lt-ltb (length out) (block_size leaf es P) (omega arith) in
        rw (e, f)

    pub long_enough : pages ≤ length out / P → block_size leaf es P ≤ length out
    long_enough l = let s = pages_size in let m = (le-div_iff_mul-le p).0 l in omega arith

    pub done : {r : ℕ} {exit : List ℕ} → pages ≤ length out / P → (r ≡ block_size leaf es P) × (exit ≡ pack leaf id es P ++ drop r out)
        → Edits leaf id P out (written leaf P out es) (Ok r) exit
    unfolding written
    done l w =
        let e = (within_limit size (node_size leaf es) told h).1 in
        let f : ltb (length out) (block_size leaf es P) ≡ false = le-ltb (length out) (block_size leaf es P) (long_enough l) in
        record { answers = rw (e, f, w.0); leaves = rw (e, f, ← w.0) w.1 }

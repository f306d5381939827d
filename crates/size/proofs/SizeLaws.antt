-- Laws of node sizes: an entry of a sound block is no longer than the block, and a sum past the limit decides.
-- Assumes nothing.
use mathlib.Core.Path.{◌≡◌, ap, ◌∙◌}
use mathlib.Core.Bool.{Bool, true}
use mathlib.Core.List.{List, [], ◌∷◌}
use Prim.Native.Nat.{ℕ, ◌+◌, ◌≤◌, ◌<◌}
use native.Mathlib.Nat.{sub-zero, min-le_right}
use native.Mathlib.Omega.{arith}
use lib.ListN.{length, length-drop}
use lib.Seq.{length-take-le}
use Rattle.page.specs.Layout.{Entry, count_of, key_size, value_size, value_end, key_of, value_of, entry_of, entries_of}
use Rattle.page.specs.PageRules.{SoundBlock}
use Rattle.page.proofs.LayoutLaws.{element_in}
use Rattle.pack.specs.Pack.{entry_size, node_size}
use Rattle.pack.specs.Plan.{range}
use Rattle.pack.proofs.RangeLaws.{range_next, range_end}
use Rattle.size.specs.Size.{node_limit, capped_size, entries_size}

-- ---- one entry
module _ (leaf : Bool) (b : List ℕ) (i : ℕ) (h : value_end leaf b i ≤ length b) where
  pub key_length : length (key_of leaf b i) ≡ key_size leaf b i
  unfolding key_of
  key_length = length-take-le _ _ (rw length-drop (omega arith))

  pub value_length_lem : length (value_of leaf b i) ≡ value_size leaf b i
  unfolding value_of
  value_length_lem = length-take-le _ _ (rw length-drop (omega arith))

pub entry_within : (leaf : Bool) (b : List ℕ) (i : ℕ) → SoundBlock leaf true b → i < count_of b → entry_size leaf (entry_of leaf b i) ≤ length b
entry_within leaf b i s l =
    let w = s.within i l in
    let k = key_length leaf b i w in
    let v = value_length_lem leaf b i w in
    let e = element_in leaf i (count_of b) l in
    let a = s.after i l in
    omega arith

-- ---- sums: what stands before entry i, and the entries from i on
pub size_least : (leaf : Bool) (es : List Entry) → 40 ≤ node_size leaf es
unfolding node_size
size_least leaf [] = omega arith
size_least leaf (e ∷ es) = let h = size_least leaf es in omega arith

module _ (leaf : Bool) (b : List ℕ) where
  pub size_next : (i n : ℕ) → i < n → node_size leaf (range leaf b i n) ≡ entry_size leaf (entry_of leaf b i) + node_size leaf (range leaf b (i + 1) n)
  unfolding node_size
  size_next i n h = rw (range_next leaf b i n h)

  pub size_none : (i n : ℕ) → n ≤ i → node_size leaf (range leaf b i n) ≡ 40
  unfolding node_size
  size_none i n h = rw (range_end leaf b i n h)

  pub size_all : (n : ℕ) → n ≡ count_of b → node_size leaf (range leaf b 0 n) ≡ node_size leaf (entries_of leaf b)
  unfolding entries_of
  size_all n h = rw (h, sub-zero)

-- in what entries add to a size
module _ (leaf : Bool) (b : List ℕ) where
  pub entries_next : (i n : ℕ) → i < n → entries_size leaf (range leaf b i n) ≡ entry_size leaf (entry_of leaf b i) + entries_size leaf (range leaf b (i + 1) n)
  entries_next i n h =
      let t = size_next leaf b i n h in
      let m = size_least leaf (range leaf b (i + 1) n) in
      omega arith

  pub entries_none : (i n : ℕ) → n ≤ i → entries_size leaf (range leaf b i n) ≡ 0
  entries_none i n h = let z = size_none leaf b i n h in omega arith

pub size_entries : (leaf : Bool) (es : List Entry) → 40 + entries_size leaf es ≡ node_size leaf es
size_entries leaf es = let m = size_least leaf es in omega arith

-- ---- the count stops one past the limit
pub counted_most : (size : ℕ) → capped_size size ≤ node_limit + 1
counted_most size = min-le_right size (node_limit + 1)

-- and may stop on the way
pub counted_then : (size more : ℕ) → capped_size (capped_size size + more) ≡ capped_size (size + more)
counted_then size more = omega arith

pub counted_step : {total' next : ℕ} (total size rest : ℕ) → total' ≡ capped_size (total + size) → next ≡ size + rest
    → capped_size (total' + rest) ≡ capped_size (total + next)
counted_step total size rest e f =
    let k : total + size + rest ≡ total + (size + rest) = omega arith in
    rw (e, f) (counted_then (total + size) rest ∙ ap capped_size k)

pub counted_end : (total rest : ℕ) → total ≤ node_limit + 1 → rest ≡ 0 → total ≡ capped_size (total + rest)
counted_end total rest h e = omega arith

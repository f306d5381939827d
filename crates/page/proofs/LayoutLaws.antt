-- Where elements and keys stand, for either kind of block, and that a block has the header of the bytes that it is the front of.
-- Assumes nothing.
use mathlib.Core.Path.{◌≡◌, refl}
use mathlib.Core.Bool.{Bool, true, false}
use mathlib.Core.List.{List}
use Prim.Native.Nat.{ℕ, ◌+◌, ◌-◌, ◌≤◌, ◌<◌}
use native.Mathlib.Nat.{add-sub_cancel_left}
use native.Mathlib.Omega.{arith}
use lib.ListN.{length, take, drop}
use lib.Seq.{get_or-take}
use Rattle.field.proofs.FieldLaws.{field_take}
use Rattle.page.specs.Layout.{id_of, type_of, count_of, overflow_of, element_size, element_at, key_size, key_at, value_at, table_end, key_of}

-- an element's place is before the table's end
pub element_in : (leaf : Bool) (i n : ℕ) → i < n → element_at leaf i + element_size leaf ≤ element_at leaf n
element_in false i n l = omega arith
element_in true i n l = omega arith

pub element_room : (leaf : Bool) (b : List ℕ) (i : ℕ) → i < count_of b → table_end leaf b ≤ length b → element_at leaf i + element_size leaf ≤ length b
element_room false b i l h = omega arith
element_room true b i l h = omega arith

-- twice as many as the elements of a table within the block are no more than its bytes
pub twice_room : (leaf : Bool) (b : List ℕ) → table_end leaf b ≤ length b → count_of b + count_of b ≤ length b
twice_room false b l = omega arith
twice_room true b l = omega arith

-- the part of a block that the code takes is the key
pub key_part : (leaf : Bool) (b : List ℕ) (i start size : ℕ) → start ≡ key_at leaf b i → size ≡ key_size leaf b i
    → take (start + size - start) (drop start b) ≡ key_of leaf b i
unfolding key_of
key_part leaf b i start size p q = rw (add-sub_cancel_left start size, p, q)

-- the part of a block from a key's start to its end
pub key_span : (leaf : Bool) (b : List ℕ) (i start end : ℕ) → start ≡ key_at leaf b i → end ≡ value_at leaf b i → take (end - start) (drop start b) ≡ key_of leaf b i
unfolding key_of
key_span leaf b i start end p q = rw (p, q, add-sub_cancel_left (key_at leaf b i) (key_size leaf b i))

pub element_first : (leaf : Bool) → 32 ≡ element_at leaf 0
element_first false = refl
element_first true = refl

-- ---- the header stands in the first 32 bytes
pub record SameHeader (b s : List ℕ) : Type 0 where
  pub id : id_of b ≡ id_of s
  pub type : type_of b ≡ type_of s
  pub count : count_of b ≡ count_of s
  pub overflow : overflow_of b ≡ overflow_of s

pub header_of_block : (n : ℕ) (s : List ℕ) → 32 ≤ n → SameHeader (take n s) s
header_of_block n s h =
    record {
      id = field_take 8 s 0 n (omega arith);
      type = get_or-take n s 8 0 (omega arith);
      count = field_take 8 s 16 n (omega arith);
      overflow = field_take 8 s 24 n (omega arith);
    }

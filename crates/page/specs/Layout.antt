-- 01, "Layout": where the numbers of a block stand, and the entries that it holds. A block is the bytes of a page and its overflow pages.
-- Whether a block is a leaf or a branch is a Bool: true is a leaf.
-- Assumes nothing.
use Rattle.std.specs.Prelude.{Bool, true, false, List, [], ◌∷◌, ℕ, zero, suc, ◌+◌, ◌*◌, eqb, get_or, take, drop}
use Rattle.field.specs.Field.{field}

-- ---- the header: id at 0, type at 8, count at 16, overflow at 24; elements start at 32
abbrev pub id_of : List ℕ → ℕ
id_of b = field 8 b 0

abbrev pub type_of : List ℕ → ℕ
type_of b = get_or b 8 0

abbrev pub count_of : List ℕ → ℕ
count_of b = field 8 b 16

abbrev pub overflow_of : List ℕ → ℕ
overflow_of b = field 8 b 24

-- types: branch 1, leaf 2, meta 3, freelist 4
abbrev pub is_branch : List ℕ → Bool
is_branch b = eqb (type_of b) 1

abbrev pub is_leaf : List ℕ → Bool
is_leaf b = eqb (type_of b) 2

-- ---- an element: a branch's has 24 bytes, page at 0, key size at 8, pos at 16; a leaf's has 32, kind at 0, pos at 8, key size at 16, value size at 24
abbrev pub element_size : Bool → ℕ
element_size false = 24
element_size true = 32

abbrev pub element_at : Bool → ℕ → ℕ
element_at leaf i = 32 + element_size leaf * i

abbrev pub page_of : List ℕ → ℕ → ℕ
page_of b i = field 8 b (element_at false i)

abbrev pub kind_of : List ℕ → ℕ → ℕ
kind_of b i = get_or b (element_at true i) 0

abbrev pub pos_of : Bool → List ℕ → ℕ → ℕ
pos_of false b i = field 8 b (element_at false i + 16)
pos_of true b i = field 8 b (element_at true i + 8)

abbrev pub key_size : Bool → List ℕ → ℕ → ℕ
key_size false b i = field 8 b (element_at false i + 8)
key_size true b i = field 8 b (element_at true i + 16)

-- a branch's element has no value
abbrev pub value_size : Bool → List ℕ → ℕ → ℕ
value_size false b i = 0
value_size true b i = field 8 b (element_at true i + 24)

-- pos counts from the element's own start; the value follows the key
abbrev pub key_at : Bool → List ℕ → ℕ → ℕ
key_at leaf b i = element_at leaf i + pos_of leaf b i

abbrev pub value_at : Bool → List ℕ → ℕ → ℕ
value_at leaf b i = key_at leaf b i + key_size leaf b i

abbrev pub value_end : Bool → List ℕ → ℕ → ℕ
value_end leaf b i = value_at leaf b i + value_size leaf b i

-- where the elements end
abbrev pub table_end : Bool → List ℕ → ℕ
table_end leaf b = element_at leaf (count_of b)

unfoldable pub key_of : Bool → List ℕ → ℕ → List ℕ
key_of leaf b i = take (key_size leaf b i) (drop (key_at leaf b i) b)

unfoldable pub value_of : Bool → List ℕ → ℕ → List ℕ
value_of leaf b i = take (value_size leaf b i) (drop (value_at leaf b i) b)

-- ---- entries: a leaf's kind or a branch's page, the key, and the value, which a branch's entry has not
pub record Entry : Type 0 where
  pub tag : ℕ
  pub key : List ℕ
  pub value : List ℕ

abbrev pub tag_of : Bool → List ℕ → ℕ → ℕ
tag_of false b i = page_of b i
tag_of true b i = kind_of b i

abbrev pub entry_of : Bool → List ℕ → ℕ → Entry
entry_of leaf b i = record { tag = tag_of leaf b i; key = key_of leaf b i; value = value_of leaf b i }

-- the k entries from i on
unfoldable pub entries_from : Bool → List ℕ → ℕ → ℕ → List Entry
entries_from leaf b zero i = []
entries_from leaf b (suc k) i = entry_of leaf b i ∷ entries_from leaf b k (i + 1)

-- all entries of a block
unfoldable pub entries_of : Bool → List ℕ → List Entry
entries_of leaf b = entries_from leaf b (count_of b) 0

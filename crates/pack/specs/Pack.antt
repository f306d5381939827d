-- 01, "Layout": the packed block that a writer makes of entries: header, all elements, then key and value of each in order, and zeros to the block's end.
-- Assumes nothing.
use Rattle.std.specs.Prelude.{Bool, true, false, List, [], ◌∷◌, ◌++◌, ℕ, ◌+◌, ◌-◌, ◌*◌, length, replicate}
use Rattle.field.specs.Field.{bytes_of}
use Rattle.field.specs.Sizes.{pages_needed}
use Rattle.page.specs.Layout.{Entry, element_size, element_at}

-- ---- sizes: 40 plus, for each entry, its element and its key and value bytes
abbrev pub entry_size : Bool → Entry → ℕ
entry_size leaf e = element_size leaf + (length e.key + length e.value)

unfoldable pub node_size : Bool → List Entry → ℕ
node_size leaf [] = 40
node_size leaf (e ∷ es) = entry_size leaf e + node_size leaf es

-- the content ends 8 bytes earlier
abbrev pub content_end : Bool → List Entry → ℕ
content_end leaf es = node_size leaf es - 8

abbrev pub block_size : Bool → List Entry → ℕ → ℕ
block_size leaf es P = pages_needed (node_size leaf es) P * P

-- ---- bytes; a type and a kind are one byte and seven of padding, which are zero
abbrev pub type_number : Bool → ℕ
type_number false = 1
type_number true = 2

unfoldable pub header : Bool → ℕ → ℕ → ℕ → List ℕ
header leaf id count overflow = bytes_of 8 id ++ bytes_of 8 (type_number leaf) ++ bytes_of 8 count ++ bytes_of 8 overflow

-- an element whose key stands pos after its own start
unfoldable pub element : Bool → ℕ → Entry → List ℕ
element false pos e = bytes_of 8 e.tag ++ bytes_of 8 (length e.key) ++ bytes_of 8 pos
element true pos e = bytes_of 8 e.tag ++ bytes_of 8 pos ++ bytes_of 8 (length e.key) ++ bytes_of 8 (length e.value)

abbrev pub body : Entry → List ℕ
body e = e.key ++ e.value

-- the table that stands from byte `at` on, of entries whose bodies stand from byte d on
unfoldable pub table : Bool → ℕ → ℕ → List Entry → List ℕ
table leaf at d [] = []
table leaf at d (e ∷ es) = element leaf (d - at) e ++ table leaf (at + element_size leaf) (d + length (body e)) es

unfoldable pub bodies : List Entry → List ℕ
bodies [] = []
bodies (e ∷ es) = body e ++ bodies es

-- the packed block
unfoldable pub pack : Bool → ℕ → List Entry → ℕ → List ℕ
pack leaf id es P =
    header leaf id (length es) (pages_needed (node_size leaf es) P - 1)
    ++ table leaf 32 (element_at leaf (length es)) es
    ++ bodies es
    ++ replicate (block_size leaf es P - content_end leaf es) 0

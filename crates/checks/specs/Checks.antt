-- 01, "Checks by example", the starred ones, at P = 1,024: what the definitions that the promises cite answer, and what 01 says.
-- Assumes nothing.
use Rattle.std.specs.Prelude.{◌≡◌, true, List, [], ◌∷◌, map, ℕ, ◌*◌, length, replicate}
use Rattle.field.specs.Sizes.{pages_needed}
use Rattle.page.specs.Layout.{Entry}
use Rattle.page.specs.Search.{index_of}
use Rattle.page.specs.Numbers.{indexed_fields}
use Rattle.pack.specs.Pack.{node_size, pack}
use Rattle.pack.specs.Plan.{entry_with}
use Rattle.cuts.specs.Split.{pieces_of}
use Rattle.freelist.specs.Answers.{allocated_fields}
use Rattle.freelist.specs.Freelist.{new_table, allocate_answer}

-- a check: what is asked of a definition, and what 01 says of it, as numbers
pub record Check : Type 0 where
  pub asked : List ℕ
  pub expected : List ℕ

abbrev check : List ℕ → List ℕ → Check
check asked expected = record { asked = asked; expected = expected }

-- ---- search: number, index, found, page, element, common
-- a leaf with the keys b and d
abbrev bd : List ℕ
bd = pack true 2 (entry_with 0 (98 ∷ []) [] ∷ entry_with 0 (100 ∷ []) [] ∷ []) 1024

abbrev index : ℕ → List ℕ
index key = indexed_fields (index_of 1024 bd (key ∷ []))

-- ---- split: how many entries each piece has
abbrev sized : ℕ → ℕ → Entry
sized key value = entry_with 0 (replicate key 0) (replicate value 0)

abbrev payloads : List ℕ → List Entry
payloads sizes = map (sized 0) sizes

abbrev pieces : List Entry → List ℕ
pieces es = map length (pieces_of true 1024 es)

-- ---- allocation: number, first page handed out, page count afterwards
-- a table whose first word of free bits is this, and the others 0
abbrev table_with : ℕ → List ℕ
table_with word = word ∷ replicate 33791 0

-- so many pages asked of a table with N pages
abbrev allocate : List ℕ → ℕ → ℕ → List ℕ
allocate table N pages = allocated_fields (allocate_answer table N 1024 (1024 * pages))

-- 2, 3, 7, 8, 9 and 11 are free
abbrev pub some_free : List ℕ
some_free = table_with 2956

-- 4, 5 and 6 are free
abbrev pub three_free : List ℕ
three_free = table_with 112

-- none is free
abbrev pub none_free : List ℕ
none_free = new_table (replicate 33792 0)

-- the starred checks, in 01's order; a node's block and an allocation go by one definition of the pages needed
unfoldable pub checks : List Check
checks =
    check (index 97) (0 ∷ 0 ∷ 0 ∷ 0 ∷ 0 ∷ 0 ∷ [])
    ∷ check (index 98) (0 ∷ 0 ∷ 1 ∷ 0 ∷ 0 ∷ 0 ∷ [])
    ∷ check (index 99) (0 ∷ 0 ∷ 0 ∷ 0 ∷ 0 ∷ 0 ∷ [])
    ∷ check (index 101) (0 ∷ 1 ∷ 0 ∷ 0 ∷ 0 ∷ 0 ∷ [])
    ∷ check (pages_needed 1024 1024 ∷ pages_needed 1025 1024 ∷ []) (1 ∷ 2 ∷ [])
    ∷ check (pieces (replicate 12 (sized 4 96))) (4 ∷ 3 ∷ 3 ∷ 2 ∷ [])
    ∷ check (pieces (replicate 8 (sized 4 96))) (4 ∷ 4 ∷ [])
    ∷ check (node_size true (payloads (164 ∷ 165 ∷ 165 ∷ 165 ∷ 165 ∷ [])) ∷ pieces (payloads (164 ∷ 165 ∷ 165 ∷ 165 ∷ 165 ∷ []))) (1024 ∷ 3 ∷ 2 ∷ [])
    ∷ check (pieces (payloads (163 ∷ 165 ∷ 165 ∷ 165 ∷ 165 ∷ []))) (5 ∷ [])
    ∷ check (pages_needed (node_size true (payloads (10 ∷ 10 ∷ 10 ∷ 10 ∷ 900 ∷ []))) 1024 ∷ pieces (payloads (10 ∷ 10 ∷ 10 ∷ 10 ∷ 900 ∷ []))) (2 ∷ 5 ∷ [])
    ∷ check (allocate some_free 12 3) (0 ∷ 7 ∷ 12 ∷ [])
    ∷ check (allocate some_free 12 4) (0 ∷ 12 ∷ 16 ∷ [])
    ∷ check (allocate three_free 7 2) (0 ∷ 4 ∷ 7 ∷ [])
    ∷ check (allocate none_free 32767 1) (0 ∷ 32767 ∷ 32768 ∷ [])
    ∷ check (allocate none_free 32767 2) (12 ∷ 0 ∷ 0 ∷ [])
    ∷ []

-- each is answered as 01 says
abbrev pub Hold : List Check → Type 0
Hold [] = Unit
Hold (c ∷ cs) = (c.asked ≡ c.expected) × Hold cs

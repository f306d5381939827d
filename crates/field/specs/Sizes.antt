-- The sizes that 01 allows, the pages that a size needs, and where a block of pages may stand.
-- Assumes nothing.
use Rattle.std.specs.Prelude.{ℕ, ◌+◌, ◌-◌, ◌/◌, ◌%◌, Bool, ◌&&◌, leb, eqb}

-- a page size: 1,024 to 65,536 and a multiple of 8
abbrev pub size_allowed : ℕ → Bool
size_allowed P = leb 1024 P && (leb P 65536 && eqb (P % 8) 0)

-- a page count: 2 to 32,768
abbrev pub count_allowed : ℕ → Bool
count_allowed N = leb 2 N && leb N 32768

-- pages needed: a size in bytes over the page size, rounded up
abbrev pub pages_needed : ℕ → ℕ → ℕ
pages_needed size P = (size + (P - 1)) / P

-- the k pages from page q on lie in 2 to N - 1
abbrev pub block_inside : ℕ → ℕ → ℕ → Bool
block_inside N q k = leb 2 q && leb (q + k) N

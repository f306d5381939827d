-- Freelist and allocation: for each call what it answers, and the table or the list that it leaves where it does not refuse.
-- Assumes nothing.
use Rattle.std.specs.Prelude.{◌≡◌, List, Bool, cond, ◌&&◌, ℕ, ◌+◌, ◌*◌, ◌≤◌, ◌<◌, leb, ltb, length, replicate, Ok}
use Rattle.std.specs.declared.result.Result.{Result}
use Rattle.field.specs.declared.refusal.Refusal.{Refusal}
use Rattle.field.specs.declared.refusal.Refusal.TheVariants.{Geometry, OutputShort, Argument, Full}
use Rattle.field.specs.Sizes.{size_allowed, count_allowed, pages_needed, block_inside}
use Rattle.field.specs.Run.{put_at}
use Rattle.freelist.specs.declared.Allocated.{Allocated}
use Rattle.freelist.specs.declared.table.State.{State}
use Rattle.freelist.specs.declared.table.State.TheVariants.{InUse, Free, Pending, Broken}
use Rattle.freelist.specs.Table.{state_of, is_state, is_in_use, is_free, is_listed}
use Rattle.freelist.specs.Pages.{pages_from, pages_of, all, first, keep, rising, each}
use Rattle.freelist.specs.Answers.{◌or_else◌, ◌and_then◌}

-- ---- sizes allowed

-- the table is long enough for 32,768 pages
unfoldable pub has_room : List ℕ → Bool
has_room t = leb 33792 (length t)

-- a table too short, or a page count not allowed, is 1; a page from 2 to n - 1 that is in none of the three states is 11
unfoldable pub fault_of : List ℕ → ℕ → Result Unit Refusal
fault_of t n = (has_room t && count_allowed n) or_else Geometry and_then all (λ k. is_state (state_of t k)) (pages_of n) or_else Argument

-- ---- a new table

-- a table too short is 1
unfoldable pub new_check : List ℕ → Result Unit Refusal
new_check t = has_room t or_else Geometry

-- all pages are in use: no bit is on, and every other word stays
unfoldable pub new_table : List ℕ → List ℕ
new_table t = put_at t 0 (replicate 1024 0)

-- ---- the initial list

-- strictly rising, each from 2 to n - 1 and in use
unfoldable pub initial : List ℕ → ℕ → List ℕ → Bool
initial t n ids = rising 2 ids && all (λ p. ltb p n && is_in_use (state_of t p)) ids

-- else 11
unfoldable pub init_check : List ℕ → ℕ → List ℕ → Result Unit Refusal
init_check t n ids = fault_of t n and_then initial t n ids or_else Argument

-- each becomes free
unfoldable pub init_table : List ℕ → List ℕ → List ℕ
init_table t ids = each (λ s. Free) ids t

-- ---- free

-- pages p to p + count - 1 are at least 1, and all inside 2 to n - 1
unfoldable pub block_allowed : ℕ → ℕ → ℕ → Bool
block_allowed n p count = leb 1 count && block_inside n p count

-- and they are all in use, else 11
unfoldable pub free_check : List ℕ → ℕ → ℕ → ℕ → Result Unit Refusal
free_check t n p count = fault_of t n and_then (block_allowed n p count && all (λ k. is_in_use (state_of t k)) (pages_from p count)) or_else Argument

-- they become pending under tx
unfoldable pub free_table : List ℕ → ℕ → ℕ → ℕ → List ℕ
free_table t p count tx = each (λ s. Pending tx) (pages_from p count) t

-- ---- release

-- a page that is pending under a number below tx becomes free
abbrev pub ripe : ℕ → State → State
ripe tx InUse = InUse
ripe tx Free = Free
ripe tx (Pending x) = cond (ltb x tx) Free (Pending x)
ripe tx Broken = Broken

-- everything from page 2 to n - 1
unfoldable pub release_table : List ℕ → ℕ → ℕ → List ℕ
release_table t n tx = each (ripe tx) (pages_of n) t

-- ---- allocate

-- pages s to s + pages - 1 are inside 2 to n - 1 and all free
unfoldable pub run : List ℕ → ℕ → ℕ → ℕ → Bool
run t n pages s = leb (s + pages) n && all (λ k. is_free (state_of t k)) (pages_from s pages)

-- the same, as a statement
abbrev pub FreeRun : List ℕ → ℕ → ℕ → ℕ → Type 0
FreeRun t n pages s = (2 ≤ s) × (s + pages ≤ n) × ((q : ℕ) → s ≤ q → q < s + pages → state_of t q ≡ Free)

-- the lowest s with such a run, and n where there is none
unfoldable pub lowest : List ℕ → ℕ → ℕ → ℕ
lowest t n pages = first (run t n pages) n (pages_of n)

-- the count of pages from then on: with no such run it grows
unfoldable pub count_after : List ℕ → ℕ → ℕ → ℕ
count_after t n pages = cond (ltb (lowest t n pages) n) n (n + pages)

-- every cause of 1 and 11: a page size not allowed is 1, and fewer than 40 bytes are 11
unfoldable pub request_fault : List ℕ → ℕ → ℕ → ℕ → Result Unit Refusal
request_fault t n size bytes = size_allowed size or_else Geometry and_then fault_of t n and_then leb 40 bytes or_else Argument

-- then 12 where the count would exceed 32,768
unfoldable pub allocate_check : List ℕ → ℕ → ℕ → ℕ → Result Unit Refusal
allocate_check t n size bytes = request_fault t n size bytes and_then leb (count_after t n (pages_needed bytes size)) 32768 or_else Full

-- the pages handed out start at the lowest run, and with no such run at n
unfoldable pub allocate_answer : List ℕ → ℕ → ℕ → ℕ → Result Allocated Refusal
allocate_answer t n size bytes =
    allocate_check t n size bytes and_then Ok (record { start = lowest t n (pages_needed bytes size); count = count_after t n (pages_needed bytes size) })

-- they become in use
unfoldable pub allocate_table : List ℕ → ℕ → ℕ → ℕ → List ℕ
allocate_table t n size bytes = each (λ s. InUse) (pages_from (lowest t n (pages_needed bytes size)) (pages_needed bytes size)) t

-- ---- listing

-- the free and pending ids, rising
unfoldable pub listing : List ℕ → ℕ → List ℕ
listing t n = keep (λ k. is_listed (state_of t k)) (pages_of n)

-- a list too short for them is 10
unfoldable pub pages_check : List ℕ → ℕ → List ℕ → Result Unit Refusal
pages_check t n ids = fault_of t n and_then leb (length (listing t n)) (length ids) or_else OutputShort

-- what `pages` answers: how many ids were written
abbrev pub pages_answer : List ℕ → ℕ → List ℕ → Result ℕ Refusal
pages_answer t n ids = pages_check t n ids and_then Ok (length (listing t n))

-- the ids are written from the first place on, and the rest stays
unfoldable pub pages_list : List ℕ → ℕ → List ℕ → List ℕ
pages_list t n ids = put_at ids 0 (listing t n)

-- ---- size

-- 40 plus 8 for each of them
unfoldable pub listing_size : List ℕ → ℕ → ℕ
listing_size t n = 40 + 8 * length (listing t n)

-- what `size` answers
abbrev pub size_answer : List ℕ → ℕ → Result ℕ Refusal
size_answer t n = fault_of t n and_then Ok (listing_size t n)

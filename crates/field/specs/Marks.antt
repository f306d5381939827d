-- A set of page numbers below 32,768, held as 512 words of 64 marks: what the contracts of `field::marks` cite.
-- Assumes nothing.
use Rattle.std.specs.Prelude.{◌≡◌, List, Bool, cond, ℕ, zero, suc, ◌+◌, ◌/◌, ◌%◌, ◌^◌, eqb, get_or, set, replicate}
use Rattle.std.specs.Int.Bits.{bit_or}

-- page k is marked in the word that its mark stands in: digit k % 64 is 1
abbrev pub marked_in : ℕ → ℕ → Bool
marked_in w k = eqb (w / 2 ^ (k % 64) % 2) 1

-- that word with page k marked
abbrev pub mark_in : ℕ → ℕ → ℕ
mark_in w k = bit_or w (2 ^ (k % 64))

-- page k's mark, 0 or 1: digit k % 64 of word k / 64
unfoldable pub mark : List ℕ → ℕ → ℕ
mark m k = get_or m (k / 64) 0 / 2 ^ (k % 64) % 2

-- page k is marked
abbrev pub Marked : List ℕ → ℕ → Type 0
Marked m k = mark m k ≡ 1

-- the same, as a test
abbrev pub is_marked : List ℕ → ℕ → Bool
is_marked m k = eqb (mark m k) 1

-- how many of the pages below n are marked
unfoldable pub count_below : List ℕ → ℕ → ℕ
count_below m zero = 0
count_below m (suc k) = mark m k + count_below m k

-- how many pages are marked
unfoldable pub count : List ℕ → ℕ
count m = count_below m 32768

-- the set with page p in it
unfoldable pub with_mark : List ℕ → ℕ → List ℕ
with_mark m p = set m (p / 64) (mark_in (get_or m (p / 64) 0) p)

-- the set with the k pages from p on in it
unfoldable pub with_marks : List ℕ → ℕ → ℕ → List ℕ
with_marks m p zero = m
with_marks m p (suc k) = with_marks (with_mark m p) (p + 1) k

-- the lowest marked of the k pages from p on, or the page after them where none is
unfoldable pub lowest_marked : List ℕ → ℕ → ℕ → ℕ
lowest_marked m p zero = p
lowest_marked m p (suc k) = cond (is_marked m p) p (lowest_marked m (p + 1) k)

-- the set with no page in it
unfoldable pub no_marks : List ℕ
no_marks = replicate 512 0

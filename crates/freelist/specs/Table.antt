-- The lent table: words 0 to 511 hold a free bit for each page below 32,768, words 512 to 1,023 a pending bit for each, and the
-- words from 1,024 on the transaction number of each pending page. What a page's state is, and how a page is given one.
-- Assumes nothing.
use Rattle.std.specs.Prelude.{List, Bool, true, false, ℕ, ◌+◌, ◌/◌, ◌%◌, ◌^◌, eqb, get_or, set}
use Rattle.std.specs.Int.Bits.{bit_or, bit_xor}
use Rattle.freelist.specs.declared.table.State.{State}
use Rattle.freelist.specs.declared.table.State.TheVariants.{InUse, Free, Pending, Broken}

-- ---- bits

-- bit j of the table: bit j % 64 of word j / 64. Page k's free bit is bit k, and its pending bit is bit 32,768 + k
unfoldable pub bit : List ℕ → ℕ → Bool
bit t j = eqb (get_or t (j / 64) 0 / 2 ^ (j % 64) % 2) 1

-- the word with its bit k on, or off
abbrev pub with_bit : ℕ → ℕ → Bool → ℕ
with_bit w k true = bit_or w (2 ^ k)
with_bit w k false = bit_xor (bit_or w (2 ^ k)) (2 ^ k)

-- the table with bit j made b
unfoldable pub put_bit : List ℕ → ℕ → Bool → List ℕ
put_bit t j b = set t (j / 64) (with_bit (get_or t (j / 64) 0) (j % 64) b)

-- ---- a page's state

-- what a page's free bit, pending bit and number say: both bits are none of the three states
abbrev pub state_from : Bool → Bool → ℕ → State
state_from false false x = InUse
state_from true false x = Free
state_from false true x = Pending x
state_from true true x = Broken

-- page k's state
unfoldable pub state_of : List ℕ → ℕ → State
state_of t k = state_from (bit t k) (bit t (32768 + k)) (get_or t (1024 + k) 0)

-- in use, free or pending
abbrev pub is_state : State → Bool
is_state InUse = true
is_state Free = true
is_state (Pending x) = true
is_state Broken = false

-- in use
abbrev pub is_in_use : State → Bool
is_in_use InUse = true
is_in_use Free = false
is_in_use (Pending x) = false
is_in_use Broken = false

-- free
abbrev pub is_free : State → Bool
is_free InUse = false
is_free Free = true
is_free (Pending x) = false
is_free Broken = false

-- free or pending
abbrev pub is_listed : State → Bool
is_listed InUse = false
is_listed Free = true
is_listed (Pending x) = true
is_listed Broken = false

-- ---- a page given a state

-- the free bit of a page in that state
abbrev pub free_bit : State → Bool
free_bit InUse = false
free_bit Free = true
free_bit (Pending x) = false
free_bit Broken = true

-- the pending bit of a page in that state
abbrev pub pending_bit : State → Bool
pending_bit InUse = false
pending_bit Free = false
pending_bit (Pending x) = true
pending_bit Broken = true

-- a pending page's number is written, and any other page's stays
abbrev pub with_number : List ℕ → ℕ → State → List ℕ
with_number t p InUse = t
with_number t p Free = t
with_number t p (Pending x) = set t (1024 + p) x
with_number t p Broken = t

-- the table with page p in the state s: its two bits, and its number if it is pending
unfoldable pub put : List ℕ → ℕ → State → List ℕ
put t p s = with_number (put_bit (put_bit t p (free_bit s)) (32768 + p) (pending_bit s)) p s

-- When a call is done: exactly when the table passes and its own conditions hold.
-- Assumes nothing.
use Rattle.field.specs.Sizes.{size_allowed}
use mathlib.Core.Path.{◌≡◌, refl, ap}
use mathlib.Core.Logic.{◌↔◌}
use mathlib.Core.List.{List}
use mathlib.Core.Bool.{true, ◌&&◌}
use Prim.Native.Nat.{ℕ, ◌+◌, ◌≤◌, ◌<◌}
use borrow.Author.Tests.{le-leb, leb-true, lt-ltb}
use lib.Dec.{ltb}
use lib.ListN.{length}
use Rattle.std.specs.Prelude.{Ok}
use Rattle.freelist.specs.declared.table.State.{State}
use Rattle.freelist.specs.declared.table.State.TheVariants.{InUse, Free, Pending, Broken}
use Rattle.freelist.specs.Table.{state_of, is_state, is_in_use}
use Rattle.freelist.specs.Pages.{◌∈◌, rising}
use Rattle.freelist.specs.Freelist.{fault_of, initial, init_check, block_allowed, free_check, request_fault}
use Rattle.freelist.proofs.PageLaws.{clash, all_of, all_row_of, all_row_at}
use Rattle.freelist.proofs.AnswerLaws.{held, both_pass}
use Rattle.freelist.proofs.FaultLaws.{passes, no_fault}
use Rattle.freelist.proofs.NumberLaws.{initiable, freeable}

used_is : (s : State) → is_in_use s ≡ true → s ≡ InUse
used_is InUse e = refl
used_is Free e = absurd (clash e refl)
used_is (Pending x) e = absurd (clash e refl)
used_is Broken e = absurd (clash e refl)

-- a table passes: it is long enough, the page count is allowed, and each page from 2 to n - 1 is in one of the three states
pub passes_iff : (t : List ℕ) (n : ℕ)
    → (fault_of t n ≡ Ok tt) ↔ ((33792 ≤ length t) × (2 ≤ n) × (n ≤ 32768) × ((q : ℕ) → 2 ≤ q → q < n → is_state (state_of t q) ≡ true))
passes_iff t n = (
  λ e. let s = passes t n e in (s.long, s.from, s.to, s.states),
  λ h. no_fault t n (record { long = h.0; from = h.1; to = h.2; states = h.3 }),
)

-- the initial list is taken: the ids rise strictly from 2 on, and each is below n and in use
pub init_iff : (t : List ℕ) (n : ℕ) (ids : List ℕ)
    → (init_check t n ids ≡ Ok tt) ↔ ((fault_of t n ≡ Ok tt) × (rising 2 ids ≡ true) × ((q : ℕ) → q ∈ ids → (q < n) × (state_of t q ≡ InUse)))
unfolding init_check initial
init_iff t n ids = (
  λ e. let s = initiable t n ids e in (no_fault t n s.table, s.up, λ q m. (s.below q m, used_is (state_of t q) (s.used q m))),
  λ h. rw (h.0, h.1, all_of (λ p. ltb p n && is_in_use (state_of t p)) ids (λ q m. rw (lt-ltb q n (h.2 q m).0, (h.2 q m).1))),
)

-- pages are freed: at least one, all inside 2 to n - 1 and in use
pub free_iff : (t : List ℕ) (n p count : ℕ)
    → (free_check t n p count ≡ Ok tt)
    ↔ ((fault_of t n ≡ Ok tt) × (1 ≤ count) × (2 ≤ p) × (p + count ≤ n) × ((q : ℕ) → p ≤ q → q < p + count → state_of t q ≡ InUse))
unfolding free_check block_allowed
free_iff t n p count = (there, back)
  where
    there : free_check t n p count ≡ Ok tt
        → (fault_of t n ≡ Ok tt) × (1 ≤ count) × (2 ≤ p) × (p + count ≤ n) × ((q : ℕ) → p ≤ q → q < p + count → state_of t q ≡ InUse)
    there e =
        let s = freeable t n p count e in
        (no_fault t n s.table, s.some, s.from, s.to, λ q a b. used_is (state_of t q) (all_row_at (λ k. is_in_use (state_of t k)) p count s.used q a b))

    back : (fault_of t n ≡ Ok tt) × (1 ≤ count) × (2 ≤ p) × (p + count ≤ n) × ((q : ℕ) → p ≤ q → q < p + count → state_of t q ≡ InUse)
        → free_check t n p count ≡ Ok tt
    back h =
        rw (h.0, le-leb 1 count h.1, le-leb 2 p h.2, le-leb (p + count) n h.3, all_row_of (λ k. is_in_use (state_of t k)) p count (λ q a b. ap is_in_use (h.4 q a b)))

-- bytes are asked for with no cause of 1 or 11
pub request_iff : (t : List ℕ) (n size bytes : ℕ)
    → (request_fault t n size bytes ≡ Ok tt) ↔ ((fault_of t n ≡ Ok tt) × (size_allowed size ≡ true) × (40 ≤ bytes))
unfolding request_fault
request_iff t n size bytes = (there, λ h. rw (h.1, h.0, le-leb 40 bytes h.2))
  where
    there : request_fault t n size bytes ≡ Ok tt → (fault_of t n ≡ Ok tt) × (size_allowed size ≡ true) × (40 ≤ bytes)
    there e =
        let y = both_pass _ _ e in
        let z = both_pass _ _ y.1 in
        (z.0, held _ _ y.0, leb-true 40 bytes (held _ _ z.1))

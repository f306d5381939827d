-- What it means that `init`, `free` or `allocate` has no cause to refuse.
-- Assumes nothing.
use Rattle.field.specs.Sizes.{size_allowed}
use mathlib.Core.Path.{◌≡◌}
use mathlib.Core.List.{List}
use mathlib.Core.Bool.{true, ◌&&◌}
use Prim.Native.Nat.{ℕ, ◌+◌, ◌%◌, ◌≤◌, ◌<◌}
use borrow.Author.Tests.{leb-true, ltb-true}
use lib.Dec.{eqb, leb, ltb}
use Rattle.std.specs.Prelude.{Ok}
use Rattle.freelist.specs.Table.{state_of, is_in_use}
use Rattle.freelist.specs.Pages.{◌∈◌, pages_from, all, rising}
use Rattle.freelist.specs.Freelist.{initial, init_check, block_allowed, free_check, request_fault}
use Rattle.freelist.proofs.PageLaws.{and_parts, all-at}
use Rattle.freelist.proofs.AnswerLaws.{held, both_pass}
use Rattle.freelist.proofs.FaultLaws.{Passes, passes}

-- ---- init

-- what `init` asks of the table and its ids
pub record Initiable (t : List ℕ) (n : ℕ) (ids : List ℕ) : Type 0 where
  pub table : Passes t n
  pub up : rising 2 ids ≡ true
  pub below : (p : ℕ) → p ∈ ids → p < n
  pub used : (p : ℕ) → p ∈ ids → is_in_use (state_of t p) ≡ true

pub initiable : (t : List ℕ) (n : ℕ) (ids : List ℕ) → init_check t n ids ≡ Ok tt → Initiable t n ids
unfolding init_check initial
initiable t n ids e =
    let z = both_pass _ _ e in
    let h = and_parts (rising 2 ids) (all (λ p. ltb p n && is_in_use (state_of t p)) ids) (held _ _ z.1) in
    let each : (p : ℕ) → p ∈ ids → (ltb p n ≡ true) × (is_in_use (state_of t p) ≡ true) =
    λ p m. and_parts (ltb p n) (is_in_use (state_of t p)) (all-at (λ p. ltb p n && is_in_use (state_of t p)) ids h.1 p m) in
    record { table = passes t n z.0; up = h.0; below = λ p m. ltb-true p n (each p m).0; used = λ p m. (each p m).1 }

-- ---- free

pub inside_is : (n p count : ℕ) → block_allowed n p count ≡ true → (1 ≤ count) × (2 ≤ p) × (p + count ≤ n)
unfolding block_allowed
inside_is n p count e =
    let x = and_parts (leb 1 count) (leb 2 p && leb (p + count) n) e in
    let y = and_parts (leb 2 p) (leb (p + count) n) x.1 in
    (leb-true 1 count x.0, leb-true 2 p y.0, leb-true (p + count) n y.1)

-- what `free` asks of the table and its pages
pub record Freeable (t : List ℕ) (n p count : ℕ) : Type 0 where
  pub table : Passes t n
  pub some : 1 ≤ count
  pub from : 2 ≤ p
  pub to : p + count ≤ n
  pub used : all (λ k. is_in_use (state_of t k)) (pages_from p count) ≡ true

pub freeable : (t : List ℕ) (n p count : ℕ) → free_check t n p count ≡ Ok tt → Freeable t n p count
unfolding free_check
freeable t n p count e =
    let used = all (λ k. is_in_use (state_of t k)) (pages_from p count) in
    let z = both_pass _ _ e in
    let h = and_parts (block_allowed n p count) used (held _ _ z.1) in
    let i = inside_is n p count h.0 in
    record { table = passes t n z.0; some = i.0; from = i.1; to = i.2; used = h.1 }

-- ---- allocate

size_is : (size : ℕ) → size_allowed size ≡ true → 1024 ≤ size
size_is size e = leb-true 1024 size (and_parts (leb 1024 size) (leb size 65536 && eqb (size % 8) 0) e).0

-- what every cause of 1 and 11 leaves
pub record Requested (t : List ℕ) (n size bytes : ℕ) : Type 0 where
  pub table : Passes t n
  pub wide : 1024 ≤ size
  pub some : 40 ≤ bytes

pub requested : (t : List ℕ) (n size bytes : ℕ) → request_fault t n size bytes ≡ Ok tt → Requested t n size bytes
unfolding request_fault
requested t n size bytes e =
    let y = both_pass _ _ e in
    let z = both_pass _ _ y.1 in
    record { table = passes t n z.0; wide = size_is size (held _ _ y.0); some = leb-true 40 bytes (held _ _ z.1) }

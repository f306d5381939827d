-- What it means that a table passes.
-- Assumes nothing.
use Rattle.field.specs.Sizes.{count_allowed}
use mathlib.Core.Path.{◌≡◌}
use mathlib.Core.List.{List}
use mathlib.Core.Bool.{true}
use Prim.Native.Nat.{ℕ, ◌-◌, ◌≤◌, ◌<◌}
use native.Mathlib.Omega.{arith}
use borrow.Author.Tests.{le-leb, leb-true}
use lib.Dec.{leb}
use lib.ListN.{length}
use Rattle.std.specs.Prelude.{Ok}
use Rattle.freelist.specs.Table.{state_of, is_state}
use Rattle.freelist.specs.Freelist.{has_room, fault_of}
use Rattle.freelist.proofs.AnswerLaws.{held, both_pass}
use Rattle.freelist.proofs.PageLaws.{and_parts, all_row_of, all_row_at}

pub record Passes (t : List ℕ) (n : ℕ) : Type 0 where
  pub long : 33792 ≤ length t
  pub from : 2 ≤ n
  pub to : n ≤ 32768
  pub states : (k : ℕ) → 2 ≤ k → k < n → is_state (state_of t k) ≡ true

pub passes : (t : List ℕ) (n : ℕ) → fault_of t n ≡ Ok tt → Passes t n
unfolding fault_of has_room
passes t n e =
    let z = both_pass _ _ e in
    let x = and_parts (has_room t) (count_allowed n) (held _ _ z.0) in
    let y = and_parts (leb 2 n) (leb n 32768) x.1 in
    let m = leb-true 2 n y.0 in
    record {
      long = leb-true 33792 (length t) x.0;
      from = m;
      to = leb-true n 32768 y.1;
      states = λ k l h. all_row_at (λ k. is_state (state_of t k)) 2 (n - 2) (held _ _ z.1) k l (omega arith);
    }

pub no_fault : (t : List ℕ) (n : ℕ) → Passes t n → fault_of t n ≡ Ok tt
unfolding fault_of has_room
no_fault t n s =
    let f = s.from in
    rw (le-leb 33792 (length t) s.long, le-leb 2 n f, le-leb n 32768 s.to, all_row_of (λ k. is_state (state_of t k)) 2 (n - 2) (λ j a b. s.states j a (omega arith)))

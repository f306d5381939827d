-- `freelist::list::check_initial` meets its contract. Each test is one of the definition.
-- Assumes nothing.
use mathlib.Core.Path.{sym}
use native.Mathlib.Omega.{arith}
use Rattle.std.proofs.Common.{rules}
use Rattle.std.proofs.lemmas.Bool.Decides.{nat_tests}
use Rattle.freelist.specs.Freelist.{init_check}
use Rattle.freelist.proofs.FaultLaws.{passes}
use Rattle.freelist.proofs.list.check_initial.Goals as goal

pub returns-in_err-check_table : goal.returns-in_err-check_table
unfolding init_check
returns-in_err-check_table c = search rules

pub is_initial-requires : goal.is_initial-requires
is_initial-requires c =
    let a = c.args in
    let s = passes a.t.now a.n (sym c.in_ok-check_table.ensures) in
    (s.to, s.long)

pub returns-then-not-is_initial : goal.returns-then-not-is_initial
unfolding init_check
returns-then-not-is_initial c = grind (arith, nat_tests)

pub returns : goal.returns
unfolding init_check
returns c = grind (arith, nat_tests)

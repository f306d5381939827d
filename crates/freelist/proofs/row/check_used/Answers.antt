-- `freelist::row::check_used` meets its contract. Each test is one of the definition.
-- Assumes nothing.
use mathlib.Core.Path.{sym, ◌∙◌}
use native.Mathlib.Omega.{arith}
use Rattle.std.proofs.Common.{rules}
use Rattle.std.proofs.lemmas.Bool.Decides.{nat_tests}
use Rattle.freelist.specs.Freelist.{free_check}
use Rattle.freelist.proofs.FaultLaws.{passes}
use Rattle.freelist.proofs.NumberLaws.{inside_is}
use Rattle.freelist.proofs.row.check_used.Goals as goal

pub returns-in_err-check_table : goal.returns-in_err-check_table
unfolding free_check
returns-in_err-check_table c = search rules

pub all_in_use-requires : goal.all_in_use-requires
all_in_use-requires c =
    let a = c.args in
    let s = passes a.t.now a.n (sym c.in_ok-check_table.ensures) in
    let i = inside_is a.n a.p a.count (sym c.is_inside.ensures ∙ c.if-not-is_inside.false) in
    (omega (arith, i.2, s.to), s.long)

pub returns-then-not-is_inside : goal.returns-then-not-is_inside
unfolding free_check
returns-then-not-is_inside c = grind (arith, nat_tests)

pub returns : goal.returns
unfolding free_check
returns c = grind (arith, nat_tests)

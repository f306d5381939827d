-- `freelist::pages` meets its contract. From the check, the count and the writer.
-- Assumes nothing.
use mathlib.Core.Path.{sym}
use native.Mathlib.Omega.{arith}
use Rattle.std.proofs.Common.{rules}
use Rattle.std.proofs.lemmas.Bool.Decides.{nat_tests}
use Rattle.freelist.specs.Freelist.{pages_check}
use Rattle.freelist.proofs.FaultLaws.{Passes, passes}
use Rattle.freelist.proofs.pages.Goals as goal
use Rattle.freelist.proofs.pages.Goals.{In_ok-check_table}

pub returns-in_err-check_table-clause-answer : goal.returns-in_err-check_table-clause-answer
unfolding pages_check
returns-in_err-check_table-clause-answer c = search rules

passed : (c : In_ok-check_table) → Passes c.args.table.now c.args.n
passed c = passes c.args.table.now c.args.n (sym c.in_ok-check_table.ensures)

pub count_listed-count-requires : goal.count_listed-count-requires
count_listed-count-requires c = let s = passed c in (s.to, s.long)

pub returns-then-ids-count-clause-answer : goal.returns-then-ids-count-clause-answer
unfolding pages_check
returns-then-ids-count-clause-answer c = grind (arith, nat_tests)

pub write_listed-requires : goal.write_listed-requires
write_listed-requires c =
    let s = passed (goal.at.write_listed-requires c).In_ok-check_table in
    let e = c.count_listed-count.ensures.0 in
    (s.to, s.long, omega (arith, c.if-ids-count.false))

pub returns-clause-answer : goal.returns-clause-answer
unfolding pages_check
returns-clause-answer c = grind (arith, nat_tests)

-- `freelist::run::check_request` meets its contract. Each test is one of the definition.
-- Assumes nothing.
use Rattle.std.proofs.Common.{arith, rules}
use Rattle.std.proofs.lemmas.Bool.Decides.{nat_tests}
use Rattle.freelist.specs.Freelist.{request_fault}
use Rattle.freelist.proofs.run.check_request.Goals as goal

pub returns-then-not-size_allowed : goal.returns-then-not-size_allowed
unfolding request_fault
returns-then-not-size_allowed c = grind (arith, nat_tests)

pub returns-in_err-check_table : goal.returns-in_err-check_table
unfolding request_fault
returns-in_err-check_table c = search rules

pub returns-then-bytes-lt-HEADER_SIZE : goal.returns-then-bytes-lt-HEADER_SIZE
unfolding request_fault
returns-then-bytes-lt-HEADER_SIZE c = grind (arith, nat_tests)

pub returns : goal.returns
unfolding request_fault
returns c = grind (arith, nat_tests)

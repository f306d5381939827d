-- `freelist::check::check_table` meets its contract. Each test is one of the definition.
-- Assumes nothing.
use Rattle.std.proofs.Common.{arith}
use Rattle.std.proofs.lemmas.Bool.Decides.{nat_tests}
use Rattle.freelist.specs.Freelist.{has_room, fault_of}
use Rattle.freelist.proofs.check.check_table.Goals as goal

pub returns-then-t-lt-TABLE_WORDS : goal.returns-then-t-lt-TABLE_WORDS
unfolding has_room fault_of
returns-then-t-lt-TABLE_WORDS c = grind (arith, nat_tests)

pub returns-then-not-all_states : goal.returns-then-not-all_states
unfolding has_room fault_of
returns-then-not-all_states c = grind (arith, nat_tests)

pub returns : goal.returns
unfolding has_room fault_of
returns c = grind (arith, nat_tests)

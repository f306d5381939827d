-- `freelist::new` meets its contract: the length is all that is asked.
-- Assumes nothing.
use Rattle.std.proofs.Common.{arith}
use Rattle.std.proofs.lemmas.Bool.Decides.{nat_tests}
use Rattle.freelist.specs.Freelist.{has_room, new_check}
use Rattle.freelist.proofs.new.Goals as goal

pub returns-then-table-lt-TABLE_WORDS-clause-answer : goal.returns-then-table-lt-TABLE_WORDS-clause-answer
unfolding has_room new_check
returns-then-table-lt-TABLE_WORDS-clause-answer c = grind (arith, nat_tests)

pub returns-clause-answer : goal.returns-clause-answer
unfolding has_room new_check
returns-clause-answer c = grind (arith, nat_tests)

-- `freelist::row::is_inside` meets its contract. Each test is one of the definition.
-- Assumes nothing.
use Rattle.std.proofs.Common.{arith}
use Rattle.std.proofs.lemmas.Bool.Decides.{nat_tests}
use Rattle.freelist.specs.Freelist.{block_allowed}
use Rattle.freelist.proofs.row.is_inside.Goals as goal

pub returns-then-p-n : goal.returns-then-p-n
unfolding block_allowed
returns-then-p-n c = grind (arith, nat_tests)

pub returns-else-p-n : goal.returns-else-p-n
unfolding block_allowed
returns-else-p-n c = grind (arith, nat_tests)

-- `judge::range::against_upper` meets its contract: with no upper end every key is in range. Assumes nothing.
use Rattle.std.proofs.Common.{rules}
use Rattle.walk.specs.Tree.{lower}
use Rattle.judge.proofs.range.against_upper.Goals as goal

pub returns-then-is_lt : goal.returns-then-is_lt
unfolding lower
returns-then-is_lt c = search rules

pub returns : goal.returns
unfolding lower
returns c = search rules

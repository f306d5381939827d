-- `judge::range::against_range` meets its contract: the lower end first, then the upper. Assumes nothing.
use Rattle.std.proofs.Common.{rules}
use Rattle.walk.specs.Tree.{lower}
use Rattle.judge.proofs.range.against_range.Goals as goal

pub returns-then-is_lt : goal.returns-then-is_lt
unfolding lower
returns-then-is_lt c = search rules

pub returns : goal.returns
unfolding lower
returns c = search rules

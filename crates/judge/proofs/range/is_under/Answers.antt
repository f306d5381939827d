-- `judge::range::is_under` meets its contract: with no upper end every key is below it. Assumes nothing.
use Rattle.std.proofs.Common.{rules}
use Rattle.walk.specs.Tree.{lower}
use Rattle.judge.proofs.range.is_under.Goals as goal

pub returns : goal.returns
unfolding lower
returns c = search rules

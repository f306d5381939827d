-- `page::rules::keeps` meets its contract, for either kind of block. Assumes nothing.
use Rattle.page.proofs.rules.keeps.Goals as goal

pub leaf_keeps-requires : goal.leaf_keeps-requires
leaf_keeps-requires c = rw c.if-leaf.true at c.requires

pub returns-then-leaf : goal.returns-then-leaf
returns-then-leaf c = rw c.if-leaf.true c.leaf_keeps.ensures

pub branch_keeps-requires : goal.branch_keeps-requires
branch_keeps-requires c = rw c.if-leaf.false at c.requires

pub returns : goal.returns
returns c = rw c.if-leaf.false c.branch_keeps.ensures

-- `page::rules::element_bad` meets its contract, for either kind of block. Assumes nothing.
use Rattle.page.proofs.rules.element_bad.Goals as goal

pub leaf_bad-requires : goal.leaf_bad-requires
leaf_bad-requires c = rw c.if-leaf.true at c.requires

pub returns-then-leaf : goal.returns-then-leaf
returns-then-leaf c = rw c.if-leaf.true c.leaf_bad.ensures

pub branch_bad-requires : goal.branch_bad-requires
branch_bad-requires c = rw c.if-leaf.false at c.requires

pub returns : goal.returns
returns c = rw c.if-leaf.false c.branch_bad.ensures

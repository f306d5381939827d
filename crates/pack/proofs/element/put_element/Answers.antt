-- `pack::element::put_element` meets its contract, for either kind of block: the words put are the element. Assumes nothing.
use borrow.Author.Rules.{rules}
use Rattle.pack.specs.Pack.{element}
use Rattle.pack.proofs.element.put_element.Goals as goal

pub returns-then-leaf : goal.returns-then-leaf
unfolding element
returns-then-leaf c =
    (search rules, rw c.if-leaf.true c.put_four.ensures)

pub returns : goal.returns
unfolding element
returns c =
    (search rules, rw c.if-leaf.false c.put_three.ensures)

-- `pack::element::value` meets its contract: the part from the value's start to its end is the value. Assumes nothing.
use Prim.Native.Nat.{◌+◌}
use borrow.Author.Rules.{rules}
use Rattle.pack.proofs.RangeLaws.{value_part}
use Rattle.pack.proofs.element.value.Goals as goal

pub returns : goal.returns
returns c =
    let a = c.args in
    let start = c.key_at.result + c.key_size.result in
    value_part a.leaf a.block.now a.i start _ (search rules) c.value_length.ensures

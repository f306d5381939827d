-- `size::entry_size` meets its contract: an entry of a sound block lies within it, so that its size does not wrap. Assumes nothing.
use native.Mathlib.Omega.{arith}
use Rattle.size.proofs.SizeLaws.{entry_within}
use Rattle.size.proofs.entry_size.Goals as goal

pub returns : goal.returns
returns c = rw (c.element_size.ensures, c.key-k.ensures, c.value-v.ensures)

pub overflow_add-result-2 : goal.overflow_add-result-2
overflow_add-result-2 c =
    let w = entry_within c.args.leaf c.args.b.now c.args.i c.requires.1 c.requires.0 in
    let e = returns c in
    omega arith

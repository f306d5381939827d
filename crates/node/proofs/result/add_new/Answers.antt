-- `node::result::add_new` meets its contract: element, key and value are counted one after the other. Assumes nothing.
use Prim.Native.Nat.{◌+◌}
use mathlib.Core.Path.{ap, sym, ◌∙◌}
use lib.ListN.{length}
use Rattle.page.specs.Layout.{element_size}
use Rattle.size.specs.Size.{capped_size}
use Rattle.size.proofs.SizeLaws.{counted_end}
use Rattle.node.proofs.ResultLaws.{some_size, none_size, counted_three}
use Rattle.node.proofs.result.add_new.Goals as goal

pub returns-in-Some : goal.returns-in-Some
returns-in-Some c =
    let a = c.args in
    let size = some_size a.leaf a.plan a.key.now a.value.now c.in-Some.field-0 c.in-Some.is in
    counted_three a.sum (element_size a.leaf) (length a.key.now) (length a.value.now)
    (rw c.element_size.ensures at c.add_size-a.ensures) c.add_size-k.ensures c.add_size.ensures
    ∙ ap (λ n. capped_size (a.sum + n)) (sym size)

pub returns-in-None : goal.returns-in-None
returns-in-None c =
    let a = c.args in
    counted_end a.sum _ c.requires (none_size a.leaf a.plan a.key.now a.value.now c.in-None.is)

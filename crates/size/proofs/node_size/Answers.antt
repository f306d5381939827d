-- `size::node_size` meets its contract: all entries are counted, from the size of a node without any. Assumes nothing.
use mathlib.Core.Path.{ap, ◌∙◌}
use Rattle.size.specs.Size.{capped_size}
use Rattle.size.proofs.SizeLaws.{size_all, size_entries}
use Rattle.size.proofs.node_size.Goals as goal

pub returns : goal.returns
returns c =
    let a = c.args in
    let all = size_all a.leaf a.b.now c.count-n.result c.count-n.ensures in
    c.add_entries.ensures ∙ ap capped_size (size_entries a.leaf _ ∙ all)

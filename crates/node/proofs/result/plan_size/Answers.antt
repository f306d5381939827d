-- `node::result::plan_size` meets its contract: the two ranges and the new entry are counted one after the other. Assumes nothing.
use mathlib.Core.Path.{ap, sym, ◌∙◌}
use Rattle.size.specs.Size.{capped_size, entries_size}
use Rattle.pack.specs.Plan.{range, fresh}
use Rattle.node.proofs.ResultLaws.{planned_size, counted_three}
use Rattle.node.proofs.result.plan_size.Goals as goal

pub returns : goal.returns
returns c =
    let a = c.args in
    let p = a.plan in
    let size = planned_size a.leaf p a.key.now a.value.now a.b.now in
    counted_three 40 (entries_size a.leaf (range a.leaf a.b.now p.first p.stop))
    (entries_size a.leaf (fresh p a.key.now a.value.now)) (entries_size a.leaf (range a.leaf a.b.now p.resume p.last))
    c.add_entries-front.ensures c.add_new-middle.ensures c.add_entries.ensures
    ∙ ap capped_size (sym size)

-- `probe::search::tyvarmos_entry` meets its contract: it gives the answer's number and fields. Assumes nothing.
use mathlib.Core.Path.{sym}
use Rattle.probe.proofs.SearchLaws.{held_ordered}
use Rattle.probe.proofs.search.tyvarmos_entry.Goals as goal

pub tell_held-requires : goal.tell_held-requires
tell_held-requires c =
    let a = c.args in
    rw c.entry-held.ensures (held_ordered a.p a.block.now a.index)

pub returns : goal.returns
returns c =
    let e = sym c.entry-held.ensures in
    rw e c.tell_held.ensures

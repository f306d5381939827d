-- `shard::tyvarmos_lookup` meets its contract. Assumes nothing.
use mathlib.Core.Path.{sym}
use Rattle.shard.proofs.tyvarmos_lookup.Goals as goal

pub returns : goal.returns
returns c = rw (sym c.lookup.ensures) c.tell.ensures

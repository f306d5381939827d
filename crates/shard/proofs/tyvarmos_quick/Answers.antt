-- `shard::tyvarmos_quick` meets its contract. Assumes nothing.
use mathlib.Core.Path.{sym}
use Rattle.shard.proofs.tyvarmos_quick.Goals as goal

pub returns : goal.returns
returns c = rw (sym c.quick.ensures) c.tell.ensures

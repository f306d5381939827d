-- `freelist::table::bit_of` meets its contract. The bit is what the shift leaves.
-- Assumes nothing.
use mathlib.Core.Path.{refl}
use Rattle.freelist.specs.Table.{bit}
use Rattle.freelist.proofs.table.bit_of.Goals as goal

pub returns : goal.returns
unfolding bit
returns c = refl

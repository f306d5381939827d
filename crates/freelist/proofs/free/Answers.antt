-- `freelist::free` meets its contract. From the check and the loop.
-- Assumes nothing.
use mathlib.Core.Path.{sym}
use native.Mathlib.Omega.{arith}
use Rattle.freelist.specs.Freelist.{free_table}
use Rattle.freelist.proofs.NumberLaws.{freeable}
use Rattle.freelist.proofs.free.Goals as goal

pub put_all-requires : goal.put_all-requires
put_all-requires c =
    let a = c.args in
    let s = freeable a.table.now a.n a.p a.count (sym c.in_ok-check_used.ensures) in
    (omega (arith, s.to, s.table.to), s.table.long)

pub returns-clause-lent : goal.returns-clause-lent
unfolding free_table
returns-clause-lent c = c.put_all.ensures

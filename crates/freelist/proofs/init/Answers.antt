-- `freelist::init` meets its contract. From the check and the loop.
-- Assumes nothing.
use mathlib.Core.Path.{sym}
use native.Mathlib.Omega.{arith}
use lib.ListN.{get_or}
use Rattle.freelist.proofs.PageLaws.{at_in}
use Rattle.freelist.proofs.NumberLaws.{initiable}
use Rattle.freelist.proofs.init.Goals as goal

pub free_each-requires : goal.free_each-requires
free_each-requires c =
    let a = c.args in
    let s = initiable a.table.now a.n a.ids.now (sym c.in_ok-check_initial.ensures) in
    let o = s.table.to in
    (λ k l. let b = s.below (get_or a.ids.now k 0) (at_in a.ids.now k l) in omega arith, s.table.long)

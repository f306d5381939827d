-- `freelist::release` meets its contract. From the check and the loop.
-- Assumes nothing.
use mathlib.Core.Path.{sym}
use Rattle.freelist.proofs.FaultLaws.{passes}
use Rattle.freelist.proofs.release.Goals as goal

pub release_all-requires : goal.release_all-requires
release_all-requires c =
    let a = c.args in
    let s = passes a.table.now a.n (sym c.in_ok-check_table.ensures) in
    (s.to, s.long)

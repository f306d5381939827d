-- `freelist::row::release_all` meets its contract. The loop's invariant: what is left to do from i on gives the table that is promised.
-- Assumes nothing.
use mathlib.Core.Path.{◌≡◌}
use Prim.Native.Nat.{◌-◌}
use Rattle.freelist.specs.Pages.{pages_from, each}
use Rattle.freelist.specs.Freelist.{ripe, release_table}
use Rattle.freelist.proofs.row.release_all.Given as goal

abbrev pub invariant-loop-i : goal.invariant-loop-i
invariant-loop-i l = each (ripe l.tx) (pages_from l.i (l.n - l.i)) l.t ≡ release_table l.initial.t l.n l.tx

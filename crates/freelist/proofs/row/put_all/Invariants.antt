-- `freelist::row::put_all` meets its contract. The loop's invariant: what is left to do from i on gives the table that is promised.
-- Assumes nothing.
use mathlib.Core.Path.{◌≡◌}
use Prim.Native.Nat.{◌+◌, ◌-◌}
use Rattle.freelist.specs.Pages.{pages_from, each}
use Rattle.freelist.proofs.row.put_all.Given as goal

abbrev pub invariant-loop-i : goal.invariant-loop-i
invariant-loop-i l = each (λ old. l.s) (pages_from l.i (l.p + l.count - l.i)) l.t ≡ each (λ old. l.s) (pages_from l.p l.count) l.initial.t

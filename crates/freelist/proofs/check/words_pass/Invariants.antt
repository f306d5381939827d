-- `freelist::check::words_pass` meets its contract. The loop's invariant: what is asked of all the words is that nothing was gathered and
-- what is left to ask from word i on. Assumes nothing.
use mathlib.Core.Path.{◌≡◌}
use mathlib.Core.Bool.{◌&&◌}
use Prim.Native.Nat.{◌-◌, ◌*◌}
use lib.Dec.{eqb}
use Rattle.freelist.specs.Table.{is_state, state_of}
use Rattle.freelist.specs.Pages.{all, pages_from}
use Rattle.freelist.proofs.check.words_pass.Given as goal

abbrev pub invariant-loop-i : goal.invariant-loop-i
invariant-loop-i l =
    (eqb l.bad 0 && all (λ p. is_state (state_of l.t p)) (pages_from (64 * l.i) (64 * l.m - 64 * l.i))) ≡ all (λ p. is_state (state_of l.t p)) (pages_from 64 (64 * l.m - 64))

-- `freelist::table::state_of` meets its contract. Each answer by the two bits.
-- Assumes nothing.
use mathlib.Core.Path.{sym}
use mathlib.Core.Bool.{true, false}
use Rattle.freelist.proofs.States.{state_bits}
use Rattle.freelist.proofs.table.state_of.Goals as goal

pub returns-in-false-false : goal.returns-in-false-false
returns-in-false-false c = let e = c.in-false-false in state_bits _ _ false false (sym e.ensures) (sym e.ensures')

pub returns-in-true-false : goal.returns-in-true-false
returns-in-true-false c = let e = c.in-true-false in state_bits _ _ true false (sym e.ensures) (sym e.ensures')

pub returns-in-false-true : goal.returns-in-false-true
returns-in-false-true c = let e = c.in-false-true in state_bits _ _ false true (sym e.ensures) (sym e.ensures')

pub returns-in-true-true : goal.returns-in-true-true
returns-in-true-true c = let e = c.in-true-true in state_bits _ _ true true (sym e.ensures) (sym e.ensures')

-- `freelist::run::lowest_run` meets its contract. The loop's invariant is `Scan`.
-- Assumes nothing.
use Rattle.freelist.proofs.RunLaws.{Scan}
use Rattle.freelist.proofs.run.lowest_run.Given as goal

abbrev pub invariant-loop-i : goal.invariant-loop-i
invariant-loop-i l = Scan l.t l.n l.pages l.i l.start

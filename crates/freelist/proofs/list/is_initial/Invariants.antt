-- `freelist::list::is_initial` meets its contract. The loop's invariant: what is asked of all the ids is what is left to ask from `id` on.
-- Assumes nothing.
use mathlib.Core.Path.{◌≡◌}
use Rattle.freelist.specs.Freelist.{initial}
use Rattle.freelist.proofs.ListLaws.{initial_from}
use Rattle.freelist.proofs.list.is_initial.Given as goal

abbrev pub invariant-loop-id : goal.invariant-loop-id
invariant-loop-id l = initial l.t l.n l.ids ≡ initial_from l.t l.n l.ids l.low l.id-index

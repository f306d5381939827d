-- `freelist::list::free_each` meets its contract. The loop's invariant: freeing the ids from `id` on gives the table that is promised.
-- Assumes nothing.
use mathlib.Core.Path.{◌≡◌}
use lib.ListN.{drop}
use Rattle.freelist.specs.declared.table.State.TheVariants.{Free}
use Rattle.freelist.specs.Pages.{each}
use Rattle.freelist.specs.Freelist.{init_table}
use Rattle.freelist.proofs.list.free_each.Given as goal

abbrev pub invariant-loop-id : goal.invariant-loop-id
invariant-loop-id l = each (λ s. Free) (drop l.id-index l.ids) l.t ≡ init_table l.initial.t l.ids

use mathlib.Core.Path.{refl, sym, ap, ◌∙◌}
use Prim.Native.Nat.{◌+◌}
use lib.ListN.{drop}
use Rattle.freelist.specs.declared.table.State.TheVariants.{Free}
use Rattle.freelist.specs.Pages.{each}
use Rattle.freelist.specs.Freelist.{init_table}
use Rattle.freelist.proofs.ListLaws.{free_next, free_end}
use Rattle.freelist.proofs.list.free_each.Goals as goal

pub loop-id-init : goal.loop-id-init
unfolding init_table
loop-id-init c = refl

pub loop-id-preserved : goal.loop-id-preserved
loop-id-preserved c =
    let l = c.loop-id in
    ap (each (λ s. Free) (drop (l.id-index + 1) c.args.ids.now)) c.put_state.ensures
    ∙ sym (free_next c.args.ids.now l.t l.id-index c.loop-id-test.true) ∙ l.invariant

pub returns : goal.returns
returns c =
    let l = c.loop-id in
    sym (free_end c.args.ids.now l.t l.id-index c.loop-id-test.false) ∙ l.invariant

use mathlib.Core.Path.{refl, sym, ap, ◌∙◌}
use Prim.Native.Nat.{◌+◌, ◌-◌}
use Rattle.freelist.specs.Pages.{pages_from, each}
use Rattle.freelist.specs.Freelist.{ripe, release_table}
use Rattle.freelist.proofs.EachLaws.{each_next, each_none}
use Rattle.freelist.proofs.row.release_all.Goals as goal

pub loop-i-init : goal.loop-i-init
unfolding release_table
loop-i-init c = refl

pub loop-i-preserved : goal.loop-i-preserved
loop-i-preserved c =
    let a = c.args in
    let l = c.loop-i in
    ap (each (ripe a.tx) (pages_from (l.i + 1) (a.n - (l.i + 1)))) c.release_page.ensures
    ∙ sym (each_next (ripe a.tx) l.i a.n l.t c.loop-i-test.true) ∙ l.invariant

pub returns : goal.returns
returns c =
    let a = c.args in
    let l = c.loop-i in
    sym (each_none (ripe a.tx) l.i a.n l.t c.loop-i-test.false) ∙ l.invariant

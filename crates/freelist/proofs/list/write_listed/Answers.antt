use mathlib.Core.Path.{sym, ap, ◌∙◌}
use native.Mathlib.Omega.{arith}
use lib.ListN.{length}
use Rattle.field.specs.Run.{put_at}
use Rattle.freelist.specs.Freelist.{pages_list}
use Rattle.freelist.proofs.ListLaws.{listing_start, count_next, count_skip, write_next, write_skip, write_end}
use Rattle.freelist.proofs.list.write_listed.Goals as goal
use Rattle.freelist.proofs.list.write_listed.Goals.{then-is_listed, else-is_listed}

pub loop-i-init : goal.loop-i-init
loop-i-init c =
    let a = c.args in
    let e = listing_start a.t.now a.n in
    (omega (arith, ap length e), ap (put_at a.ids.now 0) (sym e))

pub bounds-ids-at : goal.bounds-ids-at
bounds-ids-at c =
    let a = c.args in
    let l = c.loop-i in
    let f = l.invariant.0 in
    let s = l.auto.ids in
    omega (arith, count_next a.t.now a.n l.i c.loop-i-test.true (sym c.is_listed.ensures ∙ c.if-is_listed.true))

pub loop-i-preserved : goal.loop-i-preserved
loop-i-preserved c =
    let a = c.args in
    let l = c.loop-i in
    let f = l.invariant.0 in
    let s = l.auto.ids in
    let b = c.loop-i-test.true in
    elim c.if-is_listed.branch [
      | then-is_listed w ↦ (let e = sym c.is_listed.ensures ∙ w.if-is_listed.true in
          let g = count_next a.t.now a.n l.i b e in
          (omega arith, rw (w.ids-is, w.at-is) (write_next a.t.now a.n l.i b l.ids l.at (omega arith) e ∙ l.invariant.1)))
      | else-is_listed w ↦ (let e = sym c.is_listed.ensures ∙ w.if-is_listed.false in
          let g = count_skip a.t.now a.n l.i b e in
          (omega arith, rw (w.ids-is, w.at-is) (write_skip a.t.now a.n l.i b l.ids l.at e ∙ l.invariant.1)))
    ]

pub returns : goal.returns
unfolding pages_list
returns c =
    let a = c.args in
    let l = c.loop-i in
    sym (write_end a.t.now a.n l.i c.loop-i-test.false l.ids l.at) ∙ l.invariant.1

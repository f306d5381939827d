use mathlib.Core.Path.{refl, sym, ◌∙◌}
use native.Mathlib.Omega.{arith}
use Rattle.std.proofs.lemmas.Bool.Decides.{nat_tests}
use Rattle.freelist.specs.Freelist.{initial}
use Rattle.freelist.proofs.ListLaws.{initial_turn, initial_end}
use Rattle.freelist.proofs.list.is_initial.Goals as goal

pub loop-id-init : goal.loop-id-init
unfolding initial
loop-id-init c = refl

pub returns-then-id-low : goal.returns-then-id-low
returns-then-id-low c =
    let l = c.loop-id in
    let e = initial_turn c.args.t.now c.args.n c.args.ids.now l.low l.id-index c.loop-id-test.true in
    grind (arith, nat_tests)

pub loop-id-preserved : goal.loop-id-preserved
loop-id-preserved c =
    let l = c.loop-id in
    let e = initial_turn c.args.t.now c.args.n c.args.ids.now l.low l.id-index c.loop-id-test.true in
    grind (arith, nat_tests)

pub returns : goal.returns
returns c =
    let l = c.loop-id in
    sym (l.invariant ∙ initial_end c.args.t.now c.args.n c.args.ids.now l.low l.id-index c.loop-id-test.false)

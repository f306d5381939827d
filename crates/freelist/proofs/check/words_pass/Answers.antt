use mathlib.Core.Path.{◌∙◌}
use Rattle.freelist.proofs.WordLaws.{words_turn, words_end}
use Rattle.freelist.proofs.check.words_pass.Goals as goal

pub loop-i-preserved : goal.loop-i-preserved
loop-i-preserved c =
    let a = c.args in
    let l = c.loop-i in
    words_turn a.t.now l.i (c.type_inv.t l.i).fits a.m l.bad c.loop-i-test.true ∙ l.invariant

pub returns : goal.returns
returns c =
    let a = c.args in
    let l = c.loop-i in
    words_end a.t.now a.m l.i l.bad c.loop-i-test.false ∙ l.invariant

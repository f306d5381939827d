use Rattle.std.proofs.Common.{sym, ◌∙◌, arith}
use Rattle.answer.proofs.AnswerLaws.{fields_turn, fields_none}
use Rattle.answer.proofs.put_fields.Goals as goal

pub loop-i-preserved : goal.loop-i-preserved
loop-i-preserved c =
    let l = c.loop-i in
    fields_turn l.answer c.args.values.now l.i c.loop-i-test.true (omega arith) c.put_u64.ensures ∙ l.invariant

pub returns : goal.returns
returns c =
    let l = c.loop-i in
    sym (fields_none l.answer c.args.values.now l.i c.loop-i-test.false) ∙ l.invariant

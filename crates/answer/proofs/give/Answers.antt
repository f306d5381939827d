-- `answer::give` meets its contract: a short buffer stays, and a long one has the fields. Assumes nothing.
use Rattle.std.proofs.Common.{◌∙◌, arith}
use Rattle.answer.proofs.AnswerLaws.{short, roomy}
use Rattle.answer.proofs.give.Goals as goal

pub returns-then-answer-values : goal.returns-then-answer-values
returns-then-answer-values c =
    let a = c.args in
    let s = short a.number a.values.now a.answer.now (omega arith) in
    (c.from.ensures ∙ s.0, s.1)

pub returns : goal.returns
returns c =
    let a = c.args in
    let room = c.if-answer-values.false in
    roomy a.number a.values.now a.answer.now _ (omega arith) c.put_fields.ensures

-- `probe::edits::tyvarmos_delete` meets its contract: it tells and leaves the removal's outcome, and 1 where the answer buffer is short. Assumes nothing.
use mathlib.Core.Path.{◌∙◌}
use mathlib.Core.Bool.{true}
use native.Mathlib.Omega.{arith}
use Rattle.page.specs.Layout.{id_of}
use Rattle.node.specs.Edit.{output, delete_of, deleted_answer}
use Rattle.node.specs.Numbers.{deleted_fields}
use Rattle.probe.proofs.ToldLaws.{told_short}
use Rattle.probe.proofs.EditLaws.{deleted_count}
use Rattle.probe.proofs.edits.tyvarmos_delete.Goals as goal

pub returns-then-answer-lt-DELETED_FIELDS : goal.returns-then-answer-lt-DELETED_FIELDS
returns-then-answer-lt-DELETED_FIELDS c =
    let a = c.args in
    let o = delete_of a.p a.block.now a.index a.out.now in
    let r = deleted_answer a.p a.block.now a.index o in
    let s = told_short (deleted_fields r) a.answer.now a.out.now (output true (id_of a.block.now) a.p a.out.now o) 9 (deleted_count r) (omega arith) in
    (c.from.ensures ∙ s.0, s.1, s.2)

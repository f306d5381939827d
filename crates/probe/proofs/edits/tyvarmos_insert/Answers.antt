-- `probe::edits::tyvarmos_insert` meets its contract: it tells and leaves the insertion's outcome at the kind as given, and 1 where the answer buffer is short. Assumes nothing.
use mathlib.Core.Path.{◌∙◌}
use mathlib.Core.Bool.{true}
use native.Mathlib.Omega.{arith}
use Rattle.page.specs.Layout.{id_of}
use Rattle.node.specs.Edit.{insert_of}
use Rattle.probe.proofs.EditLaws.{edit_short, edit_told, insert_kind}
use Rattle.probe.proofs.edits.tyvarmos_insert.Goals as goal

pub returns-then-answer-lt-EDITED_FIELDS : goal.returns-then-answer-lt-EDITED_FIELDS
returns-then-answer-lt-EDITED_FIELDS c =
    let a = c.args in
    let o = insert_of a.p a.block.now a.key.now a.kind a.value.now a.out.now in
    let s = edit_short true (id_of a.block.now) a.p a.out.now o a.answer.now (omega arith) in
    (c.from.ensures ∙ s.0, s.1, s.2)

pub returns : goal.returns
returns c =
    let a = c.args in
    let o = insert_of a.p a.block.now a.key.now a.kind a.value.now a.out.now in
    let room = c.if-answer-lt-EDITED_FIELDS.false in
    edit_told true (id_of a.block.now) a.p a.out.now o a.answer.now _ (omega arith) (insert_kind a.p a.block.now a.key.now a.kind a.value.now a.out.now _ c.kind_byte.ensures c.insert_data-told.ensures) c.tell_edited.ensures

-- `probe::edits::tyvarmos_new_leaf` meets its contract: it tells and leaves the new leaf's outcome, and 1 where the answer buffer is short. Assumes nothing.
use mathlib.Core.Path.{◌∙◌}
use mathlib.Core.Bool.{true}
use native.Mathlib.Omega.{arith}
use Rattle.node.specs.Edit.{new_leaf_of}
use Rattle.probe.proofs.EditLaws.{edit_short}
use Rattle.probe.proofs.edits.tyvarmos_new_leaf.Goals as goal

pub returns-then-answer-lt-EDITED_FIELDS : goal.returns-then-answer-lt-EDITED_FIELDS
returns-then-answer-lt-EDITED_FIELDS c =
    let a = c.args in
    let o = new_leaf_of a.p a.out.now in
    let s = edit_short true a.id a.p a.out.now o a.answer.now (omega arith) in
    (c.from.ensures ∙ s.0, s.1, s.2)

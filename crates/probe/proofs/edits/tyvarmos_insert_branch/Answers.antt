-- `probe::edits::tyvarmos_insert_branch` meets its contract: it tells and leaves the insertion's outcome, and 1 where the answer buffer is short. Assumes nothing.
use mathlib.Core.Path.{◌∙◌}
use mathlib.Core.Bool.{false}
use native.Mathlib.Omega.{arith}
use Rattle.page.specs.Layout.{id_of}
use Rattle.node.specs.Edit.{insert_branch_of}
use Rattle.probe.specs.Probe.{original_of}
use Rattle.probe.proofs.EditLaws.{edit_short}
use Rattle.probe.proofs.edits.tyvarmos_insert_branch.Goals as goal

pub returns-then-answer-lt-EDITED_FIELDS : goal.returns-then-answer-lt-EDITED_FIELDS
returns-then-answer-lt-EDITED_FIELDS c =
    let a = c.args in
    let o = insert_branch_of a.p a.block.now (original_of a.has a.original.now) a.key.now a.child a.out.now in
    let s = edit_short false (id_of a.block.now) a.p a.out.now o a.answer.now (omega arith) in
    (c.from.ensures ∙ s.0, s.1, s.2)

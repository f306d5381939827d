-- `probe::splits::tyvarmos_split` meets its contract: it tells and leaves the split's answer and cuts, and 1 where the answer buffer is short. Assumes nothing.
use mathlib.Core.Path.{◌∙◌}
use native.Mathlib.Omega.{arith}
use lib.ListN.{length}
use Rattle.cuts.specs.Parted.{split_of, block_cuts, list_left}
use Rattle.cuts.specs.Numbers.{parted_fields}
use Rattle.probe.proofs.ToldLaws.{told_short, told_roomy}
use Rattle.probe.proofs.SplitLaws.{parted_count}
use Rattle.probe.proofs.splits.tyvarmos_split.Goals as goal

pub returns-then-answer-lt-PARTED_FIELDS : goal.returns-then-answer-lt-PARTED_FIELDS
returns-then-answer-lt-PARTED_FIELDS c =
    let a = c.args in
    let r = split_of a.p a.block.now (length a.cuts.now) in
    let s = told_short (parted_fields r) a.answer.now a.cuts.now (list_left r (block_cuts a.p a.block.now) a.cuts.now) 4 (parted_count r) (omega arith) in
    (c.from.ensures ∙ s.0, s.1, s.2)

pub returns : goal.returns
returns c =
    let a = c.args in
    let r = split_of a.p a.block.now (length a.cuts.now) in
    let room = c.if-answer-lt-PARTED_FIELDS.false in
    told_roomy parted_fields _ r a.answer.now a.cuts.now (list_left r (block_cuts a.p a.block.now) a.cuts.now) 4 (omega arith)
    c.split-told.ensures.0 (rw c.split-told.ensures.0 at c.split-told.ensures.1) c.tell_parted.ensures

-- `probe::splits::tyvarmos_split_write` meets its contract: it tells and leaves the written pieces' answer and bytes, and 1 where the answer buffer is short. Assumes nothing.
use mathlib.Core.Path.{◌∙◌}
use native.Mathlib.Omega.{arith}
use lib.ListN.{length}
use Rattle.page.specs.Layout.{is_leaf}
use Rattle.split.specs.Write.{pack_all, block_pieces, split_write_of, out_left}
use Rattle.split.specs.Numbers.{written_fields}
use Rattle.probe.proofs.ToldLaws.{told_short, told_roomy}
use Rattle.probe.proofs.SplitLaws.{written_count}
use Rattle.probe.proofs.splits.tyvarmos_split_write.Goals as goal

pub returns-then-answer-lt-WRITTEN_FIELDS : goal.returns-then-answer-lt-WRITTEN_FIELDS
returns-then-answer-lt-WRITTEN_FIELDS c =
    let a = c.args in
    let r = split_write_of a.p a.n a.block.now a.pages.now (length a.out.now) in
    let made = pack_all (is_leaf a.block.now) a.p a.pages.now (block_pieces a.p a.block.now) in
    let s = told_short (written_fields r) a.answer.now a.out.now (out_left r made a.out.now) 5 (written_count r) (omega arith) in
    (c.from.ensures ∙ s.0, s.1, s.2)

pub returns : goal.returns
returns c =
    let a = c.args in
    let r = split_write_of a.p a.n a.block.now a.pages.now (length a.out.now) in
    let made = pack_all (is_leaf a.block.now) a.p a.pages.now (block_pieces a.p a.block.now) in
    let room = c.if-answer-lt-WRITTEN_FIELDS.false in
    told_roomy written_fields _ r a.answer.now a.out.now (out_left r made a.out.now) 5 (omega arith)
    c.split_write-told.ensures.0 (rw c.split_write-told.ensures.0 at c.split_write-told.ensures.1) c.tell_written.ensures

-- `probe::metas::tyvarmos_meta_write` meets its contract: with no room in the answer buffer all stays. Assumes nothing.
use Rattle.std.proofs.Common.{◌≡◌, ℕ, length, Result, Ok, Err, refl, ◌∙◌, arith}
use Rattle.field.specs.declared.refusal.Refusal.{Refusal}
use Rattle.meta.specs.Meta.{meta_of, write_of, page_left, meta_written_fields}
use Rattle.probe.proofs.ToldLaws.{told_short}
use Rattle.probe.proofs.metas.tyvarmos_meta_write.Goals as goal

-- the number and one field
one_field : (written : Result ℕ Refusal) → length (meta_written_fields written) ≡ 2
one_field (Ok hash) = refl
one_field (Err refusal) = refl

pub returns-then-answer-lt1 : goal.returns-then-answer-lt1
returns-then-answer-lt1 c =
    let a = c.args in
    let m = meta_of a.meta_page a.magic a.version a.pagesize a.root_page a.next_int a.num_pages a.freelist_page a.tx_id in
    let written = write_of a.page.now m in
    let s = told_short (meta_written_fields written) a.answer.now a.page.now (page_left a.page.now m) 1 (one_field written) (omega arith) in
    (c.from.ensures ∙ s.0, s.1, s.2)

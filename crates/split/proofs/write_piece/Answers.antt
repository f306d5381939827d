-- `write::write_piece` meets its contract: what `cut` leaves in the part that it was lent, by `lent_run`. Assumes nothing.
use mathlib.Core.Path.{sym, ap, ◌∙◌}
use mathlib.Core.List.{List}
use borrow.Author.Rules.{rules}
use native.Mathlib.Omega.{arith}
use lib.ListN.{length}
use borrow.Rule.Slice.PartMut.{mid_len}
use Rattle.field.specs.Run.{put_at}
use Rattle.page.specs.Layout.{Entry, entries_of}
use Rattle.pack.specs.Pack.{block_size, pack}
use Rattle.pack.specs.Plan.{cut_of}
use Rattle.pack.proofs.RangeLaws.{range_part}
use Rattle.pack.proofs.PackLaws.{length_pack}
use Rattle.split.proofs.PartLaws.{lent_run}
use Rattle.split.proofs.write_piece.Goals as goal

pub cut-size-requires : goal.cut-size-requires
cut-size-requires c =
    let a = c.args in
    let r = c.requires.c_le_e in
    let e = range_part a.leaf a.b.now a.c a.e r.0 r.1 in
    let n = ap (λ (es : List Entry). block_size a.leaf es a.p) e in
    let l = mid_len a.at (length a.out.now) a.out.now (omega arith) in
    record { sound_block = c.requires.sound_block; i_le_j = (r.0, r.1, r.2, r.3, omega arith) }

pub overflow_add-result : goal.overflow_add-result
overflow_add-result c =
    let a = c.args in
    let e = range_part a.leaf a.b.now a.c a.e c.requires.c_le_e.0 c.requires.c_le_e.1 in
    let n = ap (λ (es : List Entry). block_size a.leaf es a.p) e in
    let r = c.cut-size.ensures.0 in
    search rules

pub returns : goal.returns
returns c =
    let a = c.args in
    let es = cut_of a.c a.e (entries_of a.leaf a.b.now) in
    let e = range_part a.leaf a.b.now a.c a.e c.requires.c_le_e.0 c.requires.c_le_e.1 in
    let n = ap (λ (es : List Entry). block_size a.leaf es a.p) e in
    let r = c.cut-size.ensures.0 in
    let l = length_pack a.leaf a.id es a.p c.requires.c_le_e.2 in
    let o = lent_run a.at a.out.now (pack a.leaf a.id es a.p) c.cut-size.new.out c.cut-size.result c.cut-size.ensures.1 (omega arith) (omega arith) in
    (omega arith, o ∙ ap (λ (x : List Entry). put_at a.out.now a.at (pack a.leaf a.id x a.p)) (sym e))

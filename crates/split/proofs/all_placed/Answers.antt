use mathlib.Core.Path.{◌≡◌, sym, ap, ◌∙◌}
use Prim.Native.Nat.{ℕ}
use native.Mathlib.Nat.{sub-zero}
use native.Mathlib.Omega.{arith}
use lib.ListN.{length, get_or}
use Rattle.field.specs.Marks.{with_marks, lowest_marked}
use Rattle.field.proofs.MarkLaws.{length_none, length_withs}
use Rattle.cuts.specs.Run.{pieces_after}
use Rattle.split.proofs.PlacedLaws.{placed_start, placed_out, placed_hit, placed_on, placed_done}
use Rattle.split.proofs.all_placed.Goals as goal

pub loop-page-init : goal.loop-page-init
loop-page-init c =
    let a = c.args in (
      omega arith,
      ap length c.no_marks-marks.ensures ∙ length_none,
      rw (c.no_marks-marks.ensures, sub-zero) (placed_start a.leaf a.p (omega arith) a.n (omega arith) a.pages.now
          (pieces_after a.leaf a.t a.b.now a.end (length a.pages.now) 0)),
    )

pub returns-then-not-inside : goal.returns-then-not-inside
returns-then-not-inside c =
    let a = c.args in
    let l = c.loop-page in
    let h = placed_out a.leaf a.t a.b.now a.end a.p a.pages.now l.page-index l.c c.piece_end-e.result c.span-k.result
    (omega arith) c.piece_end-e.ensures.0 c.span-k.ensures a.n l.marks (sym c.inside.ensures ∙ c.if-not-inside.true) in
    sym h ∙ l.invariant.2

pub returns-then-lowest_marked-q : goal.returns-then-lowest_marked-q
returns-then-lowest_marked-q c =
    let a = c.args in
    let l = c.loop-page in
    let q : ℕ = get_or a.pages.now l.page-index 0 in
    let found : c.lowest_marked.result ≡ lowest_marked l.marks q c.span-k.result = c.lowest_marked.ensures ∙ ap (lowest_marked l.marks q) (omega arith) in
    let h = placed_hit a.leaf a.t a.b.now a.end a.p a.pages.now l.page-index l.c c.piece_end-e.result c.span-k.result
    (omega arith) c.piece_end-e.ensures.0 c.span-k.ensures a.n l.marks (sym c.inside.ensures ∙ c.if-not-inside.false) (omega arith) in
    sym h ∙ l.invariant.2

pub loop-page-preserved : goal.loop-page-preserved
loop-page-preserved c =
    let a = c.args in
    let l = c.loop-page in
    let q : ℕ = get_or a.pages.now l.page-index 0 in
    let found : c.lowest_marked.result ≡ lowest_marked l.marks q c.span-k.result = c.lowest_marked.ensures ∙ ap (lowest_marked l.marks q) (omega arith) in
    let made : c.mark_pages.new.marks ≡ with_marks l.marks q c.span-k.result = c.mark_pages.ensures ∙ ap (with_marks l.marks q) (omega arith) in
    let h = placed_on a.leaf a.t a.b.now a.end a.p a.pages.now l.page-index l.c c.piece_end-e.result c.span-k.result
    (omega arith) c.piece_end-e.ensures.0 c.span-k.ensures a.n l.marks (sym c.inside.ensures ∙ c.if-not-inside.false) (omega arith) in
    (c.piece_end-e.ensures.2, ap length made ∙ length_withs l.marks q c.span-k.result ∙ l.invariant.1, rw made (sym h ∙ l.invariant.2))

pub returns : goal.returns
returns c =
    let l = c.loop-page in
    sym (placed_done c.args.pages.now l.page-index c.args.n l.marks _ (omega arith)) ∙ l.invariant.2

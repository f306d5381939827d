use mathlib.Core.Path.{refl, sym, ap, ◌∙◌}
use Prim.Native.Nat.{ℕ, ◌-◌, ◌/◌}
use native.Mathlib.Omega.{arith}
use lib.ListN.{set, length-set}
use Rattle.field.specs.Marks.{with_marks}
use Rattle.field.proofs.PartLaws.{marks_turn, marks_done}
use Rattle.field.proofs.marks.mark_pages.Goals as goal

pub loop-at-init : goal.loop-at-init
loop-at-init c = (omega arith, omega arith, omega arith, refl)

pub loop-at-preserved : goal.loop-at-preserved
loop-at-preserved c =
    let a = c.args in
    let l = c.loop-at in
    let end = c.word_end-end.result in (
      simp length-set l.invariant.0,
      omega arith,
      omega arith,
      ap (λ (w : ℕ). with_marks (set l.marks (l.at / 64) w) end (a.to - end)) c.with_marks_in.ensures
          ∙ marks_turn l.marks l.at a.to end (omega arith) (omega arith) (omega arith) (omega arith) ∙ l.invariant.3,
    )

pub returns : goal.returns
returns c =
    let l = c.loop-at in
    sym (marks_done l.marks l.at c.args.to (omega arith)) ∙ l.invariant.3

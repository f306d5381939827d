use mathlib.Core.Path.{◌≡◌, refl, sym, ◌∙◌}
use Prim.Native.Nat.{◌-◌}
use native.Mathlib.Omega.{arith}
use Rattle.field.proofs.MarkLaws.{lowest_turn, lowest_done}
use Rattle.field.proofs.PartLaws.{part_clear}
use Rattle.field.proofs.marks.lowest_marked.Goals as goal

pub loop-at-init : goal.loop-at-init
loop-at-init c = (omega arith, omega arith, refl)

pub returns-then-not-clear_in : goal.returns-then-not-clear_in
returns-then-not-clear_in c = c.lowest_from.ensures ∙ c.loop-at.invariant.2

pub loop-at-preserved : goal.loop-at-preserved
loop-at-preserved c =
    let a = c.args in
    let l = c.loop-at in
    let end = c.word_end-end.result in
    let clear = sym c.clear_in.ensures ∙ c.if-not-clear_in.false in (
      omega arith,
      omega arith,
      lowest_turn a.marks.now l.at a.to end (omega arith) (omega arith) (part_clear a.marks.now l.at (end - l.at) (omega arith) clear) ∙ l.invariant.2,
    )

pub returns : goal.returns
returns c =
    let a = c.args in
    let l = c.loop-at in
    let e : a.to ≡ l.at = omega arith in
    e ∙ sym (lowest_done a.marks.now l.at a.to (omega arith)) ∙ l.invariant.2

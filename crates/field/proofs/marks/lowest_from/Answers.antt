use mathlib.Core.Path.{◌≡◌, refl, sym, ◌∙◌}
use Prim.Native.Nat.{◌/◌}
use native.Mathlib.Omega.{arith}
use Rattle.field.proofs.MarkLaws.{word_told, lowest_here, lowest_next, lowest_done}
use Rattle.field.proofs.marks.lowest_from.Goals as goal

pub loop-at-init : goal.loop-at-init
loop-at-init c = refl

pub returns-then-is_marked : goal.returns-then-is_marked
returns-then-is_marked c =
    let a = c.args in
    let l = c.loop-at in
    let told = c.is_marked.ensures in
    lowest_here a.marks.now l.at a.to (omega arith) (sym (word_told a.marks.now l.at (l.at / 64) refl) ∙ sym told ∙ c.if-is_marked.true) ∙ l.invariant

pub loop-at-preserved : goal.loop-at-preserved
loop-at-preserved c =
    let a = c.args in
    let l = c.loop-at in
    let told = c.is_marked.ensures in
    lowest_next a.marks.now l.at a.to (omega arith) (sym (word_told a.marks.now l.at (l.at / 64) refl) ∙ sym told ∙ c.if-is_marked.false) ∙ l.invariant

pub returns : goal.returns
returns c =
    let a = c.args in
    let l = c.loop-at in
    let e : a.to ≡ l.at = omega arith in
    e ∙ sym (lowest_done a.marks.now l.at a.to (omega arith)) ∙ l.invariant

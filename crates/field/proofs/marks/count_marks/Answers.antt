use mathlib.Core.Path.{◌≡◌, ap, ◌∙◌}
use Prim.Native.Nat.{ℕ, ◌*◌}
use native.Mathlib.Omega.{arith}
use borrow.Author.Rules.{rules}
use lib.Count.{ones-le}
use Rattle.field.specs.Marks.{count_below, count}
use Rattle.field.proofs.MarkLaws.{count_word, count-le}
use Rattle.field.proofs.marks.count_marks.Goals as goal

pub loop-word-init : goal.loop-word-init
unfolding count_below
loop-word-init c = search rules

pub overflow_add-n : goal.overflow_add-n
overflow_add-n c =
    let i = c.loop-word.word-index in
    let word = c.loop-word-test.element_fits in
    omega (arith, ones-le 64 _ word.fits, count-le c.args.marks (64 * i), c.loop-word.invariant, c.from-n.ensures)

pub loop-word-preserved : goal.loop-word-preserved
loop-word-preserved c =
    omega (arith, count_word c.args.marks c.loop-word.word-index c.loop-word-test.element_fits.fits, c.loop-word.invariant, c.from-n.ensures)

pub returns : goal.returns
unfolding count
returns c =
    let e : c.loop-word.word-index ≡ 512 = omega arith in
    c.loop-word.invariant ∙ ap (λ (x : ℕ). count_below c.args.marks (64 * x)) e

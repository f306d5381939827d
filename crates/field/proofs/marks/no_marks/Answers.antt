-- `field::marks::no_marks` meets its contract. Assumes nothing.
use mathlib.Core.Path.{refl}
use Rattle.field.specs.Marks.{no_marks}
use Rattle.field.proofs.marks.no_marks.Goals as goal

pub returns : goal.returns
unfolding no_marks
returns c = refl

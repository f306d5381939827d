-- `field::marks::with_marks_in` meets its contract: as many ones as there are pages, shifted to the first page's digit. Assumes nothing.
use mathlib.Core.Path.{ap}
use Prim.Native.Nat.{◌%◌}
use native.Mathlib.Omega.{arith}
use lib.Bits.{bit_or}
use Rattle.field.proofs.PartLaws.{ones_at}
use Rattle.field.proofs.marks.with_marks_in.Goals as goal

pub returns : goal.returns
returns c = let a = c.args in ap (bit_or a.word) (ones_at (a.page % 64) a.k (omega arith))

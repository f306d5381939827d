-- `field::marks::clear_in` meets its contract: the pages' digits, shifted to the top of the word. Assumes nothing.
use Prim.Native.Nat.{◌/◌, ◌%◌, ◌^◌}
use native.Mathlib.Omega.{arith}
use Rattle.field.proofs.PartLaws.{top_test}
use Rattle.field.proofs.marks.clear_in.Goals as goal

pub returns : goal.returns
returns c = let a = c.args in top_test (a.word / 2 ^ (a.page % 64)) a.k (omega arith)

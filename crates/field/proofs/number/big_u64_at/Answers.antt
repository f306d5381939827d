-- `field::number::big_u64_at` meets its contract: std's sum is the field of the part read. Assumes nothing.
use native.Mathlib.Omega.{arith}
use Prim.Native.Nat.{◌+◌, ◌-◌}
use Rattle.field.specs.Field.{big_field}
use Rattle.field.proofs.FieldLaws.{big_part}
use Rattle.field.proofs.number.big_u64_at.Goals as goal

pub returns : goal.returns
unfolding big_field
returns c =
    let at = c.args.at in
    omega (arith, c.from_be_bytes.ensures, big_part 8 c.args.s.now at (at + 8 - at) (omega arith))

-- `field::number::u32_at` meets its contract: std's sum is the field of the part read. Assumes nothing.
use native.Mathlib.Omega.{arith}
use Prim.Native.Nat.{◌+◌, ◌-◌}
use Rattle.field.specs.Field.{field}
use Rattle.field.proofs.FieldLaws.{field_part}
use Rattle.field.proofs.number.u32_at.Goals as goal

pub returns : goal.returns
unfolding field
returns c =
    let at = c.args.at in
    omega (arith, c.from_le_bytes.ensures, field_part 4 c.args.s.now at (at + 4 - at) (omega arith))

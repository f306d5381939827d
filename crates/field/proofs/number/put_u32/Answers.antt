-- `field::number::put_u32` meets its contract: the part that it overwrites is the number's bytes put. Assumes nothing.
use native.Mathlib.Omega.{arith}
use mathlib.Core.Path.{ap, ◌∙◌}
use Rattle.field.specs.Run.{put_at}
use Rattle.field.proofs.FieldLaws.{le_bytes, length_bytes}
use Rattle.field.proofs.RunLaws.{mid_put}
use Rattle.field.proofs.number.put_u32.Goals as goal

pub returns : goal.returns
returns c =
    let a = c.args in
    let bytes = c.copy_from_slice.ensures.after ∙ c.to_le_bytes.ensures ∙ le_bytes 4 a.v in
    mid_put a.out.now _ a.at _ (rw (bytes, length_bytes 4 a.v) (omega arith)) ∙ ap (put_at a.out.now a.at) bytes

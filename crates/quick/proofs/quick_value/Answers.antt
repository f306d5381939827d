-- `quick::quick_value` meets its contract: what is found lies within the image. Assumes nothing.
use mathlib.Core.Path.{sym, ap, ◌∙◌}
use Prim.Native.Nat.{◌+◌, ◌≤◌}
use native.Mathlib.Omega.{arith}
use lib.ListN.{length}
use Rattle.std.specs.Prelude.{Ok}
use Rattle.quick.proofs.FoundWithin.{quick_within}
use Rattle.quick.proofs.quick_value.Goals as goal
use Rattle.quick.proofs.quick_value.Goals.{In-Ok-Some}

room : (c : In-Ok-Some)
    → let v = c.in-Ok-Some.value in v.place + v.length ≤ length c.args.image.now
room c =
    let a = c.args in
    quick_within a.image.now a.p a.n a.root a.key.now _ (sym c.quick.ensures ∙ c.in-Ok-Some.is ∙ ap Ok c.in-Ok-Some.field-0-is)

pub overflow_add-result : goal.overflow_add-result
overflow_add-result c = omega (arith, room (goal.at.overflow_add-result c).In-Ok-Some)

pub slice_bounds-result-end : goal.slice_bounds-result-end
slice_bounds-result-end c = omega (arith, room (goal.at.slice_bounds-result-end c).In-Ok-Some)

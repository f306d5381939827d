-- Refusals: what it says that a test or a check refuses nothing.
-- Assumes nothing.
use mathlib.Core.Path.{◌≡◌, refl}
use mathlib.Core.Bool.{Bool, true, false}
use Rattle.std.specs.Prelude.{Ok, Err}
use Rattle.std.specs.declared.result.Result.{Result}
use Rattle.field.specs.declared.refusal.Refusal.{Refusal}
use Rattle.freelist.specs.Answers.{◌or_else◌, ◌and_then◌}

pub held : (b : Bool) (r : Refusal) → (b or_else r) ≡ Ok tt → b ≡ true
held true r e = refl
held false r e = absurd (cc)

pub both_pass : (c d : Result Unit Refusal) → (c and_then d) ≡ Ok tt → (c ≡ Ok tt) × (d ≡ Ok tt)
both_pass (Ok u) d e = (refl, e)
both_pass (Err r) d e = absurd (cc)

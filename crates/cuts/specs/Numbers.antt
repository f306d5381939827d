-- 01, "Numbers given back", and 02, order 2: the number and the values of the answer on a lent single block, whose faults name page 0.
-- Assumes nothing.
use Rattle.std.specs.Prelude.{List, [], ◌∷◌, ℕ, Ok, Err}
use Rattle.std.specs.declared.result.Result.{Result}
use Rattle.field.specs.Refusal.{number_of}
use Rattle.page.specs.declared.breach.Breach.{Breach}

-- `split`: number, cuts made, page, element, common
abbrev pub parted_fields : Result ℕ Breach → List ℕ
parted_fields (Ok made) = 0 ∷ made ∷ 0 ∷ 0 ∷ 0 ∷ []
parted_fields (Err b) = number_of b.refusal ∷ 0 ∷ 0 ∷ b.element ∷ b.common ∷ []

-- 01, "Numbers given back", and 02, order 2: the number and the values of each answer on a lent single block, whose faults name page 0.
-- Assumes nothing.
use Rattle.std.specs.Prelude.{List, [], ◌∷◌, ℕ, Ok, Err}
use Rattle.std.specs.declared.result.Result.{Result}
use Rattle.field.specs.Refusal.{number_of}
use Rattle.page.specs.declared.breach.Breach.{Breach}
use Rattle.split.specs.declared.Written.{Written}

-- `split_write`: number, bytes written, pieces, page, element, common
abbrev pub written_fields : Result Written Breach → List ℕ
written_fields (Ok w) = 0 ∷ w.bytes ∷ w.pieces ∷ 0 ∷ 0 ∷ 0 ∷ []
written_fields (Err b) = number_of b.refusal ∷ 0 ∷ 0 ∷ 0 ∷ b.element ∷ b.common ∷ []

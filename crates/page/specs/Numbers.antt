-- 01, "Numbers given back", and 02, order 2: the number and the values of each answer on a lent single block, whose faults name page 0.
-- Assumes nothing.
use Rattle.std.specs.Prelude.{List, [], ◌∷◌, ℕ, ◌-◌, Some, None, Ok, Err}
use Rattle.std.specs.declared.option.Option.{Option}
use Rattle.std.specs.declared.result.Result.{Result}
use Rattle.field.specs.Field.{flag_of}
use Rattle.field.specs.Refusal.{number_of}
use Rattle.page.specs.declared.breach.Breach.{Breach}
use Rattle.page.specs.declared.search.Place.{Place}
use Rattle.page.specs.declared.search.Leaf.{Leaf}

-- `index`: number, index, found, page, element, common
abbrev pub indexed_fields : Result Place Breach → List ℕ
indexed_fields (Ok p) = 0 ∷ p.at ∷ flag_of p.found ∷ 0 ∷ 0 ∷ 0 ∷ []
indexed_fields (Err b) = number_of b.refusal ∷ 0 ∷ 0 ∷ 0 ∷ b.element ∷ b.common ∷ []

-- `index_page`: number, page number, page, element, common
abbrev pub child_fields : Result ℕ Breach → List ℕ
child_fields (Ok q) = 0 ∷ q ∷ 0 ∷ 0 ∷ 0 ∷ []
child_fields (Err b) = number_of b.refusal ∷ 0 ∷ 0 ∷ b.element ∷ b.common ∷ []

-- `entry`: number, held, kind, key place, key length, value place, value length, page, element, common
abbrev pub held_fields : Result (Option Leaf) Breach → List ℕ
held_fields (Ok (Some e)) = 0 ∷ 1 ∷ e.kind ∷ e.key ∷ (e.value - e.key) ∷ e.value ∷ (e.end - e.value) ∷ 0 ∷ 0 ∷ 0 ∷ []
held_fields (Ok None) = 0 ∷ 0 ∷ 0 ∷ 0 ∷ 0 ∷ 0 ∷ 0 ∷ 0 ∷ 0 ∷ 0 ∷ []
held_fields (Err b) = number_of b.refusal ∷ 0 ∷ 0 ∷ 0 ∷ 0 ∷ 0 ∷ 0 ∷ 0 ∷ b.element ∷ b.common ∷ []

-- 01, "Numbers given back", and 02, order 2: the number and the values of each answer on a lent single block, whose faults name page 0.
-- Assumes nothing.
use Rattle.std.specs.Prelude.{Bool, List, [], ◌∷◌, ℕ, ◌-◌, Ok, Err}
use Rattle.std.specs.declared.result.Result.{Result}
use Rattle.field.specs.Field.{flag_of}
use Rattle.field.specs.Refusal.{number_of}
use Rattle.page.specs.declared.breach.Breach.{Breach}
use Rattle.node.specs.declared.edit.Removed.{Removed}
use Rattle.node.specs.declared.measure.Measure.{Measure}

-- an edit: number, bytes written, page, element, common
abbrev pub edited_fields : Result ℕ Breach → List ℕ
edited_fields (Ok bytes) = 0 ∷ bytes ∷ 0 ∷ 0 ∷ 0 ∷ []
edited_fields (Err b) = number_of b.refusal ∷ 0 ∷ 0 ∷ b.element ∷ b.common ∷ []

-- `delete`: number, bytes written, kind, key place, key length, value place, value length, page, element, common
abbrev pub deleted_fields : Result Removed Breach → List ℕ
deleted_fields (Ok r) =
    0 ∷ r.bytes ∷ r.leaf.kind ∷ r.leaf.key ∷ (r.leaf.value - r.leaf.key) ∷ r.leaf.value ∷ (r.leaf.end - r.leaf.value) ∷ 0 ∷ 0 ∷ 0 ∷ []
deleted_fields (Err b) = number_of b.refusal ∷ 0 ∷ 0 ∷ 0 ∷ 0 ∷ 0 ∷ 0 ∷ 0 ∷ b.element ∷ b.common ∷ []

-- `size` and `needs_merging` of one block: number, size, pages needed, merging wanted, page, element, common
abbrev pub unsized_fields : Breach → List ℕ
unsized_fields b = number_of b.refusal ∷ 0 ∷ 0 ∷ 0 ∷ 0 ∷ b.element ∷ b.common ∷ []

abbrev pub sized_fields : Result Measure Breach → Result Bool Breach → List ℕ
sized_fields (Err b) merging = unsized_fields b
sized_fields (Ok size) (Err b) = unsized_fields b
sized_fields (Ok size) (Ok wanted) = 0 ∷ size.bytes ∷ size.pages ∷ flag_of wanted ∷ 0 ∷ 0 ∷ 0 ∷ []

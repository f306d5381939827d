-- 01, "Taken and left", and 02, order 2: the number and the fields of lookup's and the judge's answers, as their C functions give them.
-- Assumes nothing.
use Rattle.std.specs.Prelude.{List, [], ◌∷◌, ℕ, Some, None, Ok, Err}
use Rattle.field.specs.Refusal.{number_of}
use Rattle.lookup.specs.Descent.{Looked}
use Rattle.judge.specs.Judge.{Judged}

-- the number; found, kind, place, length, page, element, common
abbrev pub looked_fields : Looked → List ℕ
looked_fields (Ok (Some v)) = 0 ∷ 1 ∷ v.kind ∷ v.place ∷ v.length ∷ 0 ∷ 0 ∷ 0 ∷ []
looked_fields (Ok None) = 0 ∷ 0 ∷ 0 ∷ 0 ∷ 0 ∷ 0 ∷ 0 ∷ 0 ∷ []
looked_fields (Err f) = number_of f.refusal ∷ 0 ∷ 0 ∷ 0 ∷ 0 ∷ f.page ∷ f.element ∷ f.common ∷ []

-- the number; entries, pages, page, element, common
abbrev pub judged_fields : Judged → List ℕ
judged_fields (Ok c) = 0 ∷ c.entries ∷ c.pages ∷ 0 ∷ 0 ∷ 0 ∷ []
judged_fields (Err f) = number_of f.refusal ∷ 0 ∷ 0 ∷ f.page ∷ f.element ∷ f.common ∷ []

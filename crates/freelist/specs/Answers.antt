-- What the calls answer: the first refusal of what they ask for, and 01's number and values for each.
-- Assumes nothing.
use Rattle.std.specs.Prelude.{List, [], ◌∷◌, Bool, true, false, ℕ, Ok, Err}
use Rattle.std.specs.declared.result.Result.{Result}
use Rattle.field.specs.declared.refusal.Refusal.{Refusal}
use Rattle.field.specs.Refusal.{number_of}
use Rattle.freelist.specs.declared.Allocated.{Allocated}

-- ---- refusals

infix 25 ◌or_else◌
infixr 20 ◌and_then◌
-- no refusal where the test holds, and else this one
abbrev pub ◌or_else◌ : Bool → Refusal → Result Unit Refusal
true or_else r = Ok tt
false or_else r = Err r

-- the first refusal, and where there is none what comes second
abbrev pub ◌and_then◌ : {A : Type 0} → Result Unit Refusal → Result A Refusal → Result A Refusal
Ok u and_then d = d
Err r and_then d = Err r

-- ---- `allocate`

-- the number, the first page handed out and the count of pages from then on
abbrev pub allocated_fields : Result Allocated Refusal → List ℕ
allocated_fields (Ok a) = 0 ∷ a.start ∷ a.count ∷ []
allocated_fields (Err r) = number_of r ∷ 0 ∷ 0 ∷ []

-- ---- `pages`

-- the number, and how many ids were written
abbrev pub listed_fields : Result ℕ Refusal → List ℕ
listed_fields (Ok k) = 0 ∷ k ∷ []
listed_fields (Err r) = number_of r ∷ 0 ∷ []

-- ---- `size`

-- the number, and the size in bytes: told as a count of ids is
abbrev pub measured_fields : Result ℕ Refusal → List ℕ
measured_fields = listed_fields

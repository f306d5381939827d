-- 01, "Taken and left": what a C function returns, and what it leaves in the lent answer buffer, refused or not.
-- Assumes nothing.
use Rattle.std.specs.Prelude.{Bool, cond, List, [], ◌∷◌, ◌++◌, ℕ, ◌*◌, ltb, length, drop}
use Rattle.field.specs.Field.{bytes_of}
use Rattle.field.specs.Refusal.{number_of}
use Rattle.field.specs.declared.refusal.Refusal.TheVariants.{Geometry}

-- u64 fields, one after the other
unfoldable pub fields : List ℕ → List ℕ
fields [] = []
fields (x ∷ xs) = bytes_of 8 x ++ fields xs

-- the buffer has fewer bytes than so many fields take
abbrev pub too_short : ℕ → List ℕ → Bool
too_short count answer = ltb (length answer) (8 * count)

-- that is 1, and else the call's own number
unfoldable pub number_with : ℕ → ℕ → List ℕ → ℕ
number_with count number answer = cond (too_short count answer) (number_of Geometry) number

-- such a buffer stays; in another the fields stand from byte 0 on, and bytes past them stay
unfoldable pub answer_with : List ℕ → List ℕ → List ℕ
answer_with values answer = cond (too_short (length values) answer) answer (fields values ++ drop (8 * length values) answer)

-- ---- the same of an answer's number and fields in one list
abbrev pub told_number : List ℕ → List ℕ → ℕ
told_number [] answer = 0
told_number (number ∷ values) answer = number_with (length values) number answer

abbrev pub told_answer : List ℕ → List ℕ → List ℕ
told_answer [] answer = answer
told_answer (number ∷ values) answer = answer_with values answer

-- what else is lent stays where the buffer has no room for so many fields, and is what the call leaves where it has
abbrev pub lent_with : ℕ → List ℕ → List ℕ → List ℕ → List ℕ
lent_with count answer stays left = cond (too_short count answer) stays left

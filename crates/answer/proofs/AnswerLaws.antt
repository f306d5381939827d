-- Fields put one after the other, and what the answer buffer then holds.
-- Assumes nothing.
use mathlib.Core.Path.{◌≡◌, refl, ap, ◌∙◌}
use mathlib.Core.List.{List, [], ◌∷◌, ◌++◌}
use Prim.Native.Nat.{ℕ, ◌+◌, ◌*◌, ◌≤◌, ◌<◌}
use native.Mathlib.Numerals.{add-one}
use native.Mathlib.Omega.{arith}
use borrow.Author.Tests.{lt-ltb, le-ltb}
use lib.ListN.{length, drop, get_or, length-append, drop_of_length-le}
use lib.Seq.{drop-cons}
use Rattle.field.specs.Field.{bytes_of}
use Rattle.field.specs.Run.{put_at}
use Rattle.field.proofs.FieldLaws.{length_bytes}
use Rattle.field.proofs.RunLaws.{put_put, put_nil, put_start}
use Rattle.answer.specs.Answer.{fields, number_with, answer_with}

pub length_fields : (xs : List ℕ) → length (fields xs) ≡ 8 * length xs
unfolding fields
length_fields [] = refl
length_fields (x ∷ xs) = let ih = length_fields xs in let b = length_bytes 8 x in omega (arith, length-append (bytes_of 8 x) (fields xs))

-- a turn of the loop that puts fields: the first of those that are left, then the others
pub fields_turn : {o₁ : List ℕ} (o xs : List ℕ) (i : ℕ) → i < length xs → 8 * (i + 1) ≤ length o → o₁ ≡ put_at o (8 * i) (bytes_of 8 (get_or xs i 0))
    → put_at o₁ (8 * (i + 1)) (fields (drop (i + 1) xs)) ≡ put_at o (8 * i) (fields (drop i xs))
unfolding fields
fields_turn o xs i l r e =
    let x = get_or xs i 0 in
    let b = length_bytes 8 x in
    let n : drop i xs ≡ x ∷ drop (i + 1) xs = rw (add-one i) (drop-cons xs i 0 l) in
    rw (e, n) (put_put o (8 * i) (8 * (i + 1)) (bytes_of 8 x) (fields (drop (i + 1) xs)) (omega arith) (omega arith))

-- the loop's end: none are left
pub fields_none : (o xs : List ℕ) (i : ℕ) → length xs ≤ i → put_at o (8 * i) (fields (drop i xs)) ≡ o
unfolding fields
fields_none o xs i l = rw (drop_of_length-le xs l) (put_nil o (8 * i))

-- ---- a short buffer stays, and a long one has the fields
module _ (number : ℕ) (values answer : List ℕ) where
  pub short : length answer < 8 * length values → (1 ≡ number_with (length values) number answer) × (answer ≡ answer_with values answer)
  unfolding number_with answer_with
  short l = (rw (lt-ltb (length answer) (8 * length values) l), rw (lt-ltb (length answer) (8 * length values) l))

  pub roomy : (left : List ℕ) → 8 * length values ≤ length answer → left ≡ put_at answer 0 (fields values)
      → (number ≡ number_with (length values) number answer) × (left ≡ answer_with values answer)
  unfolding number_with answer_with
  roomy left l p =
      let s = put_start answer (fields values) in
      (rw (le-ltb (length answer) (8 * length values) l), rw (le-ltb (length answer) (8 * length values) l) (p ∙ s ∙ ap (λ (k : ℕ). fields values ++ drop k answer) (length_fields values)))

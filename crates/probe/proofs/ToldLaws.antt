-- What a call tells and leaves with a short answer buffer, and with one that has room for its fields.
-- Assumes nothing.
use mathlib.Core.Path.{◌≡◌}
use mathlib.Core.List.{List, [], ◌∷◌}
use Prim.Native.Nat.{ℕ, ◌+◌, ◌*◌, ◌≤◌, ◌<◌}
use native.Mathlib.Omega.{arith}
use borrow.Author.Tests.{lt-ltb, le-ltb}
use lib.ListN.{length}
use Rattle.answer.specs.Answer.{told_number, told_answer, lent_with}
use Rattle.answer.proofs.AnswerLaws.{short}

-- a short buffer stays, and so does what else is lent: the number is 1
pub told_short : (told buffer stays left : List ℕ) (count : ℕ) → length told ≡ count + 1 → length buffer < 8 * count
    → (1 ≡ told_number told buffer) × (buffer ≡ told_answer told buffer) × (stays ≡ lent_with count buffer stays left)
told_short [] buffer stays left count e l = absurd (omega arith)
told_short (number ∷ values) buffer stays left count e l =
    let n : length values ≡ count = omega arith in
    let s = short number values buffer (rw n l) in
    (s.0, s.1, rw (lt-ltb (length buffer) (8 * count) l))

-- one with room has the fields, and what else is lent is as the call leaves it
pub told_roomy : {A : Type 0} {number : ℕ} {exit after : List ℕ} (f : A → List ℕ) (r a : A) (buffer stays left : List ℕ) (count : ℕ)
    → 8 * count ≤ length buffer → r ≡ a → after ≡ left → (number ≡ told_number (f r) buffer) × (exit ≡ told_answer (f r) buffer)
    → (number ≡ told_number (f a) buffer) × (exit ≡ told_answer (f a) buffer) × (after ≡ lent_with count buffer stays left)
told_roomy f r a buffer stays left count l e h t =
    let u = rw e at t in
    (u.0, u.1, rw (le-ltb (length buffer) (8 * count) l) h)

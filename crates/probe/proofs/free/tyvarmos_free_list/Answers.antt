-- `probe::free::tyvarmos_free_list` meets its contract: with no room in the answer buffer all stays, and else it tells what is listed.
-- Assumes nothing.
use mathlib.Core.Path.{◌∙◌, ◌≡◌}
use mathlib.Core.List.{List, [], ◌∷◌}
use Prim.Native.Nat.{ℕ, ◌<◌}
use native.Mathlib.Omega.{arith}
use borrow.Author.Tests.{lt-ltb}
use lib.ListN.{length}
use Rattle.std.specs.Prelude.{Ok, Err}
use Rattle.std.specs.declared.result.Result.{Result}
use Rattle.field.specs.declared.refusal.Refusal.{Refusal}
use Rattle.answer.specs.Answer.{told_number, told_answer}
use Rattle.answer.proofs.AnswerLaws.{short}
use Rattle.freelist.specs.Answers.{listed_fields}
use Rattle.freelist.specs.Freelist.{pages_answer}
use Rattle.probe.proofs.free.tyvarmos_free_list.Goals as goal

-- a buffer too short for one field
no_room : (a : Result ℕ Refusal) (answer : List ℕ) → length answer < 8
    → (1 ≡ told_number (listed_fields a) answer) × (answer ≡ told_answer (listed_fields a) answer)
no_room (Ok k) answer l = short _ (k ∷ []) answer l
no_room (Err r) answer l = short _ (0 ∷ []) answer l

pub returns-then-answer-lt1 : goal.returns-then-answer-lt1
returns-then-answer-lt1 c =
    let a = c.args in
    let l : length a.answer.now < 8 = omega arith in
    let s = no_room (pages_answer a.table.now a.n a.ids.now) a.answer.now l in
    (c.from.ensures ∙ s.0, s.1, rw (lt-ltb (length a.answer.now) 8 l))

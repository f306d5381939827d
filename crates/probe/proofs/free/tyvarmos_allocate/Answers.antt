-- `probe::free::tyvarmos_allocate` meets its contract: with no room in the answer buffer all stays, and else it tells what is handed out.
-- Assumes nothing.
use mathlib.Core.Path.{◌∙◌, ◌≡◌}
use mathlib.Core.List.{List, [], ◌∷◌}
use Prim.Native.Nat.{ℕ, ◌<◌}
use native.Mathlib.Omega.{arith}
use borrow.Author.Tests.{lt-ltb}
use lib.ListN.{length}
use Rattle.std.specs.Prelude.{Ok, Err}
use Rattle.std.specs.declared.result.Result.{Result}
use Rattle.field.specs.declared.refusal.Refusal.{Refusal}
use Rattle.answer.specs.Answer.{told_number, told_answer}
use Rattle.answer.proofs.AnswerLaws.{short}
use Rattle.freelist.specs.declared.Allocated.{Allocated}
use Rattle.freelist.specs.Answers.{allocated_fields}
use Rattle.freelist.specs.Freelist.{allocate_answer}
use Rattle.probe.proofs.free.tyvarmos_allocate.Goals as goal

-- a buffer too short for two fields
no_room : (a : Result Allocated Refusal) (answer : List ℕ) → length answer < 16
    → (1 ≡ told_number (allocated_fields a) answer) × (answer ≡ told_answer (allocated_fields a) answer)
no_room (Ok a) answer l = short _ (a.start ∷ a.count ∷ []) answer l
no_room (Err r) answer l = short _ (0 ∷ 0 ∷ []) answer l

pub returns-then-answer-lt2 : goal.returns-then-answer-lt2
returns-then-answer-lt2 c =
    let a = c.args in
    let l : length a.answer.now < 16 = omega arith in
    let s = no_room (allocate_answer a.table.now a.n a.p a.bytes) a.answer.now l in
    (c.from.ensures ∙ s.0, s.1, rw (lt-ltb (length a.answer.now) 16 l))

-- `answer::put_fields` meets its contract. The loop's invariant: the fields that are left, put at the frontier, give what is to be. Assumes nothing.
use Rattle.std.proofs.Common.{◌≡◌, ◌*◌, drop}
use Rattle.field.specs.Run.{put_at}
use Rattle.answer.specs.Answer.{fields}
use Rattle.answer.proofs.put_fields.Given as goal

abbrev pub invariant-loop-i : goal.invariant-loop-i
invariant-loop-i l = put_at l.answer (8 * l.i) (fields (drop l.i l.values)) ≡ put_at l.initial.answer 0 (fields l.values)

-- Theorem: demand 3 in the words of the C functions, as specs/Promise states it. Where `tyvarmos_judge` returns 0, on the same image, page size, page count and
-- root, `tyvarmos_lookup` (`lookup_promise`) and `tyvarmos_quick` (`quick_promise`) return 0 for any key and leave in their answer what the leaves reached hold,
-- whatever bytes stand outside the blocks reached. Both come from one law, over any lookup that meets demand 3 (`promise`).
-- Assumes nothing.
use mathlib.Core.Path.{◌≡◌, refl, ap, ◌∙◌}
use mathlib.Core.List.{List}
use Prim.Native.Nat.{ℕ, ◌*◌, ◌≤◌}
use borrow.Author.Tests.{le-ltb}
use lib.ListN.{length}
use Rattle.std.specs.Prelude.{Some, None, Ok, Err}
use Rattle.answer.specs.Answer.{number_with, answer_with, told_number, told_answer}
use Rattle.walk.specs.Tree.{Key}
use Rattle.view.specs.declared.Fault.{Fault}
use Rattle.lookup.specs.Descent.{Looked}
use Rattle.lookup.specs.Lookup.{lookup_of}
use Rattle.quick.specs.Quick.{quick_of}
use Rattle.judge.specs.Judge.{Judged, judge_of, Passes, judged_number}
use Rattle.tree.specs.Holds.{value_held}
use Rattle.tree.specs.Demand3.{Demand3In}
use Rattle.tree.proofs.Demand3.{demand3}
use Rattle.tree.proofs.Quick.{quick_demand3}
use Rattle.tree.proofs.Numbers.{zero_passes}
use Rattle.shard.specs.Answer.{looked_fields, judged_fields}
use Rattle.shard.specs.Promise.{Promise}
use Rattle.shard.proofs.ZeroDone.{zero_told}
use Rattle.field.specs.Refusal.{number_of}

-- an answer that is no refusal has the number 0
told_zero : (a : Looked) (room : List ℕ) → 56 ≤ length room → ((x : Fault) → a ≡ Err x → ⊥) → told_number (looked_fields a) room ≡ 0
unfolding number_with
told_zero (Ok (Some v)) room l n = rw (le-ltb (length room) (8 * 7) l)
told_zero (Ok None) room l n = rw (le-ltb (length room) (8 * 7) l)
told_zero (Err x) room l n = absurd (n x refl)

-- a lookup that meets demand 3 keeps the promise
pub promise : (look : List ℕ → Key → Looked) (image : List ℕ) (P N root : ℕ) → Demand3In look image P N root → Promise look image P N root
unfolding answer_with
promise look image P N root d key room roomy =
    let zero = told_zero (look image key) room roomy (d.never_refused key) in
    record {
      never_refused = zero;
      found_told = λ page i h. rw ((d.found_iff key (value_held image P page i)).1 (page, i, h, refl), le-ltb (length room) (8 * 7) roomy);
      value_told = d.value_shown key;
      absent_told = λ n. rw ((d.absent_iff key).1 n, le-ltb (length room) (8 * 7) roomy);
      outside_told = λ image' same.
          let e : look image' key ≡ look image key = (d.outside_free image' same key).0 in
          (ap (λ (a : Looked). told_number (looked_fields a) room) e ∙ zero, ap (λ (a : Looked). told_answer (looked_fields a) room) e);
      outside_value = λ image' same. (d.outside_free image' same key).1;
    }

judge_told : (j : Judged) (answer : List ℕ) → told_number (judged_fields j) answer ≡ 0 → judged_number j ≡ 0
judge_told (Ok c) answer e = refl
judge_told (Err f) answer e = zero_told 5 (number_of f.refusal) answer e

-- ---- where the judge's C function returns 0
module _ (image : List ℕ) (P N root freelist : ℕ) (answer : List ℕ) (zero : told_number (judged_fields (judge_of image P N root freelist)) answer ≡ 0) where
  passes : Passes image P N root freelist
  passes = zero_passes image P N root freelist (judge_told (judge_of image P N root freelist) answer zero)

  -- the full lookup's keeps the promise
  pub lookup_promise : Promise (λ s. lookup_of s P N root) image P N root
  lookup_promise = promise (λ s. lookup_of s P N root) image P N root (demand3 image P N root freelist passes)

  -- and so does the quick lookup's
  pub quick_promise : Promise (λ s. quick_of s P N root) image P N root
  quick_promise = promise (λ s. quick_of s P N root) image P N root (quick_demand3 image P N root freelist passes)

-- Theorem: a C function that returns 0 has not refused, whatever room its answer buffer has: `lookup_done`, `quick_done`, `judge_done`, `meta_done`.
-- Assumes nothing.
use mathlib.Core.Path.{◌≡◌, sym, ap, ◌∙◌}
use mathlib.Core.Bool.{Bool, true, false, cond}
use mathlib.Core.List.{List}
use Prim.Native.Nat.{ℕ, ◌<◌}
use native.Mathlib.Omega.{arith}
use Rattle.std.proofs.Common.{Result, Err}
use Rattle.field.specs.Refusal.{number_of}
use Rattle.field.specs.declared.refusal.Refusal.{Refusal}
use Rattle.answer.specs.Answer.{too_short, number_with, told_number}
use Rattle.newest.specs.Newest.{newest_of, newest_fields}
use Rattle.newest.specs.declared.Newest.{Newest}
use Rattle.newest.proofs.NewestLaws.{newest_numbered}
use Rattle.walk.specs.Tree.{Key}
use Rattle.view.specs.declared.Fault.{Fault}
use Rattle.lookup.specs.Descent.{Looked}
use Rattle.lookup.specs.Lookup.{lookup_of}
use Rattle.quick.specs.Quick.{quick_of}
use Rattle.judge.specs.Judge.{Judged, judge_of}
use Rattle.tree.proofs.Numbers.{lookup_numbered, quick_numbered, judge_numbered}
use Rattle.shard.specs.Answer.{looked_fields, judged_fields}

pub zero_told : (count number : ℕ) (answer : List ℕ) → number_with count number answer ≡ 0 → number ≡ 0
unfolding number_with
zero_told count number answer e = go (too_short count answer) e
  where
    go : (t : Bool) → cond t 1 number ≡ 0 → number ≡ 0
    go true h = absurd (omega arith)
    go false h = h

-- of an answer to a key, whose refusals have numbers above 0
looked_done : (a : Looked) (answer : List ℕ) → ((x : Fault) → a ≡ Err x → 0 < number_of x.refusal) → told_number (looked_fields a) answer ≡ 0
    → (x : Fault) → a ≡ Err x → ⊥
looked_done a answer numbered e x h =
    let l = numbered x h in
    let z : number_with 7 (number_of x.refusal) answer ≡ 0 = sym (ap (λ (y : Looked). told_number (looked_fields y) answer) h) ∙ e in
    let o = zero_told 7 (number_of x.refusal) answer z in
    omega arith

-- the full lookup
pub lookup_done : (image : List ℕ) (P N root : ℕ) (key : Key) (answer : List ℕ) → told_number (looked_fields (lookup_of image P N root key)) answer ≡ 0
    → (x : Fault) → lookup_of image P N root key ≡ Err x → ⊥
lookup_done image P N root key answer = looked_done (lookup_of image P N root key) answer (lookup_numbered image P N root key)

-- the quick lookup
pub quick_done : (image : List ℕ) (P N root : ℕ) (key : Key) (answer : List ℕ) → told_number (looked_fields (quick_of image P N root key)) answer ≡ 0
    → (x : Fault) → quick_of image P N root key ≡ Err x → ⊥
quick_done image P N root key answer = looked_done (quick_of image P N root key) answer (quick_numbered image P N root key)

pub judge_done : (image : List ℕ) (P N root f : ℕ) (answer : List ℕ) → told_number (judged_fields (judge_of image P N root f)) answer ≡ 0
    → (x : Fault) → judge_of image P N root f ≡ Err x → ⊥
judge_done image P N root f answer e x h =
    let l = judge_numbered image P N root f x h in
    let z : number_with 5 (number_of x.refusal) answer ≡ 0 = sym (ap (λ (a : Judged). told_number (judged_fields a) answer) h) ∙ e in
    let o = zero_told 5 (number_of x.refusal) answer z in
    omega arith

pub meta_done : (image : List ℕ) (p : ℕ) (answer : List ℕ) → told_number (newest_fields (newest_of image p)) answer ≡ 0
    → (refusal : Refusal) → newest_of image p ≡ Err refusal → ⊥
meta_done image p answer e refusal h =
    let l = newest_numbered image p refusal h in
    let z : number_with 7 (number_of refusal) answer ≡ 0 = sym (ap (λ (a : Result Newest Refusal). told_number (newest_fields a) answer) h) ∙ e in
    let o = zero_told 7 (number_of refusal) answer z in
    omega arith

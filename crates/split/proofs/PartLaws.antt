-- What a callee put into a part that was lent is put into the whole, as far on as the part starts.
-- Assumes nothing.
use mathlib.Core.Path.{◌≡◌, sym, ap, ◌∙◌}
use mathlib.Core.List.{List, ◌++◌, append_assoc}
use Prim.Native.Nat.{ℕ, ◌+◌, ◌-◌, ◌≤◌}
use native.Mathlib.Nat.{add_assoc, add-zero}
use native.Mathlib.Omega.{arith}
use lib.ListN.{length, take, drop, take-append-drop}
use lib.Seq.{take-append-le, drop-append-le, take-add, drop-drop}
use borrow.Rule.Slice.PartMut.{mid_of, post_of, put_mid, mid_len}
use Rattle.field.specs.Run.{put_at}
use Rattle.field.proofs.RunLaws.{put_start}

lent_put : (a k at : ℕ) (o run last : List ℕ) → last ≡ put_at (mid_of a k o) at run → at + length run ≤ length (mid_of a k o)
    → put_mid a k o last ≡ put_at o (a + at) run
unfolding put_at
lent_put a k at o run last e h =
    let m : List ℕ = mid_of a k o in
    let p : List ℕ = post_of a k o in
    let n : ℕ = at + length run in
    let s : m ++ p ≡ drop a o = take-append-drop k (drop a o) in
    let before : take (a + at) o ≡ take a o ++ take at m = take-add a at o ∙ ap (λ (l : List ℕ). take a o ++ take at l) (sym s) ∙ ap (λ (l : List ℕ). take a o ++ l) (take-append-le at m p (omega arith)) in
    let after : drop (a + at + length run) o ≡ drop n m ++ p = rw add_assoc (sym (drop-drop n a o) ∙ ap (drop n) (sym s) ∙ drop-append-le n m p h) in
    rw (e, before, after) (simp append_assoc)

-- the same of a part to the end, put into from its start: what `f(&mut out[a..], 0, ..)` leaves
lent_end : (a : ℕ) (o run last : List ℕ) → last ≡ put_at (mid_of a (length o - a) o) 0 run → a + length run ≤ length o
    → put_mid a (length o - a) o last ≡ put_at o a run
lent_end a o run last e h =
    let l = mid_len a (length o) o (omega arith) in
    rw add-zero at (lent_put a (length o - a) 0 o run last e (omega arith))

-- and of a callee that puts a run at the part's start and leaves the rest
pub lent_run : (a : ℕ) (o run last : List ℕ) (r : ℕ) → last ≡ run ++ drop r (mid_of a (length o - a) o) → r ≡ length run → a + length run ≤ length o
    → put_mid a (length o - a) o last ≡ put_at o a run
lent_run a o run last r e hr h =
    let m : List ℕ = mid_of a (length o - a) o in
    lent_end a o run last (e ∙ ap (λ (k : ℕ). run ++ drop k m) hr ∙ sym (put_start m run)) h

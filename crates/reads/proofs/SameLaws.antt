-- Two lists that have the same bytes in a run: a part of the run, the lists' parts, a number that stands there, and the order of two keys.
-- Assumes nothing.
use mathlib.Core.Path.{◌≡◌, refl, sym, ◌∙◌}
use mathlib.Core.Bool.{Bool, true, false}
use mathlib.Core.List.{List, [], ◌∷◌}
use Prim.Native.Nat.{ℕ, zero, suc, ◌+◌, ◌≤◌, ◌<◌}
use native.Mathlib.Omega.{arith}
use borrow.Author.Tests.{ltb-true, ltb-false}
use lib.Dec.{ltb}
use lib.ListN.{length, get_or, take, drop, length-take, get_or-eq_default}
use lib.Seq.{get_or-take, get_or-drop}
use Rattle.field.specs.Field.{field}
use Rattle.field.specs.Order.{order_of}
use Rattle.reads.specs.Reads.{Run, run, SameIn}

module _ (s s' : List ℕ) where
  -- a run in a run
  pub same_within : (at o v w : ℕ) → o + v ≤ w → SameIn s s' (run at w) → SameIn s s' (run (at + o) v)
  same_within at o v w l h j m = let e : at + o + j ≡ at + (o + j) = omega arith in rw e (h (o + j) (omega arith))

  -- a run of what is left from `start` on
  pub same_drop : (start at : ℕ) (r : Run) → r.from ≡ start + at → SameIn s s' r → SameIn (drop start s) (drop start s') (run at r.bytes)
  same_drop start at r e h j l =
      let f : start + (at + j) ≡ r.from + j = omega arith in
      rw (get_or-drop start s' (at + j) 0, get_or-drop start s (at + j) 0, f) (h j l)

  -- a run of the first n, where there is nothing past them
  pub same_take : (n : ℕ) (r : Run) → SameIn s s' r → SameIn (take n s) (take n s') r
  same_take n r h j l = go (ltb (r.from + j) n) refl
    where
      past : (t : List ℕ) → n ≤ r.from + j → get_or (take n t) (r.from + j) 0 ≡ 0
      past t m = get_or-eq_default (take n t) 0 (omega (arith, length-take n t))

      go : (t : Bool) → ltb (r.from + j) n ≡ t → get_or (take n s') (r.from + j) 0 ≡ get_or (take n s) (r.from + j) 0
      go true e =
          let m = ltb-true (r.from + j) n e in
          get_or-take n s' (r.from + j) 0 m ∙ h j l ∙ sym (get_or-take n s (r.from + j) 0 m)
      go false e = let m = ltb-false (r.from + j) n e in past s' m ∙ sym (past s m)

-- the number that fills a run
pub same_field : (w : ℕ) (s s' : List ℕ) (at : ℕ) → SameIn s s' (run at w) → field w s' at ≡ field w s at
unfolding field
same_field zero s s' at h = refl
same_field (suc w) s s' at h =
    let e : at + 0 ≡ at = omega arith in
    let first : get_or s' at 0 ≡ get_or s at 0 = rw e at (h 0 (omega arith)) in
    rw (first, same_field w s s' (at + 1) (same_within s s' at 1 w (suc w) (omega arith) h))

-- the order of two keys is decided by the bytes of the first that both have, and its length
pub same_order : (a a' key : List ℕ) → length a' ≡ length a → ((j : ℕ) → j < length a → j < length key → get_or a' j 0 ≡ get_or a j 0)
    → order_of a' key ≡ order_of a key
unfolding order_of
same_order [] [] key e h = refl
same_order [] (x' ∷ xs') key e h = absurd (omega arith)
same_order (x ∷ xs) [] key e h = absurd (omega arith)
same_order (x ∷ xs) (x' ∷ xs') [] e h = refl
same_order (x ∷ xs) (x' ∷ xs') (y ∷ ys) e h =
    let first : x' ≡ x = h 0 (omega arith) (omega arith) in
    let rest = same_order xs xs' ys (omega arith) (λ j l m. h (suc j) (omega arith) (omega arith)) in
    rw (first, rest)

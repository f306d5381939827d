-- Laws of `put_at`. The law of the frontier is `put_put`: a run put where the last one ended is one longer run.
-- Assumes nothing.
use mathlib.Core.Path.{◌≡◌, refl, sym, ap, ◌∙◌}
use mathlib.Core.List.{List, [], ◌∷◌, ◌++◌, append_assoc, append-nil}
use Prim.Native.Nat.{ℕ, suc, ◌+◌, ◌-◌, ◌≤◌, ◌<◌}
use native.Mathlib.Nat.{add-zero, add_assoc, zero-add}
use native.Mathlib.Numerals.{add-one}
use native.Mathlib.Omega.{arith}
use lib.ListN.{length, get_or, set, take, drop, length-append, length-drop, take-append-drop, drop_of_length-le, replicate}
use borrow.Rule.Slice.PartMut.{put_mid}
use lib.Seq.{length-take-le, set_split, append_snoc, take_at, drop_at, drop-append-add, drop-drop, drop-cons}
use Rattle.field.specs.Run.{put_at}

-- ---- the frontier
pub put_nil : (o : List ℕ) (at : ℕ) → put_at o at [] ≡ o
unfolding put_at
put_nil o at = rw (add-zero, append-nil) (take-append-drop at o)

-- a part that is overwritten is a run put where the part starts
pub mid_put : (o run : List ℕ) (at k : ℕ) → k ≡ length run → put_mid at k o run ≡ put_at o at run
unfolding put_at
mid_put o run at k e =
    ap (λ (r : List ℕ). take at o ++ (run ++ r)) (drop-drop k at o ∙ ap (λ (n : ℕ). drop (at + n) o) e)
    ∙ sym (append_assoc (take at o) run (drop (at + length run) o))

pub length-put : (o : List ℕ) (at : ℕ) (run : List ℕ) → at + length run ≤ length o → length (put_at o at run) ≡ length o
unfolding put_at
length-put o at run h = let t = length-take-le at o (omega arith) in simp (length-append, length-drop, t) (omega arith)

pub put_put : (o : List ℕ) (at w : ℕ) (a b : List ℕ) → w ≡ at + length a → w ≤ length o → put_at (put_at o at a) w b ≡ put_at o at (a ++ b)
unfolding put_at
put_put o at w a b e h =
    let t = length-take-le at o (omega arith) in
    let p : List ℕ = take at o ++ a in
    let l : length p ≡ w = simp (length-append, t) (sym e) in
    let whole : at + length (a ++ b) ≡ w + length b = simp length-append (omega arith) in
    let tail : drop (w + length b) (p ++ drop w o) ≡ drop (w + length b) o = rw l at (drop-append-add p (drop w o) (length b)) ∙ drop-drop (length b) w o in
    rw (sym e, take_at p (drop w o) w l, tail, whole) (simp append_assoc)

-- the same, of what two calls leave
pub put_then : {o₁ o₂ : List ℕ} (o : List ℕ) (at w : ℕ) (a b : List ℕ) → w ≡ at + length a → w ≤ length o
    → o₁ ≡ put_at o at a → o₂ ≡ put_at o₁ w b → o₂ ≡ put_at o at (a ++ b)
put_then o at w a b e h p q = q ∙ ap (λ (l : List ℕ). put_at l w b) p ∙ put_put o at w a b e h

-- and of four, of which the first three put a word
pub put_four : {o₁ o₂ o₃ o₄ : List ℕ} (o : List ℕ) (at : ℕ) (a b c d : List ℕ) → length a ≡ 8 → length b ≡ 8 → length c ≡ 8 → at + 32 ≤ length o
    → o₁ ≡ put_at o at a → o₂ ≡ put_at o₁ (at + 8) b → o₃ ≡ put_at o₂ (at + 8 + 8) c → o₄ ≡ put_at o₃ (at + 8 + 8 + 8) d
    → o₄ ≡ put_at o at (a ++ b ++ c ++ d)
put_four o at a b c d la lb lc h p q r s =
    let lab = length-append a b in
    let labc = length-append (a ++ b) c in
    put_then o at (at + 8 + 8 + 8) (a ++ b ++ c) d (omega arith) (omega arith)
    (put_then o at (at + 8 + 8) (a ++ b) c (omega arith) (omega arith) (put_then o at (at + 8) a b (omega arith) (omega arith) p q) r) s

-- what stands before the run, put last
pub put_front : (o : List ℕ) (at : ℕ) (h run : List ℕ) → length h ≡ at → at ≤ length o → put_at (put_at o at run) 0 h ≡ put_at o 0 (h ++ run)
unfolding put_at
put_front o at h run l k =
    let t = length-take-le at o k in
    let r : List ℕ = drop (at + length run) o in
    rw (zero-add, l, append_assoc (take at o) run r, drop_at (take at o) (run ++ r) at t, zero-add, length-append, l) (simp append_assoc)

-- a run from the start
pub put_start : (o run : List ℕ) → put_at o 0 run ≡ run ++ drop (length run) o
unfolding put_at
put_start o run = rw zero-add

pub put_one : (o : List ℕ) (at v : ℕ) → at < length o → set o at v ≡ put_at o at (v ∷ [])
unfolding put_at
put_one o at v h = rw (add-one, append_snoc) (set_split o at v h)

pub put_cons : (o : List ℕ) (at v : ℕ) (r : List ℕ) → at < length o → put_at (set o at v) (at + 1) r ≡ put_at o at (v ∷ r)
put_cons o at v r h = rw (put_one o at v h) (put_put o at (at + 1) (v ∷ []) r refl (omega arith))

-- ---- what a loop that puts a list, element by element, has to know: a turn, and the end
pub put_turn : (o src : List ℕ) (at j : ℕ) → at + j < length o → j < length src
    → put_at (set o (at + j) (get_or src j 0)) (at + (j + 1)) (drop (j + 1) src) ≡ put_at o (at + j) (drop j src)
put_turn o src at j h k =
    rw (drop-cons src j 0 k, ← add-one j, ← add_assoc at j 1) (put_cons o (at + j) (get_or src j 0) (drop (j + 1) src) h)

pub put_done : (o src : List ℕ) (at j : ℕ) → length src ≤ j → put_at o at (drop j src) ≡ o
put_done o src at j h = rw (drop_of_length-le src h) (put_nil o at)

pub zero_turn : (o : List ℕ) (i end : ℕ) → i < length o → i < end → put_at (set o i 0) (i + 1) (replicate (end - (i + 1)) 0) ≡ put_at o i (replicate (end - i) 0)
zero_turn o i end h k =
    let e : end - i ≡ suc (end - (i + 1)) = omega arith in
    rw e (put_cons o i 0 (replicate (end - (i + 1)) 0) h)

pub zero_done : (o : List ℕ) (i end : ℕ) → end ≤ i → put_at o i (replicate (end - i) 0) ≡ o
zero_done o i end h = let e : end - i ≡ 0 = omega arith in rw e (put_nil o i)

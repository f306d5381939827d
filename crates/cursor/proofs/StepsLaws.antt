-- Cleared steps and the cursor that they make, and a move below a path.
-- Assumes nothing.
use mathlib.Core.Path.{◌≡◌, refl, sym, ap, ◌∙◌}
use mathlib.Core.List.{List, [], ◌∷◌, ◌++◌}
use Prim.Native.Nat.{ℕ, suc, ◌+◌, ◌-◌, ◌≤◌, ◌<◌}
use native.Mathlib.Omega.{arith}
use lib.ListN.{length, get_or, take, drop, set, drop_of_length-le, replicate, length-append, length-set, length-replicate, take-append-drop}
use lib.Seq.{length-take-le, take-suc, take-suc-set, drop-set-lt, drop-cons, get_or-take, take_at, drop_at, drop-drop}
use Rattle.std.proofs.lemmas.List.{drop-replicate}
use Rattle.walk.specs.Tree.{Item}
use Rattle.path.specs.declared.Step.{Step}
use Rattle.path.specs.declared.Cursor.{Cursor}
use Rattle.path.specs.Path.{step, Move, at, end, refused, below}
use Rattle.view.specs.declared.Value.{Value}
use Rattle.cursor.specs.declared.Entry.{Entry}
use Rattle.cursor.specs.declared.Moved.{Moved}
use Rattle.cursor.specs.Cursor.{entry_of, cursor_of, path_of, moved_of}
use Rattle.cursor.specs.Working.{Clear, under}
use Rattle.std.specs.Prelude.{Ok, Some}
use Rattle.field.specs.declared.refusal.Refusal.{Refusal}

-- a step more of those that are taken
pub take_next : (steps : List Step) (k : ℕ) → k < length steps → take (k + 1) steps ≡ take k steps ++ (get_or steps k (step 0 0) ∷ [])
take_next steps k l = let e : k + 1 ≡ suc k = omega arith in rw e (take-suc steps k (step 0 0) l)

-- ---- cleared steps
tail_zeros : (k : ℕ) → k < 16 → drop 1 (replicate (16 - k) (step 0 0)) ≡ replicate (16 - (k + 1)) (step 0 0)
tail_zeros k l = let e : 16 - k ≡ suc (16 - (k + 1)) = omega arith in rw e

pub clear_set : (steps : List Step) (k : ℕ) (s : Step) → k < 16 → Clear steps k → Clear (set steps k s) (k + 1)
clear_set steps k s l c =
    record {
      sixteen = length-set steps k s ∙ c.sixteen;
      zeros = drop-set-lt (k + 1) steps k s (omega arith) ∙ sym (drop-drop 1 k steps) ∙ ap (drop 1) c.zeros ∙ tail_zeros k l;
    }

-- the steps up to a level, with one step more
pub take-set : (steps : List Step) (k : ℕ) (s : Step) → k < 16 → Clear steps k → take (k + 1) (set steps k s) ≡ take k steps ++ (s ∷ [])
take-set steps k s l c =
    let e : k + 1 ≡ suc k = omega arith in
    rw e (take-suc-set steps k s (let n = c.sixteen in omega arith))

-- the cursor of the steps up to a level
pub clear_cursor : (steps : List Step) (k : ℕ) → k ≤ 16 → Clear steps k → ◌≡◌ {A = Cursor} (record { steps = steps; length = k }) (cursor_of (take k steps))
clear_cursor steps k l c =
    let n : length (take k steps) ≡ k = length-take-le k steps (let e = c.sixteen in omega arith) in
    let e : steps ≡ take k steps ++ replicate (16 - k) (step 0 0) = sym (take-append-drop k steps) ∙ ap (λ (r : List Step). take k steps ++ r) c.zeros in
    rw (n, sym e)

-- the same with one step more
pub set_cursor : (steps : List Step) (k : ℕ) (s : Step) → k < 16 → Clear steps k
    → ◌≡◌ {A = Cursor} (record { steps = set steps k s; length = k + 1 }) (cursor_of (take k steps ++ (s ∷ [])))
set_cursor steps k s l c =
    clear_cursor (set steps k s) (k + 1) (omega arith) (clear_set steps k s l c) ∙ ap cursor_of (take-set steps k s l c)

-- a path of at most sixteen steps, and its cursor
pub path_clear : (path : List Step) → length path ≤ 16 → Clear (cursor_of path).steps (length path)
path_clear path l =
    record {
      sixteen = (let a = length-append path (replicate (16 - length path) (step 0 0)) in let b = length-replicate (16 - length path) (step 0 0) in omega arith);
      zeros = drop_at path (replicate (16 - length path) (step 0 0)) (length path) refl;
    }

pub path_back : (path : List Step) → path_of (cursor_of path) ≡ path
path_back path = take_at path (replicate (16 - length path) (step 0 0)) (length path) refl

-- of the first steps of sixteen, zeros after them, and one step more
pub turned_cursor : (old front : List Step) (k : ℕ) (s : Step) → length old ≡ 16 → k < 16 → front ≡ take k old
    → ◌≡◌ {A = Cursor} (record { steps = set (front ++ drop k (replicate 16 (step 0 0))) k s; length = k + 1 }) (cursor_of (take k old ++ (s ∷ [])))
turned_cursor old front k s sixteen l e =
    let n : length (take k old) ≡ k = length-take-le k old (omega arith) in
    let clear : Clear (take k old ++ replicate (16 - k) (step 0 0)) k = rw n at (path_clear (take k old) (omega arith)) in
    let back : take k (take k old ++ replicate (16 - k) (step 0 0)) ≡ take k old = rw n at (path_back (take k old)) in
    rw (e, drop-replicate k 16 (step 0 0))
    (set_cursor (take k old ++ replicate (16 - k) (step 0 0)) k s l clear ∙ ap (λ (path : List Step). cursor_of (path ++ (s ∷ []))) back)

-- an entry at a step more
pub made_at : (given : Cursor) (steps : List Step) (k : ℕ) (s : Step) (r : Entry) (x : Item Value) → k < 16 → Clear steps k → r ≡ entry_of x
    → ◌≡◌ {A = Moved} (record { cursor = record { steps = set steps k s; length = k + 1 }; stand = Ok (Some r) }) (moved_of given (at (take k steps ++ (s ∷ [])) x))
made_at given steps k s r x l c e = rw (set_cursor steps k s l c, e)

-- the steps of a path from step k on
pub path_at : (steps : List Step) (n k : ℕ) → n ≤ length steps → k < n → drop k (take n steps) ≡ get_or steps k (step 0 0) ∷ drop (k + 1) (take n steps)
path_at steps n k l m =
    let e : suc k ≡ k + 1 = omega arith in
    let d = drop-cons (take n steps) k (step 0 0) (let t = length-take-le n steps l in omega arith) in
    d ∙ rw (get_or-take n steps k (step 0 0) m, e)

-- and after its last there is none
pub path_over : (steps : List Step) (n k : ℕ) → n ≤ length steps → n ≤ k → drop k (take n steps) ≡ []
path_over steps n k l m = drop_of_length-le (take n steps) {i = k} (let t = length-take-le n steps l in omega arith)

-- ---- a move below a path
module _ {P : Type 0} where
  pub under_snoc : (path : List Step) (s : Step) (m : Move P) → under (path ++ (s ∷ [])) m ≡ under path (below s m)
  unfolding under
  under_snoc [] s m = refl
  under_snoc (x ∷ path) s m = ap (below x) (under_snoc path s m)

  pub under_end : (path : List Step) → ◌≡◌ {A = Move P} (under path end) end
  unfolding under
  under_end [] = refl
  under_end (x ∷ path) = ap (below x) (under_end path)

  pub under_refused : (path : List Step) (r : Refusal) (p e c : ℕ) → ◌≡◌ {A = Move P} (under path (refused r p e c)) (refused r p e c)
  unfolding under
  under_refused [] r p e c = refl
  under_refused (x ∷ path) r p e c = ap (below x) (under_refused path r p e c)

  pub under_at : (path : List Step) (s : Step) (e : Item P) → ◌≡◌ {A = Move P} (under path (at (s ∷ []) e)) (at (path ++ (s ∷ [])) e)
  unfolding under
  under_at [] s e = refl
  under_at (x ∷ path) s e = ap (below x) (under_at path s e)

  -- a step made: below the steps so far and it
  pub under_turn : (steps : List Step) (k : ℕ) (s : Step) (m : Move P) → k < 16 → Clear steps k
      → under (take k steps) (below s m) ≡ under (take (k + 1) (set steps k s)) m
  under_turn steps k s m l c = sym (ap (λ (path : List Step). under path m) (take-set steps k s l c) ∙ under_snoc (take k steps) s m)

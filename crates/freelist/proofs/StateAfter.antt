-- What each call does to the state of every page, in its pages and out of them, that a table without fault stays one, and that the words
-- past the table's 33,792 stay. Assumes nothing.
use Rattle.field.specs.Sizes.{count_allowed}
use mathlib.Core.Path.{◌≡◌, refl, ap, ◌∙◌}
use mathlib.Core.Logic.{◌⊎◌, inl, inr, ⊎_elim}
use mathlib.Core.List.Memᴰ
use mathlib.Core.List.{List, [], ◌∷◌, ◌++◌}
use mathlib.Core.Bool.{Bool, true, false, cond}
use Prim.Native.Nat.{ℕ, ◌+◌, ◌-◌, ◌/◌, ◌%◌, ◌^◌, ◌≤◌, ◌<◌}
use native.Mathlib.Nat.{zero-div}
use native.Mathlib.Omega.{arith}
use borrow.Author.Tests.{leb-true}
use lib.Dec.{eqb, leb, ltb}
use lib.ListN.{length, get_or, replicate, drop, length-replicate, get_or-replicate, get_or-append}
use lib.Seq.{get_or-append-add, get_or-drop}
use Rattle.field.proofs.BitLaws.{same_or}
use Rattle.field.proofs.RunLaws.{put_start, length-put}
use Rattle.std.specs.Prelude.{Ok}
use Rattle.freelist.specs.declared.table.State.{State}
use Rattle.freelist.specs.declared.table.State.TheVariants.{InUse, Free, Pending, Broken}
use Rattle.freelist.specs.Table.{bit, state_of, is_state}
use Rattle.freelist.specs.Pages.{◌∈◌, pages_from, pages_of, rising, each}
use Rattle.freelist.specs.Freelist.{has_room, fault_of, new_check, new_table, init_check, init_table, free_check, free_table, ripe, release_table}
use Rattle.freelist.proofs.PageLaws.{and_parts, in_row, row_in, rising_row}
use Rattle.freelist.proofs.EachLaws.{length_each, each_in, each_out, each_word}
use Rattle.freelist.proofs.AnswerLaws.{held}
use Rattle.freelist.proofs.FaultLaws.{Passes, passes, no_fault}
use Rattle.freelist.proofs.NumberLaws.{initiable, freeable}

-- ---- pages given a state

-- one of the pages, or not
in_or : (q : ℕ) (ps : List ℕ) → (q ∈ ps) ⊎ (q ∈ ps → ⊥)
in_or q [] = inr Memᴰ.not-nil
in_or q (p ∷ ps) = ⊎_elim (λ e. inl (Memᴰ.head e)) (λ n. ⊎_elim (λ m. inl (Memᴰ.tail m)) (λ k. inr (λ m. ⊎_elim n k (Memᴰ.cases_cons m))) (in_or q ps)) (same_or q p)

-- a table without fault, of which rising pages below 32,768 are given states of the three, is one at every count up to which it was one
-- or they reach
pub each_stays : (g : State → State) (low : ℕ) (ps t : List ℕ) (n m : ℕ) → Passes t n → ((p : ℕ) → p ∈ ps → p < 32768) → rising low ps ≡ true
    → 2 ≤ m → m ≤ 32768 → ((q : ℕ) → q ∈ ps → 2 ≤ q → q < m → is_state (g (state_of t q)) ≡ true) → ((q : ℕ) → (q ∈ ps → ⊥) → q < m → q < n)
    → fault_of (each g ps t) m ≡ Ok tt
each_stays g low ps t n m s fit up from to good old =
    let e = length_each g ps t in
    let l = s.long in
    no_fault (each g ps t) m (record { long = omega arith; from = from; to = to; states = state })
  where
    state : (q : ℕ) → 2 ≤ q → q < m → is_state (state_of (each g ps t) q) ≡ true
    state q a b =
        ⊎_elim
        (λ i. ap is_state (each_in g low ps t s.long fit up q i) ∙ good q i a b)
        (λ o. ap is_state (each_out g ps t s.long fit q (omega arith) o) ∙ s.states q a (old q o b))
        (in_or q ps)

-- a word past the table's is as it was
pub each_rest : (g : State → State) (ps t : List ℕ) → 33792 ≤ length t → ((p : ℕ) → p ∈ ps → p < 32768)
    → (i : ℕ) → 33792 ≤ i → get_or (each g ps t) i 0 ≡ get_or t i 0
each_rest g ps t long fit i l = each_word g ps t long fit i (omega arith) (λ p m e. let b = fit p m in omega arith)

-- ---- new
module _ (t : List ℕ) (done : new_check t ≡ Ok tt) where
  long : 33792 ≤ length t
  unfolding new_check has_room
  long = leb-true 33792 (length t) (held _ _ done)

  -- a word of the bits is 0
  new_word : (i : ℕ) → i < 1024 → ◌≡◌ {A = ℕ} (get_or (new_table t) i 0) 0
  unfolding new_table
  new_word i l =
      let e = length-replicate {A = ℕ} 1024 0 in
      rw (put_start t (replicate 1024 0), get_or-append (replicate 1024 0) (drop (length (replicate {A = ℕ} 1024 0)) t) 0 i (omega arith)) (get_or-replicate 1024 i 0 0 l)

  -- and any other word is as it was
  pub new_rest : (i : ℕ) → 1024 ≤ i → get_or (new_table t) i 0 ≡ get_or t i 0
  unfolding new_table
  new_rest i l =
      let r : List ℕ = replicate 1024 0 in
      let e : length r ≡ 1024 = length-replicate {A = ℕ} 1024 0 in
      let f : i ≡ length r + (i - 1024) = omega arith in
      let g : length r + (i - 1024) ≡ i = omega arith in
      rw (put_start t r)
      (ap (λ (k : ℕ). get_or (r ++ drop (length r) t) k 0) f ∙ get_or-append-add r (drop (length r) t) (i - 1024) 0
      ∙ get_or-drop (length r) t (i - 1024) 0 ∙ ap (λ (k : ℕ). get_or t k 0) g)

  bit_off : (j : ℕ) → j < 65536 → bit (new_table t) j ≡ false
  unfolding bit
  bit_off j l = ap (λ (w : ℕ). eqb (w / 2 ^ (j % 64) % 2) 1) (new_word (j / 64) (omega arith)) ∙ ap (λ (w : ℕ). eqb (w % 2) 1) (zero-div (2 ^ (j % 64)))

  -- every page is in use
  pub new_all : (q : ℕ) → q < 32768 → state_of (new_table t) q ≡ InUse
  unfolding state_of
  new_all q l = rw (bit_off q (omega arith), bit_off (32768 + q) (omega arith))

  -- so that it passes with every page count that is allowed
  pub new_passes : (n : ℕ) → count_allowed n ≡ true → fault_of (new_table t) n ≡ Ok tt
  unfolding new_table
  new_passes n ok =
      let l = long in
      let r = length-replicate {A = ℕ} 1024 0 in
      let e = length-put t 0 (replicate 1024 0) (omega arith) in
      let c = and_parts (leb 2 n) (leb n 32768) ok in
      let to = leb-true n 32768 c.1 in
      no_fault (new_table t) n (record { long = omega arith; from = leb-true 2 n c.0; to = to; states = λ k a b. ap is_state (new_all k (omega arith)) })

-- ---- init
module _ (t : List ℕ) (n : ℕ) (ids : List ℕ) (done : init_check t n ids ≡ Ok tt) where
  small : (p : ℕ) → p ∈ ids → p < 32768
  small p m = let s = initiable t n ids done in let o = s.table.to in let b = s.below p m in omega arith

  -- a page of the list is free
  pub init_in : (q : ℕ) → q ∈ ids → state_of (init_table t ids) q ≡ Free
  unfolding init_table
  init_in q m = let s = initiable t n ids done in each_in (λ s. Free) 2 ids t s.table.long small s.up q m

  -- and every other page is as it was
  pub init_out : (q : ℕ) → q < 32768 → (q ∈ ids → ⊥) → state_of (init_table t ids) q ≡ state_of t q
  unfolding init_table
  init_out q l o = each_out (λ s. Free) ids t (initiable t n ids done).table.long small q l o

  pub init_stays : fault_of (init_table t ids) n ≡ Ok tt
  unfolding init_table
  init_stays =
      let s = initiable t n ids done in
      each_stays (λ s. Free) 2 ids t n n s.table small s.up s.table.from s.table.to (λ q m a b. refl) (λ q m b. b)

  pub init_rest : (i : ℕ) → 33792 ≤ i → get_or (init_table t ids) i 0 ≡ get_or t i 0
  unfolding init_table
  init_rest i l = each_rest (λ s. Free) ids t (initiable t n ids done).table.long small i l

-- ---- free
module _ (t : List ℕ) (n p count tx : ℕ) (done : free_check t n p count ≡ Ok tt) where
  below : (q : ℕ) → q ∈ pages_from p count → q < 32768
  below q m = let s = freeable t n p count done in let a = s.to in let o = s.table.to in omega (arith, (row_in p count q m).1)

  -- a page that was freed is pending under tx
  pub free_in : (q : ℕ) → p ≤ q → q < p + count → state_of (free_table t p count tx) q ≡ Pending tx
  unfolding free_table
  free_in q a b = each_in (λ s. Pending tx) p (pages_from p count) t (freeable t n p count done).table.long below (rising_row p p count (omega arith)) q (in_row p count q a b)

  -- and every other page is as it was
  pub free_out : (q : ℕ) → q < 32768 → (p ≤ q → q < p + count → ⊥) → state_of (free_table t p count tx) q ≡ state_of t q
  unfolding free_table
  free_out q l o = each_out (λ s. Pending tx) (pages_from p count) t (freeable t n p count done).table.long below q l (λ m. let r = row_in p count q m in o r.0 r.1)

  pub free_stays : fault_of (free_table t p count tx) n ≡ Ok tt
  unfolding free_table
  free_stays =
      let s = (freeable t n p count done).table in
      each_stays (λ s. Pending tx) p (pages_from p count) t n n s below (rising_row p p count (omega arith)) s.from s.to (λ q m a b. refl) (λ q m b. b)

  pub free_rest : (i : ℕ) → 33792 ≤ i → get_or (free_table t p count tx) i 0 ≡ get_or t i 0
  unfolding free_table
  free_rest i l = each_rest (λ s. Pending tx) (pages_from p count) t (freeable t n p count done).table.long below i l

-- ---- release

ripe_state : (tx : ℕ) (s : State) → is_state s ≡ true → is_state (ripe tx s) ≡ true
ripe_state tx InUse h = h
ripe_state tx Free h = h
ripe_state tx (Pending x) h = go (ltb x tx)
  where
    go : (b : Bool) → is_state (cond b Free (Pending x)) ≡ true
    go true = refl
    go false = refl
ripe_state tx Broken h = h

module _ (t : List ℕ) (n tx : ℕ) (done : fault_of t n ≡ Ok tt) where
  inner : (q : ℕ) → q ∈ pages_of n → q < 32768
  inner q m = let s = passes t n done in let f = s.from in let o = s.to in omega (arith, (row_in 2 (n - 2) q m).1)

  -- a page from 2 to n - 1 is free where it was pending under a number below tx, and is otherwise as it was
  pub release_in : (q : ℕ) → 2 ≤ q → q < n → state_of (release_table t n tx) q ≡ ripe tx (state_of t q)
  unfolding release_table
  release_in q a b = each_in (ripe tx) 2 (pages_of n) t (passes t n done).long inner (rising_row 2 2 (n - 2) (omega arith)) q (in_row 2 (n - 2) q a (omega arith))

  -- and every other page is as it was
  pub release_out : (q : ℕ) → q < 32768 → (2 ≤ q → q < n → ⊥) → state_of (release_table t n tx) q ≡ state_of t q
  unfolding release_table
  release_out q l o =
      let f = (passes t n done).from in
      each_out (ripe tx) (pages_of n) t (passes t n done).long inner q l (λ m. let r = row_in 2 (n - 2) q m in o r.0 (omega (arith, r.1)))

  pub release_stays : fault_of (release_table t n tx) n ≡ Ok tt
  unfolding release_table
  release_stays =
      let s = passes t n done in
      each_stays (ripe tx) 2 (pages_of n) t n n s inner (rising_row 2 2 (n - 2) (omega arith)) s.from s.to
      (λ q m a b. ripe_state tx (state_of t q) (s.states q a b)) (λ q m b. b)

  pub release_rest : (i : ℕ) → 33792 ≤ i → get_or (release_table t n tx) i 0 ≡ get_or t i 0
  unfolding release_table
  release_rest i l = each_rest (ripe tx) (pages_of n) t (passes t n done).long inner i l

-- What `put` and `each` do to the states of the pages.
-- Assumes nothing.
use mathlib.Core.Path.{◌≡◌, refl, sym, ap, ◌∙◌}
use mathlib.Core.List.{List}
use mathlib.Core.Bool.{Bool, true, false, cond}
use Prim.Native.Nat.{ℕ, ◌+◌, ◌/◌, ◌≤◌, ◌<◌}
use native.Mathlib.Omega.{arith}
use borrow.Author.Tests.{le-ltb}
use lib.ListN.{length, get_or, length-set}
use lib.Seq.{get_or-set_same, get_or-set_other, set-get_or}
use Rattle.freelist.specs.declared.table.State.{State}
use Rattle.freelist.specs.declared.table.State.TheVariants.{InUse, Free, Pending, Broken}
use Rattle.freelist.specs.Table.{bit, put_bit, state_from, state_of, free_bit, pending_bit, with_number, put}
use Rattle.freelist.specs.Freelist.{ripe}
use Rattle.freelist.proofs.TableBits.{length_put_bit, bit_same, bit_other, word_other, put_own_bit, bit_store}

-- a page's state, by its two bits
pub state_bits : (t : List ℕ) (k : ℕ) (a b : Bool) → bit t k ≡ a → bit t (32768 + k) ≡ b → state_from a b (get_or t (1024 + k) 0) ≡ state_of t k
unfolding state_of
state_bits t k a b e f = rw (e, f)

length_number : (t : List ℕ) (p : ℕ) (s : State) → length (with_number t p s) ≡ length t
length_number t p InUse = refl
length_number t p Free = refl
length_number t p (Pending x) = simp length-set
length_number t p Broken = refl

pub length-put : (t : List ℕ) (p : ℕ) (s : State) → length (put t p s) ≡ length t
unfolding put
length-put t p s = length_number _ p s ∙ length_put_bit _ (32768 + p) (pending_bit s) ∙ length_put_bit t p (free_bit s)

bit_number : (t : List ℕ) (p j : ℕ) (s : State) → j < 65536 → bit (with_number t p s) j ≡ bit t j
bit_number t p j InUse l = refl
bit_number t p j Free l = refl
bit_number t p j (Pending x) l = bit_store t (1024 + p) x j (omega arith)
bit_number t p j Broken l = refl

word_number : (t : List ℕ) (p i : ℕ) (s : State) → (i ≡ 1024 + p → ⊥) → get_or (with_number t p s) i 0 ≡ get_or t i 0
word_number t p i InUse n = refl
word_number t p i Free n = refl
word_number t p i (Pending x) n = get_or-set_other t (1024 + p) i x 0 n
word_number t p i Broken n = refl

-- a state is what its two bits say, with the number that `with_number` wrote
from_own : (t : List ℕ) (p : ℕ) (s : State) → 1024 + p < length t → state_from (free_bit s) (pending_bit s) (get_or (with_number t p s) (1024 + p) 0) ≡ s
from_own t p InUse l = refl
from_own t p Free l = refl
from_own t p (Pending x) l = ap Pending (get_or-set_same t (1024 + p) x 0 l)
from_own t p Broken l = refl

abbrev put1 : List ℕ → ℕ → State → List ℕ
put1 t p s = put_bit t p (free_bit s)

abbrev put2 : List ℕ → ℕ → State → List ℕ
put2 t p s = put_bit (put1 t p s) (32768 + p) (pending_bit s)

module _ (t : List ℕ) (p : ℕ) (s : State) (long : 33792 ≤ length t) (small : p < 32768) where
  long1 : length (put1 t p s) ≡ length t
  long1 = length_put_bit t p (free_bit s)

  long2 : length (put2 t p s) ≡ length t
  long2 = length_put_bit (put1 t p s) (32768 + p) (pending_bit s) ∙ long1

  bit_put : (j : ℕ) → (p ≡ j → ⊥) → (32768 + p ≡ j → ⊥) → j < 65536 → bit (put t p s) j ≡ bit t j
  unfolding put
  bit_put j a b l =
      let e = long1 in
      bit_number (put2 t p s) p j s l ∙ bit_other (put1 t p s) (32768 + p) (pending_bit s) j b (omega arith) ∙ bit_other t p (free_bit s) j a (omega arith)

  bit_put_free : bit (put t p s) p ≡ free_bit s
  unfolding put
  bit_put_free =
      let e = long1 in
      bit_number (put2 t p s) p p s (omega arith) ∙ bit_other (put1 t p s) (32768 + p) (pending_bit s) p (λ h. omega arith) (omega arith)
      ∙ bit_same t p (free_bit s) (omega arith)

  bit_put_pending : bit (put t p s) (32768 + p) ≡ pending_bit s
  unfolding put
  bit_put_pending =
      let e = long1 in
      bit_number (put2 t p s) p (32768 + p) s (omega arith) ∙ bit_same (put1 t p s) (32768 + p) (pending_bit s) (omega arith)

  -- page p is in the state that it was given
  pub state_put : state_of (put t p s) p ≡ s
  unfolding state_of put
  state_put =
      let e = long2 in
      let h : 1024 + p < length (put2 t p s) = omega arith in
      rw (bit_put_free, bit_put_pending) (from_own (put2 t p s) p s h)

  -- a word that holds neither page p's bits nor its number is as it was
  pub word_put : (i : ℕ) → (i ≡ p / 64 → ⊥) → (i ≡ 512 + p / 64 → ⊥) → (i ≡ 1024 + p → ⊥) → get_or (put t p s) i 0 ≡ get_or t i 0
  unfolding put
  word_put i a b n =
      word_number (put2 t p s) p i s n
      ∙ word_other (put1 t p s) (32768 + p) (pending_bit s) i (λ h. b (omega arith))
      ∙ word_other t p (free_bit s) i a

  -- every other page is in the state that it was in
  pub state_put_other : (q : ℕ) → q < 32768 → (p ≡ q → ⊥) → state_of (put t p s) q ≡ state_of t q
  unfolding state_of
  state_put_other q l n =
      rw (
        bit_put q n (λ h. omega arith) (omega arith),
        bit_put (32768 + q) (λ h. omega arith) (λ h. n (omega arith)) (omega arith),
        word_put (1024 + q) (λ h. omega arith) (λ h. omega arith) (λ h. n (omega arith)),
      )

-- a page put in its own state is no change
own : (a b : Bool) (x : ℕ) → (free_bit (state_from a b x) ≡ a) × (pending_bit (state_from a b x) ≡ b)
own true true x = (refl, refl)
own true false x = (refl, refl)
own false true x = (refl, refl)
own false false x = (refl, refl)

own_number : (t : List ℕ) (p : ℕ) (a b : Bool) → with_number t p (state_from a b (get_or t (1024 + p) 0)) ≡ t
own_number t p true true = refl
own_number t p true false = refl
own_number t p false true = set-get_or t (1024 + p) 0
own_number t p false false = refl

pub put_own : (t : List ℕ) (p : ℕ) → put t p (state_of t p) ≡ t
unfolding put state_of
put_own t p =
    let x = get_or t (1024 + p) 0 in
    let o = own (bit t p) (bit t (32768 + p)) x in
    let e : put_bit t p (free_bit (state_of t p)) ≡ t = put_own_bit t p (free_bit (state_of t p)) (sym o.0) in
    let f : put_bit t (32768 + p) (pending_bit (state_of t p)) ≡ t = put_own_bit t (32768 + p) (pending_bit (state_of t p)) (sym o.1) in
    rw (e, f) (own_number t p (bit t p) (bit t (32768 + p)))

-- ---- what the code of `put_state` and `release_page` has to know

pub put_from : (t u v : List ℕ) (p : ℕ) (a b : Bool) (s : State)
    → a ≡ free_bit s → u ≡ put_bit t p a → b ≡ pending_bit s → v ≡ put_bit u (32768 + p) b → with_number v p s ≡ put t p s
unfolding put
put_from t u v p a b s ea eu eb ev = cc

-- the number of a page that is not pending stays
pub number_kept : (t : List ℕ) (p : ℕ) (s : State) → ((x : ℕ) → s ≡ Pending x → ⊥) → t ≡ with_number t p s
number_kept t p InUse n = refl
number_kept t p Free n = refl
number_kept t p (Pending x) n = absurd (n x refl)
number_kept t p Broken n = refl

module _ (x : ℕ) where
  pub ripe_kept : (s : State) (y : ℕ) → s ≡ Pending y → x ≤ y → ripe x s ≡ s
  ripe_kept s y e l = ap (ripe x) e ∙ ap (λ (b : Bool). cond b Free (Pending y)) (le-ltb y x l) ∙ sym e

  pub ripe_other : (s : State) → ((y : ℕ) → s ≡ Pending y → ⊥) → ripe x s ≡ s
  ripe_other InUse n = refl
  ripe_other Free n = refl
  ripe_other (Pending y) n = absurd (n y refl)
  ripe_other Broken n = refl

  -- a page that stays as it is is put in its own state
  pub ripe_own : (t : List ℕ) (p : ℕ) → ripe x (state_of t p) ≡ state_of t p → t ≡ put t p (ripe x (state_of t p))
  ripe_own t p e = sym (ap (put t p) e ∙ put_own t p)

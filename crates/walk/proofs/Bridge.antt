-- For code that goes by indices: the child, the entry and the key out of range, each given by what a search or a loop knows of its index.
-- Assumes nothing.
use Prim.Native.Nat.{ℕ, zero, suc, ◌+◌, ◌<◌}
use native.Mathlib.Omega.{arith}
use mathlib.Core.Path.{◌≡◌, refl, ap, ◌∙◌}
use mathlib.Core.List.{List, [], ◌∷◌}
use mathlib.Core.Bool.{true, false}
use mathlib.Core.Option.{Option, none, some}
use Rattle.walk.specs.Tree.{Key, lower, under, in_range, common_crossed, Item, keys, At, Rising, stray, first_out, next, found, absent, child_for, seek_from}
use Rattle.walk.proofs.KeyLaws.{lower_chain, lower_one_way, weak_chain, same_self, not_same, lower_not_same, rising_tail}
use Rattle.walk.specs.Sound.{ChildAt}

-- a rising list's first key is not above a later one
rising-first : (x : Item ℕ) (xs : List (Item ℕ)) (i : ℕ) (c : Item ℕ) (end : Option Key) → Rising (keys (x ∷ xs)) → ChildAt xs none i c end → lower x.key c.key ≡ true
rising-first x [] i c end r a = absurd a
rising-first x (y ∷ ys) zero c end r a = rw a.0 at r.0
rising-first x (y ∷ ys) (suc i) c end r a = lower_chain x.key y.key c.key r.0 (rising-first y ys i c end r.1 a)

-- the last separator not above the key, or the first of all
pub child_chosen : (cs : List (Item ℕ)) (key : Key) (i : ℕ) (c : Item ℕ) (end : Option Key)
    → Rising (keys cs)
    → ChildAt cs none i c end
    → (0 < i → lower key c.key ≡ false)
    → under key end ≡ true
    → child_for cs key ≡ c.value
unfolding child_for
child_chosen [] key i c end r a low high = absurd a
child_chosen (x ∷ xs) key zero c end r a low high =
    let u : under key (next xs none) ≡ true = rw a.1 high in
    rw (u, a.0)
child_chosen (x ∷ []) key (suc i) c end r a low high = absurd a
child_chosen (x ∷ y ∷ ys) key (suc i) c end r a low high =
    let u : lower key y.key ≡ false = not_under i a in
    rw u (child_chosen (y ∷ ys) key i c end r.1 a (λ p. low (omega arith)) high)
  where
    not_under : (j : ℕ) → ChildAt (y ∷ ys) none j c end → lower key y.key ≡ false
    not_under zero b = rw b.0 (low (omega arith))
    not_under (suc j) b = weak_chain y.key c.key key (lower_one_way y.key c.key (rising-first y ys j c end r.1 b)) (low (omega arith))

module _ {P : Type 0} where
  rising_at : (k : Key) (es : List (Item P)) (i : ℕ) (e : Item P) → Rising (k ∷ keys es) → At es i e → lower k e.key ≡ true
  rising_at k [] i e r a = absurd a
  rising_at k (x ∷ xs) zero e r a = rw a at r.0
  rising_at k (x ∷ xs) (suc i) e r a = lower_chain k x.key e.key r.0 (rising_at x.key xs i e r.1 a)

  pub seek_hit : (es : List (Item P)) (key : Key) (page k i : ℕ) (e : Item P)
      → Rising (keys es)
      → At es i e
      → e.key ≡ key
      → seek_from es key page k ≡ found e page (i + k)
  unfolding seek_from
  seek_hit [] key page k i e r a h = absurd a
  seek_hit (x ∷ xs) key page k zero e r a h =
      let s = same_self x.key key (ap (λ (y : Item P). y.key) a ∙ h) in
      let z : 0 + k ≡ k = omega arith in
      rw (s, z, a)
  seek_hit (x ∷ xs) key page k (suc i) e r a h =
      let s = lower_not_same x.key key (rw h at (rising_at x.key xs i e r a)) in
      let z : suc i + k ≡ i + suc k = omega arith in
      rw (s, z) (seek_hit xs key page (suc k) i e (rising_tail x.key (keys xs) r) a h)

  pub seek_miss : (es : List (Item P)) (key : Key) (page k : ℕ) → ((i : ℕ) (e : Item P) → At es i e → e.key ≡ key → ⊥) → seek_from es key page k ≡ absent
  unfolding seek_from
  seek_miss [] key page k f = refl
  seek_miss (x ∷ xs) key page k f =
      let s = not_same x.key key (f 0 x refl) in
      rw s (seek_miss xs key page (suc k) (λ i. f (suc i)))

-- the first key out of range, and none
pub first_out_lem : (low : Key) (high : Option Key) (ks : List Key) (k i : ℕ) (x : Key)
    → ((j : ℕ) (y : Key) → j < i → At ks j y → in_range low high y ≡ true)
    → At ks i x
    → in_range low high x ≡ false
    → first_out low high ks k ≡ some (stray (i + k) (common_crossed low high x))
unfolding first_out
first_out_lem low high [] k i x f a h = absurd a
first_out_lem low high (y ∷ ys) k zero x f a h =
    let u : in_range low high y ≡ false = rw a h in
    let z : 0 + k ≡ k = omega arith in
    rw (u, z, a)
first_out_lem low high (y ∷ ys) k (suc i) x f a h =
    let u = f 0 y (omega arith) refl in
    let z : suc i + k ≡ i + suc k = omega arith in
    rw (u, z) (first_out_lem low high ys (suc k) i x (λ j w l. f (suc j) w (omega arith)) a h)

pub none_out : (low : Key) (high : Option Key) (ks : List Key) (k : ℕ) → ((j : ℕ) (y : Key) → At ks j y → in_range low high y ≡ true) → first_out low high ks k ≡ none
unfolding first_out
none_out low high [] k f = refl
none_out low high (y ∷ ys) k f = rw (f 0 y refl) (none_out low high ys (suc k) (λ j w a. f (suc j) w a))

-- Lists of slots: what holds of each, membership, the order by keys, and a search from the front.
-- Assumes nothing.
use Prim.Native.Nat.{ℕ, zero, suc, ◌+◌}
use native.Mathlib.Omega.{arith}
use mathlib.Core.Path.{◌≡◌, refl, sym, subst, ap, ap₂, ◌∙◌}
use mathlib.Core.List.{List, [], ◌∷◌, ◌++◌}
use mathlib.Core.Bool.{Bool, true, false, cond}
use mathlib.Core.Logic.{◌⊎◌, inl, inr, ⊎_elim}
use lib.ListN.{length}
use Rattle.walk.specs.Tree.{Every, Key, lower, same, Item, keys, At, Rising, Answer, found, absent, seek_from}
use Rattle.walk.specs.Listing.{Mem, Slot, key_at, Sorted}
use Rattle.walk.proofs.KeyLaws.{lower_chain, lower_not, same_self, same_eq, rising_tail}

-- ---- any list
module _ {A : Type 0} where
  pub every_map : (Q R : A → Type 0) → ((x : A) → Q x → R x) → (xs : List A) → Every Q xs → Every R xs
  every_map Q R f [] h = tt
  every_map Q R f (x ∷ xs) h = (f x h.0, every_map Q R f xs h.1)

  pub every_append : (Q : A → Type 0) (xs ys : List A) → Every Q xs → Every Q ys → Every Q (xs ++ ys)
  every_append Q [] ys h k = k
  every_append Q (x ∷ xs) ys h k = (h.0, every_append Q xs ys h.1 k)

  pub every_mem : (Q : A → Type 0) (xs : List A) (x : A) → Every Q xs → Mem x xs → Q x
  every_mem Q [] x h m = absurd m
  every_mem Q (y ∷ ys) x h (inl e) = rw e h.0
  every_mem Q (y ∷ ys) x h (inr m) = every_mem Q ys x h.1 m

  pub mem_left : (x : A) (xs ys : List A) → Mem x xs → Mem x (xs ++ ys)
  mem_left x [] ys m = absurd m
  mem_left x (y ∷ xs) ys (inl e) = inl e
  mem_left x (y ∷ xs) ys (inr m) = inr (mem_left x xs ys m)

  pub mem_right : (x : A) (xs ys : List A) → Mem x ys → Mem x (xs ++ ys)
  mem_right x [] ys m = m
  mem_right x (y ∷ xs) ys m = inr (mem_right x xs ys m)

  pub mem_either : (x : A) (xs ys : List A) → Mem x (xs ++ ys) → Mem x xs ⊎ Mem x ys
  mem_either x [] ys m = inr m
  mem_either x (y ∷ xs) ys (inl e) = inl (inl e)
  mem_either x (y ∷ xs) ys (inr m) = ⊎_elim (λ k. inl (inr k)) (λ k. inr k) (mem_either x xs ys m)

-- ---- slots
module _ {P : Type 0} where
  -- the slots of a leaf's entries, from index i on
  unfoldable pub slots : ℕ → ℕ → List (Item P) → List (Slot P)
  slots p i [] = []
  slots p i (e ∷ es) = record { page = p; index = i; entry = e } ∷ slots p (suc i) es

  -- the search from the front
  unfoldable pub seek : List (Slot P) → Key → Answer P
  seek [] key = absent
  seek (s ∷ L) key = cond (same (key_at s) key) (found s.entry s.page s.index) (seek L key)

  pub length_slots : (p i : ℕ) (es : List (Item P)) → length (slots p i es) ≡ length es
  unfolding slots
  length_slots p i [] = refl
  length_slots p i (e ∷ es) = ap suc (length_slots p (suc i) es)

  pub seek_slots : (es : List (Item P)) (key : Key) (p i : ℕ) → seek_from es key p i ≡ seek (slots p i es) key
  unfolding slots seek seek_from
  seek_slots [] key p i = refl
  seek_slots (e ∷ es) key p i = ap (cond (same e.key key) (found e p i)) (seek_slots es key p (suc i))

  -- a search goes past what has another key
  pub seek_past : (L M : List (Slot P)) (key : Key) → Every (λ s. same (key_at s) key ≡ false) L → seek (L ++ M) key ≡ seek M key
  unfolding seek
  seek_past [] M key h = refl
  seek_past (s ∷ L) M key h = rw h.0 (seek_past L M key h.1)

  seek_none : (M : List (Slot P)) (key : Key) → Every (λ s. same (key_at s) key ≡ false) M → seek M key ≡ absent
  unfolding seek
  seek_none [] key h = refl
  seek_none (s ∷ M) key h = rw h.0 (seek_none M key h.1)

  pub seek_within : (L M : List (Slot P)) (key : Key) → Every (λ s. same (key_at s) key ≡ false) M → seek (L ++ M) key ≡ seek L key
  unfolding seek
  seek_within [] M key h = seek_none M key h
  seek_within (s ∷ L) M key h = ap (cond (same (key_at s) key) (found s.entry s.page s.index)) (seek_within L M key h)

  -- what the search answers
  pub data Sought (L : List (Slot P)) (key : Key) : Answer P → Type 0 where
    hit : (s : Slot P) → Mem s L → key_at s ≡ key → Sought L key (found s.entry s.page s.index)
    miss : ((s : Slot P) → Mem s L → key_at s ≡ key → ⊥) → Sought L key absent

  pub sought : (L : List (Slot P)) (key : Key) → Sought L key (seek L key)
  unfolding seek
  sought [] key = miss (λ s m e. m)
  sought (s ∷ L) key = go (same (key_at s) key) refl (sought L key)
    where
      grow : (a : Answer P) → (key_at s ≡ key → ⊥) → Sought L key a → Sought (s ∷ L) key a
      grow a f (hit u m e) = hit u (inr m) e
      grow a f (miss g) = miss (λ u m e. ⊎_elim (λ q. f (ap key_at (sym q) ∙ e)) (λ q. g u q e) m)

      go : (t : Bool)
          → same (key_at s) key ≡ t
          → Sought L key (seek L key)
          → Sought (s ∷ L) key (cond t (found s.entry s.page s.index) (seek L key))
      go true e r = hit s (inl refl) (same_eq (key_at s) key e)
      go false e r =
          grow (seek L key) (λ q. let y = same_self (key_at s) key q in let z : ◌≡◌ {A = ℕ} 0 1 = cc in omega arith) r

  -- sorted slots with one key are one slot
  pub sorted_one : (L : List (Slot P)) (s u : Slot P) → Sorted L → Mem s L → Mem u L → key_at s ≡ key_at u → s ≡ u
  sorted_one [] s u h m k e = absurd m
  sorted_one (x ∷ L) s u h (inl m) (inl k) e = m ∙ sym k
  sorted_one (x ∷ L) s u h (inl m) (inr k) e =
      absurd
      (let p = every_mem (λ u. lower (key_at x) (key_at u) ≡ true) L u h.0 k in
      let q : key_at x ≡ key_at u = ap key_at (sym m) ∙ e in
      let r = lower_not (key_at u) in
      let z : ◌≡◌ {A = ℕ} 0 1 = cc in
      omega arith)
  sorted_one (x ∷ L) s u h (inr m) (inl k) e =
      absurd
      (let p = every_mem (λ u. lower (key_at x) (key_at u) ≡ true) L s h.0 m in
      let q : key_at x ≡ key_at s = ap key_at (sym k) ∙ sym e in
      let r = lower_not (key_at s) in
      let z : ◌≡◌ {A = ℕ} 0 1 = cc in
      omega arith)
  sorted_one (x ∷ L) s u h (inr m) (inr k) e = sorted_one L s u h.1 m k e

  pub sorted_append : (L M : List (Slot P)) → Sorted L → Sorted M → Every (λ s. Every (λ u. lower (key_at s) (key_at u) ≡ true) M) L → Sorted (L ++ M)
  sorted_append [] M h k b = k
  sorted_append (s ∷ L) M h k b =
      (every_append (λ u. lower (key_at s) (key_at u) ≡ true) L M h.0 b.0, sorted_append L M h.1 k b.1)

  -- a leaf whose keys rise
  slots_above : (k : Key) (es : List (Item P)) (p i : ℕ) → Rising (k ∷ keys es) → Every (λ u. lower k (key_at u) ≡ true) (slots p i es)
  unfolding slots
  slots_above k [] p i r = tt
  slots_above k (e ∷ es) p i r = (
    r.0,
    every_map
        (λ u. lower e.key (key_at u) ≡ true)
        (λ u. lower k (key_at u) ≡ true)
        (λ u q. lower_chain k e.key (key_at u) r.0 q)
        (slots p (suc i) es)
        (slots_above e.key es p (suc i) r.1),
  )

  pub slots_sorted : (es : List (Item P)) (p i : ℕ) → Rising (keys es) → Sorted (slots p i es)
  unfolding slots
  slots_sorted [] p i r = tt
  slots_sorted (e ∷ es) p i r = (slots_above e.key es p (suc i) r, slots_sorted es p (suc i) (rising_tail e.key (keys es) r))

  -- a leaf's slots are its entries
  pub slot_at : (es : List (Item P)) (p i : ℕ) (s : Slot P) → Mem s (slots p i es) → (j : ℕ) × (s.page ≡ p) × (s.index ≡ j + i) × At es j s.entry
  unfolding slots
  slot_at [] p i s m = absurd m
  slot_at (e ∷ es) p i s (inl m) =
      (0, ap (λ (u : Slot P). u.page) m, (let q : s.index ≡ i = ap (λ (u : Slot P). u.index) m in omega arith), sym (ap (λ (u : Slot P). u.entry) m))
  slot_at (e ∷ es) p i s (inr m) =
      let r = slot_at es p (suc i) s m in
      (suc r.0, r.1, (let q = r.2 in omega arith), r.3)

  pub at_slot : (es : List (Item P)) (p i j : ℕ) (e : Item P) → At es j e → Mem (record { page = p; index = j + i; entry = e }) (slots p i es)
  unfolding slots
  at_slot [] p i j e a = absurd a
  at_slot (x ∷ es) p i zero e a =
      let q : zero + i ≡ i = omega arith in
      inl (ap₂ (λ (k : ℕ) (u : Item P). record { page = p; index = k; entry = u }) q (sym a))
  at_slot (x ∷ es) p i (suc j) e a =
      let q : suc j + i ≡ j + suc i = omega arith in
      inr (subst (λ (k : ℕ). Mem (record { page = p; index = k; entry = e }) (slots p (suc i) es)) (sym q) (at_slot es p (suc i) j e a))

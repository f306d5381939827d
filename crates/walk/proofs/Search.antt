-- In a tree whose walk passes: all leaf keys lie within the range, the leaf entries in order are sorted, and a lookup is a search of them all from the front.
-- Assumes what a page's own check has seen to, `Checked`.
use Prim.Native.Nat.{ℕ, suc}
use native.Mathlib.Omega.{arith}
use mathlib.Core.Path.{◌≡◌, refl, sym, ◌∙◌}
use mathlib.Core.List.{List, [], ◌∷◌, ◌++◌}
use mathlib.Core.Bool.{Bool, true, false, cond}
use mathlib.Core.Option.{Option, none, some}
use Rattle.walk.specs.Tree.{Every, Key, lower, same, under, in_range, common_crossed, Item, View, branch, leaf, keys, Rising, inside, stray, first_out, next, Answer, child_for, look_page, lookup, Checked}
use Rattle.walk.proofs.KeyLaws.{range_low, range_high, range_both, weak_chain, high_chain, under_chain, under_next, under_open, under_past, under_some, rising_tail, lower_not_same, higher_not_same}
use Rattle.walk.specs.Listing.{Slot, key_at, Sorted}
use Rattle.walk.proofs.Slots.{every_map, every_append, slots, seek, seek_slots, seek_past, seek_within, slots_sorted, sorted_append}
use Rattle.walk.proofs.Walked.{Walked, WalkedAll, at_leaf, at_branch, done, more}

-- ---- no key out of range
abbrev pub In : Key → Option Key → Key → Type 0
In low high k = in_range low high k ≡ true

pub all_in : (low : Key) (high : Option Key) (ks : List Key) (i : ℕ) → first_out low high ks i ≡ none → Every (In low high) ks
unfolding first_out
all_in low high [] i e = tt
all_in low high (k ∷ ks) i e = go (in_range low high k) refl e (all_in low high ks (suc i))
  where
    go : (b : Bool)
        → in_range low high k ≡ b
        → cond b (first_out low high ks (suc i)) (some (stray i (common_crossed low high k))) ≡ none
        → (first_out low high ks (suc i) ≡ none → Every (In low high) ks)
        → Every (In low high) (k ∷ ks)
    go true q f rest = (q, rest f)
    go false q f rest = absurd (let z : ◌≡◌ {A = ℕ} 0 1 = cc in omega arith)

-- a child's range lies within the branch's
narrow : (low : Key) (high : Option Key) (c : Item ℕ) (cs : List (Item ℕ)) → Every (In low high) (keys (c ∷ cs)) → (k : Key) → In c.key (next cs high) k → In low high k
narrow low high c [] h k e =
    range_both low high k
    (weak_chain low c.key k (range_low low high c.key h.0) (range_low c.key high k e))
    (range_high c.key high k e)
narrow low high c (d ∷ cs) h k e =
    range_both low high k
    (weak_chain low c.key k (range_low low high c.key h.0) (range_low c.key (some d.key) k e))
    (under_chain k d.key high (range_high c.key (some d.key) k e) (range_high low high d.key h.1.0))

module _ {P : Type 0} where
  slots_in : (low : Key) (high : Option Key) (es : List (Item P)) (p i : ℕ) → Every (In low high) (keys es) → Every (λ s. In low high (key_at s)) (slots p i es)
  unfolding slots
  slots_in low high [] p i h = tt
  slots_in low high (e ∷ es) p i h = (h.0, slots_in low high es p (suc i) h.1)

  -- the child for a key: a search of its entries is a search of all children's
  at_child : (look : ℕ → Answer P) (key : Key) (c : Item ℕ) (cs : List (Item ℕ)) (high : Option Key) (L M : List (Slot P))
      → look c.value ≡ seek L key
      → ((cs ≡ [] → ⊥) → look (child_for cs key) ≡ seek M key)
      → Every (λ s. In c.key (next cs high) (key_at s)) L
      → (under key (next cs none) ≡ true → Every (λ s. lower key (key_at s) ≡ true) M)
      → look (child_for (c ∷ cs) key) ≡ seek (L ++ M) key
  unfolding child_for
  at_child look key c cs high L M this rest within after = go (under key (next cs none)) refl
    where
      go : (b : Bool) → under key (next cs none) ≡ b → look (cond b c.value (child_for cs key)) ≡ seek (L ++ M) key
      go true e =
          this
          ∙ sym
          (seek_within L M key
          (every_map
          (λ s. lower key (key_at s) ≡ true)
          (λ s. same (key_at s) key ≡ false)
          (λ s h. higher_not_same (key_at s) key h)
          M
          (after e)))
      go false e =
          rest (under_some key cs e)
          ∙ sym
          (seek_past L M key
          (every_map
          (λ s. In c.key (next cs high) (key_at s))
          (λ s. same (key_at s) key ≡ false)
          (λ s h. lower_not_same (key_at s) key (under_past (key_at s) key high cs (range_high c.key (next cs high) (key_at s) h) e))
          L
          within))

-- a lookup goes by the view of a page within bounds
pub lookup_at : {P : Type 0} (N : ℕ) (view : ℕ → Bool → View P) (d : ℕ) (t : Bool) (p : ℕ) (key : Key) (v : View P)
    → inside N p ≡ true
    → view p t ≡ v
    → lookup N view (suc d) t p key ≡ look_page (λ q. lookup N view d false q key) v p key
unfolding lookup
lookup_at N view d t p key v i f = rw (i, f)

module _ {P : Type 0} (N : ℕ) (block : ℕ → List ℕ) (view : ℕ → Bool → View P) where
  mutual
    pub ranged : {d : ℕ} {t : Bool} {p : ℕ} {low : Key} {high : Option Key} {vs : List ℕ} {L : List (Slot P)} {ws : List ℕ}
        → Walked N block view d t p low high vs L ws
        → Every (λ s. In low high (key_at s)) L
    ranged (at_leaf {p = p} {low = low} {high = high} {es = es} i m f o q g) = rw q (slots_in low high es p 0 (all_in low high (keys es) 0 o))
    ranged (at_branch {low = low} {high = high} {cs = cs} i m f o w) = ranged_all low (all_in low high (keys cs) 0 o) w

    ranged_all : {d : ℕ} {cs : List (Item ℕ)} {high : Option Key} {vs : List ℕ} {L : List (Slot P)} {ws : List ℕ} (low : Key)
        → Every (In low high) (keys cs)
        → WalkedAll N block view d cs high vs L ws
        → Every (λ s. In low high (key_at s)) L
    ranged_all low h done = tt
    ranged_all low h (more {c = c} {cs = cs} {high = high} {L = L} {M = M} w ws q) =
        rw q
        (every_append (λ s. In low high (key_at s)) L M
        (every_map (λ s. In c.key (next cs high) (key_at s)) (λ s. In low high (key_at s)) (λ s. narrow low high c cs h (key_at s)) L (ranged w))
        (ranged_all low h.1 ws))

  -- a key below the first separator is below all leaf keys
  past : {d : ℕ} {cs : List (Item ℕ)} {high : Option Key} {vs : List ℕ} {L : List (Slot P)} {ws : List ℕ} (key : Key)
      → Rising (keys cs)
      → under key (next cs none) ≡ true
      → WalkedAll N block view d cs high vs L ws
      → Every (λ s. lower key (key_at s) ≡ true) L
  past key r h done = tt
  past key r h (more {c = c} {cs = cs} {high = high} {L = L} {M = M} w ws q) =
      rw q
      (every_append (λ s. lower key (key_at s) ≡ true) L M
      (every_map
      (λ s. In c.key (next cs high) (key_at s))
      (λ s. lower key (key_at s) ≡ true)
      (λ s e. high_chain key c.key (key_at s) h (range_low c.key (next cs high) (key_at s) e))
      L
      (ranged w))
      (past key (rising_tail c.key (keys cs) r) (under_next key c cs r h) ws))

  -- ---- the leaf entries in order are sorted
  module _ (checked : Checked view) where
    mutual
      pub sorted : {d : ℕ} {t : Bool} {p : ℕ} {low : Key} {high : Option Key} {vs : List ℕ} {L : List (Slot P)} {ws : List ℕ}
          → Walked N block view d t p low high vs L ws
          → Sorted L
      sorted (at_leaf {t = t} {p = p} {es = es} i m f o q g) = rw q (slots_sorted es p 0 (checked.leaves p t es f))
      sorted (at_branch {t = t} {p = p} {cs = cs} i m f o w) = sorted_all (checked.branches p t cs f).1 w

      sorted_all : {d : ℕ} {cs : List (Item ℕ)} {high : Option Key} {vs : List ℕ} {L : List (Slot P)} {ws : List ℕ}
          → Rising (keys cs)
          → WalkedAll N block view d cs high vs L ws
          → Sorted L
      sorted_all r done = tt
      sorted_all r (more {c = c} {cs = cs} {high = high} {L = L} {M = M} w ws q) =
          rw q
          (sorted_append L M (sorted w) (sorted_all (rising_tail c.key (keys cs) r) ws)
          (every_map
          (λ s. In c.key (next cs high) (key_at s))
          (λ s. Every (λ u. lower (key_at s) (key_at u) ≡ true) M)
          (λ s e.
          past (key_at s) (rising_tail c.key (keys cs) r)
          (under_open (key_at s) high cs (range_high c.key (next cs high) (key_at s) e))
          ws)
          L
          (ranged w)))

  -- ---- a lookup is a search of all leaf entries
  module _ (checked : Checked view) (key : Key) where
    mutual
      unfolding look_page

      pub searched : {d : ℕ} {t : Bool} {p : ℕ} {low : Key} {high : Option Key} {vs : List ℕ} {L : List (Slot P)} {ws : List ℕ}
          → Walked N block view d t p low high vs L ws
          → lookup N view d t p key ≡ seek L key
      searched (at_leaf {d = d} {t = t} {p = p} {es = es} i m f o q g) = lookup_at N view d t p key (leaf es) i f ∙ rw q (seek_slots es key p 0)
      searched (at_branch {d = d} {t = t} {p = p} {cs = cs} i m f o w) =
          lookup_at N view d t p key (branch cs) i f ∙ searched_all (checked.branches p t cs f).0 (checked.branches p t cs f).1 w

      searched_all : {d : ℕ} {cs : List (Item ℕ)} {high : Option Key} {vs : List ℕ} {L : List (Slot P)} {ws : List ℕ}
          → (cs ≡ [] → ⊥)
          → Rising (keys cs)
          → WalkedAll N block view d cs high vs L ws
          → lookup N view d false (child_for cs key) key ≡ seek L key
      searched_all f r done = absurd (f refl)
      searched_all f r (more {d = d} {c = c} {cs = cs} {high = high} {L = L} {M = M} w ws q) =
          let s = rising_tail c.key (keys cs) r in
          rw q
          (at_child (λ p. lookup N view d false p key) key c cs high L M (searched w) (λ g. searched_all g s ws) (ranged w) (λ e. past key s e ws))

-- The laws of `lower` and `same`, and of ranges of keys. Assumes nothing.
use Prim.Native.Nat.{ℕ}
use native.Mathlib.Omega.{arith}
use mathlib.Core.Path.{◌≡◌, refl, ap, ◌∙◌}
use mathlib.Core.List.{List, [], ◌∷◌}
use mathlib.Core.Bool.{Bool, true, false, not, ◌&&◌}
use mathlib.Core.Option.{Option, none, some}
use Rattle.std.specs.declared.cmp.Ordering.{Ordering}
use Rattle.std.specs.declared.cmp.Ordering.TheVariants.{Less, Equal, Greater}
use Rattle.field.specs.Order.{order_of}
use Rattle.field.proofs.OrderLaws.{is_lt_lem, is_eq_lem, order_refl, order_equal, order_flip, flip, lower_trans}
use Rattle.walk.specs.Tree.{Key, lower, same, under, in_range, Item, next, keys, Rising}

pub lower_order : (a b : Key) → lower a b ≡ true → order_of a b ≡ Less
unfolding lower
lower_order a b = is_lt_lem (order_of a b)

pub order_lower : (a b : Key) → order_of a b ≡ Less → lower a b ≡ true
unfolding lower
order_lower a b e = rw e

pub lower_chain : (a b c : Key) → lower a b ≡ true → lower b c ≡ true → lower a c ≡ true
lower_chain a b c p q = order_lower a c (lower_trans a b c (lower_order a b p) (lower_order b c q))

-- two keys are equal, or one is below the other
pub data Stand (a b : Key) : Type 0 where
  less : lower a b ≡ true → Stand a b
  alike : a ≡ b → Stand a b
  over : lower b a ≡ true → Stand a b

pub stand : (a b : Key) → Stand a b
stand a b = go (order_of a b) refl
  where
    go : (o : Ordering) → order_of a b ≡ o → Stand a b
    go Less e = less (order_lower a b e)
    go Equal e = alike (order_equal a b e)
    go Greater e = over (order_lower b a (order_flip a b ∙ ap flip e))

pub lower_not : (a : Key) → lower a a ≡ false
unfolding lower
lower_not a = rw (order_refl a)

pub lower_one_way : (a b : Key) → lower a b ≡ true → lower b a ≡ false
lower_one_way a b p = go (lower b a) refl
  where
    go : (t : Bool) → lower b a ≡ t → t ≡ false
    go false e = refl
    go true e = let n = lower_not a in let y = lower_chain a b a p e in cc

-- a ≤ b < c
pub low_chain : (a b c : Key) → lower b a ≡ false → lower b c ≡ true → lower a c ≡ true
low_chain a b c p q = go (stand a b)
  where
    go : Stand a b → lower a c ≡ true
    go (less h) = lower_chain a b c h q
    go (alike h) = rw h q
    go (over h) = cc

-- a < b ≤ c
pub high_chain : (a b c : Key) → lower a b ≡ true → lower c b ≡ false → lower a c ≡ true
high_chain a b c p q = go (stand b c)
  where
    go : Stand b c → lower a c ≡ true
    go (less h) = lower_chain a b c p h
    go (alike h) = rw h at p
    go (over h) = cc

-- a ≤ b ≤ c
pub weak_chain : (a b c : Key) → lower b a ≡ false → lower c b ≡ false → lower c a ≡ false
weak_chain a b c p q = go (lower c a) refl
  where
    go : (t : Bool) → lower c a ≡ t → t ≡ false
    go false e = refl
    go true e = let y = low_chain b c a q e in cc

-- ---- same
pub same_self : (a b : Key) → a ≡ b → same a b ≡ true
unfolding same
same_self a b e = rw (e, order_refl b)

pub same_eq : (a b : Key) → same a b ≡ true → a ≡ b
unfolding same
same_eq a b e = order_equal a b (is_eq_lem (order_of a b) e)

pub not_same : (a b : Key) → (a ≡ b → ⊥) → same a b ≡ false
not_same a b f = go (same a b) refl
  where
    go : (t : Bool) → same a b ≡ t → t ≡ false
    go false e = refl
    go true e = absurd (f (same_eq a b e))

pub lower_not_same : (a b : Key) → lower a b ≡ true → same a b ≡ false
lower_not_same a b p = not_same a b (λ e. let n = lower_not b in let q = rw e at p in let z : ◌≡◌ {A = ℕ} 0 1 = cc in omega arith)

pub higher_not_same : (a b : Key) → lower b a ≡ true → same a b ≡ false
higher_not_same a b p = not_same a b (λ e. let n = lower_not b in let q = rw e at p in let z : ◌≡◌ {A = ℕ} 0 1 = cc in omega arith)

-- ---- ranges
pub and_left : (a b : Bool) → a && b ≡ true → a ≡ true
and_left true b e = refl
and_left false b e = e

pub and_right : (a b : Bool) → a && b ≡ true → b ≡ true
and_right true b e = e
and_right false b e = cc

pub not-true : (a : Bool) → not a ≡ true → a ≡ false
not-true true e = cc
not-true false e = refl

pub range_low : (low : Key) (high : Option Key) (k : Key) → in_range low high k ≡ true → lower k low ≡ false
range_low low high k e = not-true (lower k low) (and_left (not (lower k low)) (under k high) e)

pub range_high : (low : Key) (high : Option Key) (k : Key) → in_range low high k ≡ true → under k high ≡ true
range_high low high k e = and_right (not (lower k low)) (under k high) e

pub range_both : (low : Key) (high : Option Key) (k : Key) → lower k low ≡ false → under k high ≡ true → in_range low high k ≡ true
range_both low high k p q = rw (p, q)

pub under_chain : (a b : Key) (high : Option Key) → lower a b ≡ true → under b high ≡ true → under a high ≡ true
under_chain a b none p q = refl
under_chain a b (some h) p q = lower_chain a b h p q

pub rising_tail : (k : Key) (ks : List Key) → Rising (k ∷ ks) → Rising ks
rising_tail k [] r = tt
rising_tail k (j ∷ ks) r = r.1

-- ---- the separators of a branch
-- a key below a separator is below the next one
pub under_next : (k : Key) (c : Item ℕ) (cs : List (Item ℕ)) → Rising (keys (c ∷ cs)) → lower k c.key ≡ true → under k (next cs none) ≡ true
under_next k c [] r h = refl
under_next k c (d ∷ cs) r h = lower_chain k c.key d.key h r.0

-- a key below the end of a child's range is below the next separator, if there is one
pub under_open : (k : Key) (high : Option Key) (cs : List (Item ℕ)) → under k (next cs high) ≡ true → under k (next cs none) ≡ true
under_open k high [] h = refl
under_open k high (c ∷ cs) h = h

-- and below any key that is not below that separator
pub under_past : (k key : Key) (high : Option Key) (cs : List (Item ℕ)) → under k (next cs high) ≡ true → under key (next cs none) ≡ false → lower k key ≡ true
under_past k key high [] h e = cc
under_past k key high (c ∷ cs) h e = high_chain k c.key key h e

pub under_some : (key : Key) (cs : List (Item ℕ)) → under key (next cs none) ≡ false → cs ≡ [] → ⊥
under_some key [] e q = let z : ◌≡◌ {A = ℕ} 0 1 = cc in omega arith
under_some key (c ∷ cs) e q = let z : ◌≡◌ {A = ℕ} 0 1 = cc in omega arith

-- Pages in lists: membership, the first page of one list that is in another, and lists with no page twice, where lists are joined.
-- Assumes nothing.
use Prim.Native.Nat.{ℕ}
use native.Mathlib.Omega.{arith}
use mathlib.Core.Path.{◌≡◌, refl, sym, ◌∙◌}
use mathlib.Core.List.{List, [], ◌∷◌, ◌++◌}
use mathlib.Core.Bool.{Bool, true, false, ◌||◌, cond}
use mathlib.Core.Option.{none, some}
use mathlib.Core.Logic.{◌⊎◌, inl, inr}
use lib.Dec.{eqb}
use borrow.Author.Tests.{eqb-true, eq-eqb}
use Rattle.walk.specs.Tree.{memb, Distinct, first_in}

-- ---- membership
pub memb_head : (p : ℕ) (vs : List ℕ) → memb p (p ∷ vs) ≡ true
memb_head p vs = rw (eq-eqb p p refl)

pub memb_tail : (q p : ℕ) (vs : List ℕ) → memb q vs ≡ true → memb q (p ∷ vs) ≡ true
memb_tail q p vs e = go (eqb q p)
  where
    go : (b : Bool) → b || memb q vs ≡ true
    go true = refl
    go false = e

pub memb_cases : (q p : ℕ) (vs : List ℕ) → memb q (p ∷ vs) ≡ true → (q ≡ p) ⊎ (memb q vs ≡ true)
memb_cases q p vs e = go (eqb q p) refl e
  where
    go : (b : Bool) → eqb q p ≡ b → b || memb q vs ≡ true → (q ≡ p) ⊎ (memb q vs ≡ true)
    go true f g = inl (eqb-true q p f)
    go false f g = inr g

-- ---- of lists joined
pub memb_append : (k : ℕ) (xs ys : List ℕ) → memb k (xs ++ ys) ≡ (memb k xs || memb k ys)
memb_append k [] ys = refl
memb_append k (x ∷ xs) ys = go (eqb k x) (memb_append k xs ys)
  where
    go : (b : Bool) → memb k (xs ++ ys) ≡ (memb k xs || memb k ys) → (b || memb k (xs ++ ys)) ≡ ((b || memb k xs) || memb k ys)
    go true rest = refl
    go false rest = rest

pub memb_left : (k : ℕ) (xs ys : List ℕ) → memb k xs ≡ true → memb k (xs ++ ys) ≡ true
memb_left k xs ys e = rw (memb_append k xs ys, e)

pub memb_right : (k : ℕ) (xs ys : List ℕ) → memb k ys ≡ true → memb k (xs ++ ys) ≡ true
memb_right k xs ys e = memb_append k xs ys ∙ go (memb k xs)
  where
    go : (b : Bool) → b || memb k ys ≡ true
    go true = refl
    go false = e

pub memb_either : (k : ℕ) (xs ys : List ℕ) → memb k (xs ++ ys) ≡ true → (memb k xs ≡ true) ⊎ (memb k ys ≡ true)
memb_either k xs ys e = go (memb k xs) (sym (memb_append k xs ys) ∙ e)
  where
    go : (b : Bool) → b || memb k ys ≡ true → (b ≡ true) ⊎ (memb k ys ≡ true)
    go true f = inl refl
    go false f = inr f

pub memb_neither : (k : ℕ) (xs ys : List ℕ) → memb k xs ≡ false → memb k ys ≡ false → memb k (xs ++ ys) ≡ false
memb_neither k xs ys e f = rw (memb_append k xs ys, e, f)

-- ---- no page of one list is in the other
pub first-none : (ps vs : List ℕ) → first_in ps vs ≡ none → (k : ℕ) → memb k ps ≡ true → memb k vs ≡ false
unfolding first_in
first-none [] vs e k h = absurd (let z : ◌≡◌ {A = ℕ} 0 1 = cc in omega arith)
first-none (p ∷ ps) vs e k h = go (memb p vs) refl e (memb_cases k p ps h) (first-none ps vs)
  where
    go : (b : Bool)
        → memb p vs ≡ b
        → cond b (some p) (first_in ps vs) ≡ none
        → (k ≡ p) ⊎ (memb k ps ≡ true)
        → (first_in ps vs ≡ none → (k : ℕ) → memb k ps ≡ true → memb k vs ≡ false)
        → memb k vs ≡ false
    go true f g c rest = absurd (let z : ◌≡◌ {A = ℕ} 0 1 = cc in omega arith)
    go false f g (inl q) rest = rw q f
    go false f g (inr q) rest = rest g k q

pub none_first : (ps vs : List ℕ) → ((k : ℕ) → memb k ps ≡ true → memb k vs ≡ false) → first_in ps vs ≡ none
unfolding first_in
none_first [] vs h = refl
none_first (p ∷ ps) vs h = rw (h p (memb_head p ps)) (none_first ps vs (λ k e. h k (memb_tail k p ps e)))

-- then none is twice where they are joined
pub distinct_append : (ps vs : List ℕ) → first_in ps vs ≡ none → Distinct ps → Distinct vs → Distinct (ps ++ vs)
distinct_append ps vs e = go ps (first-none ps vs e)
  where
    go : (qs : List ℕ) → ((k : ℕ) → memb k qs ≡ true → memb k vs ≡ false) → Distinct qs → Distinct vs → Distinct (qs ++ vs)
    go [] h c d = d
    go (q ∷ qs) h c d = (memb_neither q qs vs c.0 (h q (memb_head q qs)), go qs (λ k e. h k (memb_tail k q qs e)) c.1 d)

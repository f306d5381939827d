-- Where halving comes out, for any block: what it finds is an element that it has judged (`found_judged`), and the place that it tells, where there are
-- elements, is one of theirs (`place_below`). Its turns are taken apart once (`halve_by`).
-- Assumes nothing.
use mathlib.Core.Path.{◌≡◌, refl, sym, ap}
use mathlib.Core.Bool.{Bool, true, false, cond}
use mathlib.Core.List.{List}
use Prim.Native.Nat.{ℕ, zero, suc, ◌+◌, ◌-◌, ◌≤◌, ◌<◌}
use native.Mathlib.Omega.{arith}
use borrow.Author.Tests.{ltb-true, ltb-false}
use lib.Dec.{ltb}
use Rattle.std.specs.declared.cmp.Ordering.{Ordering}
use Rattle.std.specs.declared.cmp.Ordering.TheVariants.{Less, Equal, Greater}
use Rattle.field.specs.Order.{order_of}
use Rattle.page.specs.declared.search.Place.{Place}
use Rattle.page.specs.Layout.{count_of, key_of}
use Rattle.page.specs.PageRules.{element_bad}
use Rattle.quick.specs.Halving.{Halved, here, before, middle, by_order, halve, halves_of}
use Rattle.std.specs.Prelude.{Ok, Err}

-- ---- a claim on the turns left, low, high and what halving comes to: it holds of all halving if it holds at the end, at a breach and at the key, and if a turn
-- keeps it
module _ (leaf : Bool) (b key : List ℕ) (Q : ℕ → ℕ → ℕ → Halved → Type 0)
    (ends : (turns low high : ℕ) → (high - low ≤ turns → high ≤ low) → Q turns low high (Ok (before low)))
    (breaks : (turns low high : ℕ) → low < high → element_bad leaf b (middle low high) ≡ true → Q turns low high (Err (middle low high)))
    (finds : (turns low high : ℕ) → low < high → element_bad leaf b (middle low high) ≡ false → order_of (key_of leaf b (middle low high)) key ≡ Equal
    → Q turns low high (Ok (here (middle low high))))
    (above : (turns low high : ℕ) (x : Halved) → low < high → order_of (key_of leaf b (middle low high)) key ≡ Less
    → Q turns (middle low high + 1) high x → Q (suc turns) low high x)
    (below : (turns low high : ℕ) (x : Halved) → low < high → order_of (key_of leaf b (middle low high)) key ≡ Greater
    → Q turns low (middle low high) x → Q (suc turns) low high x)
  where
    -- it holds of what halving comes to in so many turns
    pub halve_by : (turns low high : ℕ) → Q turns low high (halve leaf b key turns low high)
    unfolding halve
    halve_by zero low high = ends zero low high (λ l. omega arith)
    halve_by (suc turns) low high =
        go (ltb low high) refl (element_bad leaf b (middle low high)) refl (order_of (key_of leaf b (middle low high)) key) refl
        _ _ (halve_by turns (middle low high + 1) high) (halve_by turns low (middle low high))
      where
        go : (l : Bool) → ltb low high ≡ l → (t : Bool) → element_bad leaf b (middle low high) ≡ t
            → (o : Ordering) → order_of (key_of leaf b (middle low high)) key ≡ o → (x y : Halved)
            → Q turns (middle low high + 1) high x → Q turns low (middle low high) y
            → Q (suc turns) low high (cond l (cond t (Err (middle low high)) (by_order o x (Ok (here (middle low high))) y)) (Ok (before low)))
        go false l t u o r x y f g = ends (suc turns) low high (λ m. ltb-false low high l)
        go true l true u o r x y f g = breaks (suc turns) low high (ltb-true low high l) u
        go true l false u Less r x y f g = above turns low high x (ltb-true low high l) r f
        go true l false u Equal r x y f g = finds (suc turns) low high (ltb-true low high l) u r
        go true l false u Greater r x y f g = below turns low high y (ltb-true low high l) r g

module _ (leaf : Bool) (b key : List ℕ) where
  -- what is found between low and high is below high, and keeps rule 6
  pub halve_found : (turns low high : ℕ) (p : Place) → halve leaf b key turns low high ≡ Ok p → p.found ≡ true → (p.at < high) × (element_bad leaf b p.at ≡ false)
  halve_found turns low high p =
      halve_by leaf b key (λ n l h x. x ≡ Ok p → p.found ≡ true → (p.at < h) × (element_bad leaf b p.at ≡ false))
      (λ n l h m e f. absurd (let o : p ≡ before l = cc in let g : p.found ≡ false = ap (λ (y : Place). y.found) o in cc))
      (λ n l h m u e f. absurd cc)
      (λ n l h m u r e f. let o : here (middle l h) ≡ p = cc in rw (sym o) (omega arith, u))
      (λ n l h x m r f e g. f e g)
      (λ n l h x m r f e g. let k = f e g in (omega arith, k.1))
      turns low high

  -- the place that is told is 0 or before high
  pub halve_place : (turns low high : ℕ) (p : Place) → low ≤ high → halve leaf b key turns low high ≡ Ok p → p.at ≤ high - 1
  halve_place turns low high p =
      halve_by leaf b key (λ n l h x. l ≤ h → x ≡ Ok p → p.at ≤ h - 1)
      (λ n l h m o e. let s : before l ≡ p = cc in rw (sym s) (omega arith))
      (λ n l h m u o e. absurd cc)
      (λ n l h m u r o e. let s : here (middle l h) ≡ p = cc in rw (sym s) (omega arith))
      (λ n l h x m r f o e. f (omega arith) e)
      (λ n l h x m r f o e. let g = f (omega arith) e in omega arith)
      turns low high

  -- what is found is one of the block's elements, and keeps rule 6
  pub found_judged : (p : Place) → halves_of leaf b key ≡ Ok p → p.found ≡ true → (p.at < count_of b) × (element_bad leaf b p.at ≡ false)
  unfolding halves_of
  found_judged p e f = halve_found (count_of b) 0 (count_of b) p e f

  -- the place that is told, where there are elements, is one of theirs
  pub place_below : (p : Place) → 0 < count_of b → halves_of leaf b key ≡ Ok p → p.at < count_of b
  unfolding halves_of
  place_below p l e = let h = halve_place (count_of b) 0 (count_of b) p (omega arith) e in omega arith

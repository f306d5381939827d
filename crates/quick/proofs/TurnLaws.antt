-- Halving, turn by turn: as many turns as the gap are enough, and what one look at the middle leaves to be halved.
-- Assumes nothing.
use mathlib.Core.Path.{◌≡◌, refl, ◌∙◌}
use mathlib.Core.Bool.{Bool, true, false, cond}
use mathlib.Core.List.{List}
use Prim.Native.Nat.{ℕ, zero, suc, ◌+◌, ◌-◌, ◌/◌, ◌≤◌, ◌<◌}
use native.Mathlib.Nat.{sub-zero}
use native.Mathlib.Omega.{arith}
use borrow.Author.Tests.{ltb-true, lt-ltb, le-ltb}
use lib.Dec.{ltb}
use Rattle.std.specs.declared.cmp.Ordering.{Ordering}
use Rattle.std.specs.declared.cmp.Ordering.TheVariants.{Less, Equal, Greater}
use Rattle.field.specs.Order.{order_of}
use Rattle.page.specs.Layout.{count_of, key_of}
use Rattle.page.specs.PageRules.{element_bad}
use Rattle.quick.specs.Halving.{Halved, here, before, middle, by_order, halve, halves_of}
use Rattle.std.specs.Prelude.{Ok, Err}

-- half of low and high together is the middle
pub halfway : (low high : ℕ) → low ≤ high → (low + high) / 2 ≡ middle low high
halfway low high l = omega arith

module _ (leaf : Bool) (b key : List ℕ) where
  -- what a look at m leaves, with so many turns after it
  abbrev looked : ℕ → ℕ → ℕ → ℕ → Bool → Ordering → Halved
  looked turns low high m bad o =
      cond bad (Err m) (by_order o (halve leaf b key turns (m + 1) high) (Ok (here m)) (halve leaf b key turns low m))

  -- turns beyond the gap change nothing
  pub enough : (s t low high : ℕ) → high - low ≤ s → high - low ≤ t → halve leaf b key s low high ≡ halve leaf b key t low high
  unfolding halve
  enough zero zero low high m n = refl
  enough zero (suc t) low high m n = rw (le-ltb low high (omega arith))
  enough (suc s) zero low high m n = rw (le-ltb low high (omega arith))
  enough (suc s) (suc t) low high m n =
      go (ltb low high) refl (element_bad leaf b (middle low high)) (order_of (key_of leaf b (middle low high)) key)
      (enough s t (middle low high + 1) high) (enough s t low (middle low high))
    where
      go : (l : Bool) → ltb low high ≡ l → (bad : Bool) (o : Ordering)
          → (high - (middle low high + 1) ≤ s → high - (middle low high + 1) ≤ t → halve leaf b key s (middle low high + 1) high ≡ halve leaf b key t (middle low high + 1) high)
          → (middle low high - low ≤ s → middle low high - low ≤ t → halve leaf b key s low (middle low high) ≡ halve leaf b key t low (middle low high))
          → cond l (looked s low high (middle low high) bad o) (Ok (before low)) ≡ cond l (looked t low high (middle low high) bad o) (Ok (before low))
      go false e bad o above below = refl
      go true e true o above below = refl
      go true e false Less above below = let l = ltb-true low high e in above (omega arith) (omega arith)
      go true e false Equal above below = refl
      go true e false Greater above below = let l = ltb-true low high e in below (omega arith) (omega arith)

  -- one turn, where there is a gap
  turn : (turns low high : ℕ) → low < high
      → halve leaf b key (suc turns) low high ≡ looked turns low high (middle low high) (element_bad leaf b (middle low high)) (order_of (key_of leaf b (middle low high)) key)
  unfolding halve
  turn turns low high l = rw (lt-ltb low high l)

  still : (low high : ℕ) → halve leaf b key 0 low high ≡ Ok (before low)
  unfolding halve
  still low high = refl

  -- all elements of a block, from 0 up to its count
  pub halves_all : (n : ℕ) → n ≡ count_of b → halves_of leaf b key ≡ halve leaf b key (n - 0) 0 n
  unfolding halves_of
  halves_all n e = rw (sub-zero n, e)

  module _ (low high : ℕ) where
    -- no gap: the place
    pub halve_end : high ≤ low → halve leaf b key (high - low) low high ≡ Ok (before low)
    halve_end l = enough (high - low) 0 low high (omega arith) (omega arith) ∙ still low high

    -- one turn, at the middle
    module _ (l : low < high) (m : ℕ) (mid : m ≡ middle low high) where
      first : halve leaf b key (high - low) low high ≡ looked (high - low) low high m (element_bad leaf b m) (order_of (key_of leaf b m) key)
      first = rw mid (enough (high - low) (suc (high - low)) low high (omega arith) (omega arith) ∙ turn (high - low) low high l)

      -- the middle breaks rule 6
      pub halve_breach : element_bad leaf b m ≡ true → halve leaf b key (high - low) low high ≡ Err m
      halve_breach e = first ∙ rw e

      module _ (good : element_bad leaf b m ≡ false) where
        -- its key is the one looked for
        pub halve_equal : order_of (key_of leaf b m) key ≡ Equal → halve leaf b key (high - low) low high ≡ Ok (here m)
        halve_equal o = first ∙ rw (good, o)

        -- its key is lower: on from after it
        pub halve_lower : order_of (key_of leaf b m) key ≡ Less → halve leaf b key (high - low) low high ≡ halve leaf b key (high - (m + 1)) (m + 1) high
        halve_lower o = first ∙ rw (good, o) (enough (high - low) (high - (m + 1)) (m + 1) high (omega arith) (omega arith))

        -- its key is higher: up to it
        pub halve_higher : order_of (key_of leaf b m) key ≡ Greater → halve leaf b key (high - low) low high ≡ halve leaf b key (m - low) low m
        halve_higher o = first ∙ rw (good, o) (enough (high - low) (m - low) low m (omega arith) (omega arith))

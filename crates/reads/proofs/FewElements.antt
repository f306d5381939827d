-- Halving looks at few elements of a page: at most as many as the count has binary digits, since a turn leaves no more than half of the gap.
-- Assumes nothing.
use mathlib.Core.Path.{◌≡◌, refl}
use mathlib.Core.Bool.{Bool, true, false, cond}
use mathlib.Core.List.{List, [], ◌∷◌}
use Prim.Native.Nat.{ℕ, zero, suc, ◌+◌, ◌-◌, ◌^◌, ◌≤◌, ◌<◌}
use native.Mathlib.Nat.{pow-suc}
use native.Mathlib.Omega.{arith}
use borrow.Author.Tests.{ltb-true}
use lib.Dec.{ltb}
use lib.ListN.{length}
use Rattle.std.specs.declared.cmp.Ordering.{Ordering}
use Rattle.std.specs.declared.cmp.Ordering.TheVariants.{Less, Equal, Greater}
use Rattle.field.specs.Order.{order_of}
use Rattle.page.specs.Layout.{count_of, key_of}
use Rattle.page.specs.PageRules.{element_bad}
use Rattle.walk.specs.Tree.{Key}
use Rattle.quick.specs.Halving.{middle, by_order}
use Rattle.reads.specs.Reads.{middles, looks_at}

-- the middle, and then one half or nothing
one_half : (i : ℕ) (bad : Bool) (o : Ordering) (lower higher : List ℕ) (k : ℕ)
    → length lower ≤ k
    → length higher ≤ k
    → length (i ∷ cond bad [] (by_order o lower [] higher)) ≤ suc k
one_half i true o lower higher k l m = omega arith
one_half i false Less lower higher k l m = omega arith
one_half i false Equal lower higher k l m = omega arith
one_half i false Greater lower higher k l m = omega arith

module _ (leaf : Bool) (b : List ℕ) (key : Key) where
  few_middles : (turns k low high : ℕ) → high - low < 2 ^ k → length (middles leaf b key turns low high) ≤ k
  unfolding middles
  few_middles zero k low high g = omega arith
  few_middles (suc turns) k low high g = go (few_middles turns) (ltb low high) refl k g
    where
      go : ((k low high : ℕ) → high - low < 2 ^ k → length (middles leaf b key turns low high) ≤ k)
          → (t : Bool)
          → ltb low high ≡ t
          → (k : ℕ)
          → high - low < 2 ^ k
          → length (middles leaf b key (suc turns) low high) ≤ k
      go ih false e k g = rw e (omega arith)
      go ih true e zero g = absurd (let l = ltb-true low high e in omega arith)
      go ih true e (suc k) g =
          let l = ltb-true low high e in
          let p = pow-suc 2 k in
          let above = ih k (middle low high + 1) high (omega arith) in
          let below = ih k low (middle low high) (omega arith) in
          rw e (one_half (middle low high) (element_bad leaf b (middle low high)) (order_of (key_of leaf b (middle low high)) key) _ _ k above below)

-- at most k elements of a block are looked at, where its count has k binary digits or fewer
pub few_elements : (leaf : Bool) (b : List ℕ) (key : Key) (k : ℕ) → count_of b < 2 ^ k → length (looks_at leaf b key) ≤ k
unfolding looks_at
few_elements leaf b key k h = few_middles leaf b key (count_of b) k 0 (count_of b) (omega arith)

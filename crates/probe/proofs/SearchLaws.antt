-- The places of an entry that `entry` tells rise.
-- Assumes nothing.
use mathlib.Core.Bool.{Bool, true, false, cond}
use mathlib.Core.List.{List}
use Prim.Native.Nat.{ℕ}
use native.Mathlib.Omega.{arith}
use lib.Dec.{ltb}
use Rattle.std.specs.Prelude.{Some, None, Ok, Err}
use Rattle.field.specs.declared.refusal.Refusal.TheVariants.{Argument}
use Rattle.page.specs.Layout.{count_of, is_leaf}
use Rattle.page.specs.PageRules.{breach, Verdict, and_then, lent_check_of}
use Rattle.page.specs.Search.{leaf_of, held_of}
use Rattle.probe.specs.Probe.{HeldOrdered}

pub held_ordered : (P : ℕ) (b : List ℕ) (i : ℕ) → HeldOrdered (held_of P b i)
unfolding held_of
held_ordered P b i = go (lent_check_of P b) (is_leaf b) (ltb i (count_of b))
  where
    go : (v : Verdict) (l x : Bool)
        → HeldOrdered (and_then v (cond l (Ok (cond x (Some (leaf_of b i)) None)) (Err (breach Argument 0 0))))
    go (Err v) l x = tt
    go (Ok u) false x = tt
    go (Ok u) true false = tt
    go (Ok u) true true = (omega arith, omega arith)

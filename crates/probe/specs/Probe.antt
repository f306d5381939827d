-- What the places of an entry that is told keep: its key starts no later than its value, and its value no later than it ends. The original key that C lends.
-- Assumes nothing.
use Rattle.std.specs.Prelude.{◌≤◌, cond, eqb, List, ℕ, Some, None, Ok, Err}
use Rattle.std.specs.declared.option.Option.{Option}
use Rattle.std.specs.declared.result.Result.{Result}
use Rattle.page.specs.declared.breach.Breach.{Breach}
use Rattle.page.specs.declared.search.Leaf.{Leaf}
use Rattle.node.specs.declared.edit.Removed.{Removed}

abbrev pub Ordered : Leaf → Type 0
Ordered e = (e.key ≤ e.value) × (e.value ≤ e.end)

-- an entry that is held, if there is one
abbrev pub HeldOrdered : Result (Option Leaf) Breach → Type 0
HeldOrdered (Ok (Some e)) = Ordered e
HeldOrdered (Ok None) = Unit {0}
HeldOrdered (Err b) = Unit {0}

-- one that was removed, if there is one
abbrev pub DeletedOrdered : Result Removed Breach → Type 0
DeletedOrdered (Ok r) = Ordered r.leaf
DeletedOrdered (Err b) = Unit {0}

-- the key that is lent, unless `has` is 0
abbrev pub original_of : ℕ → List ℕ → Option (List ℕ)
original_of has key = cond (eqb has 0) None (Some key)

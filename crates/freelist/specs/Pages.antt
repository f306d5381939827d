-- Pages in a list: a row of them, what all of them keep, the first of a kind, those of a kind, and each given a state.
-- Assumes nothing.
use mathlib.Core.List.{List, [], ◌∷◌, Memᴰ}
use Rattle.std.specs.Prelude.{Bool, true, cond, ◌&&◌, ℕ, zero, suc, ◌+◌, ◌-◌, leb}
use Rattle.freelist.specs.declared.table.State.{State}
use Rattle.freelist.specs.Table.{state_of, put}

infix 4 ◌∈◌
-- q is one of the pages
abbrev pub ◌∈◌ : ℕ → List ℕ → Type 0
q ∈ ps = Memᴰ q ps

-- the k pages from p on
unfoldable pub pages_from : ℕ → ℕ → List ℕ
pages_from p zero = []
pages_from p (suc k) = p ∷ pages_from (p + 1) k

-- the pages from 2 to n - 1
abbrev pub pages_of : ℕ → List ℕ
pages_of n = pages_from 2 (n - 2)

-- `ok` holds of each
unfoldable pub all : (ℕ → Bool) → List ℕ → Bool
all ok [] = true
all ok (p ∷ ps) = ok p && all ok ps

-- the first of which `ok` holds, or else `none`
unfoldable pub first : (ℕ → Bool) → ℕ → List ℕ → ℕ
first ok none [] = none
first ok none (p ∷ ps) = cond (ok p) p (first ok none ps)

-- those of which `ok` holds
unfoldable pub keep : (ℕ → Bool) → List ℕ → List ℕ
keep ok [] = []
keep ok (p ∷ ps) = cond (ok p) (p ∷ keep ok ps) (keep ok ps)

-- strictly rising, the first not below `low`
unfoldable pub rising : ℕ → List ℕ → Bool
rising low [] = true
rising low (p ∷ ps) = leb low p && rising (p + 1) ps

-- the table with each page given the state that g makes of its own
unfoldable pub each : (State → State) → List ℕ → List ℕ → List ℕ
each g [] t = t
each g (p ∷ ps) t = each g ps (put t p (g (state_of t p)))

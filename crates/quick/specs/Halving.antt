-- 02, order 5, the halving of a block: "low 0, high count, middle is low plus half the gap rounded down; each element it looks at is judged by rule 6 alone; equal
-- is found, lower key moves low past the middle, higher moves high to it. With none equal the place is low less one, never below 0."
-- Assumes nothing.
use Rattle.std.specs.Prelude.{Bool, cond, List, ℕ, zero, suc, ◌+◌, ◌-◌, ◌/◌, ltb, true, false, Ok, Err}
use Rattle.std.specs.declared.result.Result.{Result}
use Rattle.std.specs.declared.cmp.Ordering.{Ordering}
use Rattle.std.specs.declared.cmp.Ordering.TheVariants.{Less, Equal, Greater}
use Rattle.field.specs.Order.{order_of}
use Rattle.page.specs.Layout.{count_of, key_of}
use Rattle.page.specs.PageRules.{element_bad}
use Rattle.page.specs.declared.search.Place.{Place}

-- what halving comes to: where a key is, or the element that breaks rule 6
abbrev pub Halved : Type 0
Halved = Result Place ℕ

-- the place of a key that element i has
abbrev pub here : ℕ → Place
here i = record { at = i; found = true }

-- the place of a key that no element has: low less one, never below 0
abbrev pub before : ℕ → Place
before low = record { at = low - 1; found = false }

-- low plus half the gap, rounded down
abbrev pub middle : ℕ → ℕ → ℕ
middle low high = low + (high - low) / 2

-- one of three, by how the key at the middle stands to the one looked for
abbrev pub by_order : {A : Type 0} → Ordering → A → A → A → A
by_order Less lower equal higher = lower
by_order Equal lower equal higher = equal
by_order Greater lower equal higher = higher

-- the elements from low up to high; each turn makes the gap smaller, so that as many turns as the gap are enough
unfoldable pub halve : Bool → List ℕ → List ℕ → ℕ → ℕ → ℕ → Halved
halve leaf b key zero low high = Ok (before low)
halve leaf b key (suc turns) low high =
    cond (ltb low high)
    (cond (element_bad leaf b (middle low high)) (Err (middle low high))
    (by_order (order_of (key_of leaf b (middle low high)) key)
    (halve leaf b key turns (middle low high + 1) high)
    (Ok (here (middle low high)))
    (halve leaf b key turns low (middle low high))))
    (Ok (before low))

-- all elements of a block
unfoldable pub halves_of : Bool → List ℕ → List ℕ → Halved
halves_of leaf b key = halve leaf b key (count_of b) 0 (count_of b)

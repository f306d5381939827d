-- The order of two keys, and the length of their common beginning.
-- Assumes nothing.
use Rattle.std.specs.Prelude.{ℕ, suc, List, [], ◌∷◌, Bool, true, false, cond, ltb, eqb}
use Rattle.std.specs.declared.cmp.Ordering.{Ordering}
use Rattle.std.specs.declared.cmp.Ordering.TheVariants.{Less, Equal, Greater}
use Rattle.field.specs.declared.order.Parting.{Parting}

abbrev pub pick_order : Bool → Ordering → Ordering → Ordering
pick_order true a b = a
pick_order false a b = b

-- byte order: at the first place where the two differ, the lower byte; a prefix is lower
unfoldable pub order_of : List ℕ → List ℕ → Ordering
order_of [] [] = Equal
order_of [] (y ∷ ys) = Less
order_of (x ∷ xs) [] = Greater
order_of (x ∷ xs) (y ∷ ys) = pick_order (ltb x y) Less (pick_order (ltb y x) Greater (order_of xs ys))

-- how many bytes the two begin with alike
unfoldable pub common_of : List ℕ → List ℕ → ℕ
common_of [] ys = 0
common_of (x ∷ xs) [] = 0
common_of (x ∷ xs) (y ∷ ys) = cond (eqb x y) (suc (common_of xs ys)) 0

-- 02, order 2: what a comparison answers
abbrev pub parting_of : List ℕ → List ℕ → Parting
parting_of a b = record { order = order_of a b; common = common_of a b }

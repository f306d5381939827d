-- The page size: the search for it goes over the sizes in their order, and what is found is allowed.
-- Assumes nothing.
use Rattle.std.proofs.Common.{◌≡◌, ℕ, zero, suc, ◌+◌, ◌*◌, ◌%◌, ◌≤◌, Bool, true, false, cond, List, Option, Some, None, Result, Ok, Err, IfSome, refl, arith, map, find, le-leb, eq-eqb}
use Rattle.std.specs.List.{range_with_len}
use Rattle.std.specs.Option.{option_or}
use Rattle.field.specs.Sizes.{size_allowed}
use Rattle.field.specs.declared.refusal.Refusal.{Refusal}
use Rattle.meta.specs.Meta.{read_of}
use Rattle.meta.specs.declared.Meta.{Meta}
use Rattle.newest.specs.Newest.{names_itself, lowest_size, own_size, size_found}

-- ---- the search over `left` sizes, from the k-th on
pub sizes_in_turn : (image : List ℕ) (left k : ℕ)
    → find (names_itself image) (map (λ (i : ℕ). 1024 + 8 * i) (range_with_len k left)) ≡ lowest_size image left (1024 + 8 * k)
unfolding lowest_size
sizes_in_turn image zero k = refl
sizes_in_turn image (suc left) k =
    let next : 1024 + 8 * (k + 1) ≡ 1024 + 8 * k + 8 = omega arith in
    rw (sizes_in_turn image left (k + 1), next)

-- ---- what is found is allowed
abbrev pub Allowed : Option ℕ → Type 0
Allowed found = IfSome found (λ P. size_allowed P ≡ true)

lowest_allowed : (image : List ℕ) (left P : ℕ) → 1024 ≤ P → P + 8 * left ≤ 65544 → P % 8 ≡ 0 → Allowed (lowest_size image left P)
unfolding lowest_size
lowest_allowed image zero P low high step = tt
lowest_allowed image (suc left) P low high step =
    go (names_itself image P) (lowest_allowed image left (P + 8) (omega arith) (omega arith) (omega arith))
  where
    go : (t : Bool) → Allowed (lowest_size image left (P + 8)) → Allowed (cond t (Some P) (lowest_size image left (P + 8)))
    go true later = let top : P ≤ 65536 = omega arith in simp (le-leb _ _ low, le-leb _ _ top, eq-eqb _ _ step)
    go false later = later

own_allowed : (r : Result Meta Refusal) → Allowed (own_size r)
own_allowed (Ok m) = go (size_allowed m.pagesize) refl
  where
    go : (t : Bool) → size_allowed m.pagesize ≡ t → Allowed (cond t (Some m.pagesize) None)
    go true e = e
    go false e = tt
own_allowed (Err refusal) = tt

or_allowed : (x y : Option ℕ) → Allowed x → Allowed y → Allowed (option_or x y)
or_allowed None y hx hy = hy
or_allowed (Some P) y hx hy = hx

pub found_allowed : (image : List ℕ) → Allowed (size_found image)
unfolding size_found
found_allowed image = or_allowed _ _ (own_allowed (read_of image)) (lowest_allowed image 8065 1024 (omega arith) (omega arith) refl)

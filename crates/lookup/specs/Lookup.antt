-- 01, "Search and lookup": what lookup answers, from the root down.
-- Assumes nothing.
use Rattle.std.specs.Prelude.{true, cond, List, [], ℕ, take, drop, Some, None, Ok, Err}
use Rattle.field.specs.declared.refusal.Refusal.TheVariants.{Geometry}
use Rattle.field.specs.Refusal.{number_of}
use Rattle.walk.specs.Tree.{Key, Answer, refused, found, absent, lookup}
use Rattle.view.specs.declared.Value.{Value}
use Rattle.view.specs.Geometry.{geometry_bad}
use Rattle.view.specs.Fault.{fault_at}
use Rattle.view.specs.View.{view_of}
use Rattle.lookup.specs.Descent.{Looked}

abbrev pub looked_of : Answer Value → Looked
looked_of (found e page i) = Ok (Some e.value)
looked_of absent = Ok None
looked_of (refused refusal page element common) = Err (fault_at refusal page element common)

-- geometry first; then at most 16 levels from the root, each page judged whole, to the child at `index`, to a leaf
unfoldable pub lookup_of : List ℕ → ℕ → ℕ → ℕ → Key → Looked
lookup_of image P N root key =
    cond (geometry_bad image P N) (Err (fault_at Geometry 0 0 0)) (looked_of (lookup N (view_of image P N) 16 true root key))

-- 01's number of the answer
abbrev pub looked_number : Looked → ℕ
looked_number (Ok value) = 0
looked_number (Err f) = number_of f.refusal

-- the value's bytes, a part of the image; absent or refused gives an empty part
abbrev pub value_in : List ℕ → Looked → List ℕ
value_in image (Ok (Some v)) = take v.length (drop v.place image)
value_in image (Ok None) = []
value_in image (Err f) = []

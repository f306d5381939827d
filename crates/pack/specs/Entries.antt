-- What entries a block can hold: those that are read back from it, and those that keep it sound.
-- Assumes nothing.
use Rattle.std.specs.Prelude.{◌≡◌, Bool, true, false, List, [], ◌∷◌, ◌^◌, ◌<◌, length}
use Rattle.std.specs.declared.cmp.Ordering.TheVariants.{Less}
use Rattle.field.specs.Order.{order_of}
use Rattle.page.specs.Layout.{Entry}
use Rattle.page.specs.PageRules.{kind_bad}

-- an element has room for the tag; a branch's has none for a value
abbrev pub Storable : Bool → Entry → Type 0
Storable false e = (e.tag < 2 ^ 64) × (e.value ≡ [])
Storable true e = e.tag < 256

-- rule 6 besides: a leaf's kind is 0, or 1 with a value of 16 bytes
abbrev pub Good : Bool → Entry → Type 0
Good false e = Storable false e
Good true e = kind_bad e.tag (length e.value) ≡ false

unfoldable pub Each : (Entry → Type 0) → List Entry → Type 0
Each F [] = Unit {0}
Each F (e ∷ es) = F e × Each F es

-- rule 7: each key is above the one before it
unfoldable pub RisingEntries : List Entry → Type 0
RisingEntries [] = Unit {0}
RisingEntries (e ∷ []) = Unit {0}
RisingEntries (e ∷ f ∷ es) = (order_of e.key f.key ≡ Less) × RisingEntries (f ∷ es)

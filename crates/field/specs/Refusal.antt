-- 01, "Numbers given back": the number of each cause of a refusal.
-- Assumes nothing.
use Rattle.std.specs.Prelude.{ℕ, Ok, Err}
use Rattle.std.specs.declared.result.Result.{Result}
use Rattle.field.specs.declared.refusal.Refusal.{Refusal}
use Rattle.field.specs.declared.refusal.Refusal.TheVariants.{Geometry, PageNumber, Header, Table, Element, KeyOrder, KeyRange, UsedTwice, TooDeep, OutputShort, Argument, Full, Hash, Conflict, NodeTooLarge}

abbrev pub number_of : Refusal → ℕ
number_of Geometry = 1
number_of PageNumber = 2
number_of Header = 3
number_of Table = 4
number_of Element = 5
number_of KeyOrder = 6
number_of KeyRange = 7
number_of UsedTwice = 8
number_of TooDeep = 9
number_of OutputShort = 10
number_of Argument = 11
number_of Full = 12
number_of Hash = 13
number_of Conflict = 14
number_of NodeTooLarge = 15

-- the number that a call gives back: 0 where it does not refuse
abbrev pub number_in : {A : Type 0} → Result A Refusal → ℕ
number_in (Ok a) = 0
number_in (Err r) = number_of r

-- what is lent is changed where a call does not refuse, and stays otherwise
abbrev pub on_ok : {A E B : Type 0} → Result A E → B → B → B
on_ok (Ok a) new old = new
on_ok (Err e) new old = old

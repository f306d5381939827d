-- Which entries a new block has: a range of a source block's, a single new one or none, and another range of the source's.
-- Assumes nothing.
use Rattle.std.specs.Prelude.{Bool, List, [], ◌∷◌, ◌++◌, ℕ, ◌+◌, ◌-◌, ◌≤◌, take, drop, is_some, Some, None}
use Rattle.std.specs.declared.option.Option.{Option}
use Rattle.std.specs.Int.{from_bool}
use Rattle.page.specs.Layout.{Entry, count_of, entries_from}
use Rattle.pack.specs.declared.write.Plan.{Plan}

-- the entry of these parts
abbrev pub entry_with : ℕ → List ℕ → List ℕ → Entry
entry_with tag key value = record { tag = tag; key = key; value = value }

-- the block's entries from i up to j
abbrev pub range : Bool → List ℕ → ℕ → ℕ → List Entry
range leaf b i j = entries_from leaf b (j - i) i

-- the entry of the tag that there is, or none
abbrev pub maybe : Option ℕ → List ℕ → List ℕ → List Entry
maybe (Some tag) key value = entry_with tag key value ∷ []
maybe None key value = []

-- the new entry, or none
abbrev pub fresh : Plan → List ℕ → List ℕ → List Entry
fresh p key value = maybe p.tag key value

unfoldable pub planned : Bool → List ℕ → Plan → List ℕ → List ℕ → List Entry
planned leaf b p key value =
    range leaf b p.first p.stop ++ fresh p key value ++ range leaf b p.resume p.last

-- how many entries those are
abbrev pub count_in : Plan → ℕ
count_in p = p.stop - p.first + from_bool (is_some p.tag) + (p.last - p.resume)

-- the plan's ranges lie within the block
pub record Within (b : List ℕ) (p : Plan) : Type 0 where
  pub front : p.first ≤ p.stop
  pub middle : p.stop ≤ count_of b
  pub back : p.resume ≤ p.last
  pub end : p.last ≤ count_of b

-- ---- what an edit makes of a list of entries
abbrev pub insert_at : ℕ → Entry → List Entry → List Entry
insert_at i e es = take i es ++ e ∷ drop i es

abbrev pub replace_at : ℕ → Entry → List Entry → List Entry
replace_at i e es = take i es ++ e ∷ drop (i + 1) es

abbrev pub remove_at : ℕ → List Entry → List Entry
remove_at i es = take i es ++ drop (i + 1) es

-- those from i up to j
abbrev pub cut_of : ℕ → ℕ → List Entry → List Entry
cut_of i j es = take (j - i) (drop i es)

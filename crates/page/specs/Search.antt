-- 01, "Search and lookup": where a key is among a block's, by a scan from the front, and what stands at an index.
-- Assumes nothing.
use Rattle.std.specs.Prelude.{Bool, true, false, cond, List, ℕ, zero, suc, ◌+◌, ◌-◌, ltb, Some, None, Ok, Err}
use Rattle.std.specs.declared.option.Option.{Option}
use Rattle.std.specs.declared.result.Result.{Result}
use Rattle.field.specs.declared.refusal.Refusal.TheVariants.{Argument}
use Rattle.std.specs.declared.cmp.Ordering.{Ordering}
use Rattle.std.specs.declared.cmp.Ordering.TheVariants.{Less, Equal, Greater}
use Rattle.field.specs.Order.{order_of}
use Rattle.page.specs.declared.search.Place.{Place}
use Rattle.page.specs.declared.search.Leaf.{Leaf}
use Rattle.page.specs.Layout.{count_of, is_leaf, kind_of, page_of, key_at, value_at, value_end, key_of}
use Rattle.page.specs.declared.breach.Breach.{Breach}
use Rattle.page.specs.PageRules.{breach, and_then, lent_check_of}

-- the answer at element i, whose key stands so to the one that is looked for: present at i; absent, with i the insertion place, so that
-- the place before it is told, never below 0; or what the rest of the scan says
abbrev pub place_at : Ordering → ℕ → Place → Place
place_at Less i rest = rest
place_at Equal i rest = record { at = i; found = true }
place_at Greater i rest = record { at = i - 1; found = false }

-- the scan of the k elements from i on
unfoldable pub scan_from : Bool → List ℕ → List ℕ → ℕ → ℕ → Place
scan_from leaf b key zero i = record { at = i - 1; found = false }
scan_from leaf b key (suc k) i = place_at (order_of (key_of leaf b i) key) i (scan_from leaf b key k (i + 1))

unfoldable pub place_of : Bool → List ℕ → List ℕ → Place
place_of leaf b key = scan_from leaf b key (count_of b) 0

-- `index` of a lent block
unfoldable pub index_of : ℕ → List ℕ → List ℕ → Result Place Breach
index_of P b key = and_then (lent_check_of P b) (Ok (place_of (is_leaf b) b key))

-- `index_page` of a lent block: past the end page 0, for a leaf too; otherwise a leaf is refused as an argument
unfoldable pub index_page_of : ℕ → List ℕ → ℕ → Result ℕ Breach
index_page_of P b i =
    and_then (lent_check_of P b) (cond (ltb i (count_of b)) (cond (is_leaf b) (Err (breach Argument 0 0)) (Ok (page_of b i))) (Ok 0))

-- the entry's kind and where its key and value lie
abbrev pub leaf_of : List ℕ → ℕ → Leaf
leaf_of b i = record { kind = kind_of b i; key = key_at true b i; value = value_at true b i; end = value_end true b i }

-- `entry` of a lent block, the crate's `val`: a branch is refused as an argument; past the end nothing; otherwise the entry
unfoldable pub held_of : ℕ → List ℕ → ℕ → Result (Option Leaf) Breach
held_of P b i =
    and_then (lent_check_of P b) (cond (is_leaf b) (Ok (cond (ltb i (count_of b)) (Some (leaf_of b i)) None)) (Err (breach Argument 0 0)))

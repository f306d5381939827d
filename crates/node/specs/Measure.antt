-- 01, "Layout" and "Node edits": the size of a lent node, the pages that it needs, and whether merging is wanted.
-- Assumes nothing.
use Rattle.std.specs.Prelude.{Bool, cond, ◌||◌, List, ℕ, ◌/◌, ltb, Ok, Err}
use Rattle.std.specs.declared.result.Result.{Result}
use Rattle.field.specs.Sizes.{pages_needed}
use Rattle.field.specs.declared.refusal.Refusal.TheVariants.{NodeTooLarge}
use Rattle.page.specs.declared.breach.Breach.{Breach}
use Rattle.page.specs.Layout.{count_of, is_leaf, entries_of}
use Rattle.page.specs.PageRules.{breach, and_then, lent_check_of}
use Rattle.pack.specs.Pack.{node_size}
use Rattle.size.specs.Size.{node_limit}
use Rattle.node.specs.declared.measure.Measure.{Measure}

-- the size of a lent block's node
abbrev pub size_in : List ℕ → ℕ
size_in b = node_size (is_leaf b) (entries_of (is_leaf b) b)

-- `size`: the node size and the pages needed; above the limit the node is too large
unfoldable pub size_of : ℕ → List ℕ → Result Measure Breach
size_of P b =
    and_then (lent_check_of P b)
    (cond (ltb node_limit (size_in b)) (Err (breach NodeTooLarge 0 0)) (Ok (record { bytes = size_in b; pages = pages_needed (size_in b) P })))

-- `needs_merging`: wanted with fewer than 2 entries, or a size below P / 4, rounded down
unfoldable pub needs_merging_of : ℕ → List ℕ → Result Bool Breach
needs_merging_of P b = and_then (lent_check_of P b) (Ok (ltb (count_of b) 2 || ltb (size_in b) (P / 4)))

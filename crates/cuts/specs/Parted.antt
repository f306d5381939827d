-- What `split` answers, and what it leaves in the lent list.
-- Assumes nothing.
use Rattle.std.specs.Prelude.{cond, List, ◌++◌, ℕ, ltb, length, drop, Ok, Err}
use Rattle.std.specs.declared.result.Result.{Result}
use Rattle.field.specs.declared.refusal.Refusal.TheVariants.{OutputShort, NodeTooLarge}
use Rattle.page.specs.declared.breach.Breach.{Breach}
use Rattle.page.specs.Layout.{is_leaf, entries_of}
use Rattle.page.specs.PageRules.{breach, and_then, lent_check_of}
use Rattle.pack.specs.Pack.{node_size}
use Rattle.size.specs.Size.{node_limit}
use Rattle.cuts.specs.Split.{cuts_of}

-- the cuts of a lent block
abbrev pub block_cuts : ℕ → List ℕ → List ℕ
block_cuts P b = cuts_of (is_leaf b) P (entries_of (is_leaf b) b)

-- 15 where the node is too large, then 10 where the lent list is too short for the cuts, else how many cuts there are
abbrev pub parted_if : ℕ → List ℕ → ℕ → Result ℕ Breach
parted_if size made room = cond (ltb node_limit size) (Err (breach NodeTooLarge 0 0)) (cond (ltb room (length made)) (Err (breach OutputShort 0 0)) (Ok (length made)))

-- `split` of a lent block, with room for so many cuts
unfoldable pub split_of : ℕ → List ℕ → ℕ → Result ℕ Breach
split_of P b room = and_then (lent_check_of P b) (parted_if (node_size (is_leaf b) (entries_of (is_leaf b) b)) (block_cuts P b) room)

-- the lent list afterwards: the cuts, then its old rest; a refusal changes nothing
abbrev pub list_left : Result ℕ Breach → List ℕ → List ℕ → List ℕ
list_left (Ok n) made old = made ++ drop n old
list_left (Err b) made old = old

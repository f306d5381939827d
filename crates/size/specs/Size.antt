-- 01, "Sizes allowed": the node size that an edit may leave.
-- Assumes nothing.
use Rattle.std.specs.Prelude.{Bool, List, ℕ, ◌+◌, ◌-◌, min}
use Rattle.page.specs.Layout.{Entry}
use Rattle.pack.specs.Pack.{node_size}

-- the largest node size
abbrev pub node_limit : ℕ
node_limit = 1048576

-- a size counted no further than one past the limit: elements of a block may overlap, so that the true sum can pass every machine number
abbrev pub capped_size : ℕ → ℕ
capped_size size = min size (node_limit + 1)

-- what entries add to a node's size: all but the 40 of a node without any
abbrev pub entries_size : Bool → List Entry → ℕ
entries_size leaf es = node_size leaf es - 40

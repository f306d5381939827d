-- 01, "Node edits, split": the pieces of a split written with a lent list of page numbers, one for each piece and its id.
-- Assumes nothing.
use Rattle.std.specs.Prelude.{Bool, true, cond, ◌&&◌, ◌||◌, List, [], ◌∷◌, ◌++◌, map, ℕ, ◌+◌, ◌*◌, min, leb, ltb, eqb, length, drop, Ok, Err}
use Rattle.std.specs.declared.result.Result.{Result}
use Rattle.field.specs.declared.refusal.Refusal.TheVariants.{Geometry, OutputShort, Argument, NodeTooLarge}
use Rattle.field.specs.Sizes.{count_allowed, pages_needed, block_inside}
use Rattle.page.specs.Layout.{Entry, is_leaf, entries_of}
use Rattle.page.specs.declared.breach.Breach.{Breach}
use Rattle.page.specs.PageRules.{breach, and_then, lent_check_of}
use Rattle.pack.specs.Pack.{node_size, pack}
use Rattle.size.specs.Size.{node_limit}
use Rattle.split.specs.declared.Written.{Written}
use Rattle.cuts.specs.Split.{pieces_of}

-- how many pages a piece's block takes
abbrev pub span_of : Bool → ℕ → List Entry → ℕ
span_of leaf P piece = pages_needed (node_size leaf piece) P

abbrev pub spans_of : Bool → ℕ → List (List Entry) → List ℕ
spans_of leaf P pieces = map (span_of leaf P) pieces

-- the block of k pages from page q on does not overlap that of m pages from r on, nor any of a list
abbrev pub apart : ℕ → ℕ → ℕ → ℕ → Bool
apart q k r m = leb (q + k) r || leb (r + m) q

unfoldable pub clear_of : ℕ → ℕ → List ℕ → List ℕ → Bool
clear_of q k [] ms = true
clear_of q k (r ∷ rs) [] = true
clear_of q k (r ∷ rs) (m ∷ ms) = apart q k r m && clear_of q k rs ms

-- each block inside, and no two overlapping
unfoldable pub placed : ℕ → List ℕ → List ℕ → Bool
placed N [] ks = true
placed N (q ∷ qs) [] = true
placed N (q ∷ qs) (k ∷ ks) = block_inside N q k && (clear_of q k qs ks && placed N qs ks)

-- just as many pages as pieces, and placed so
abbrev pub list_good : ℕ → List ℕ → List ℕ → Bool
list_good N pages spans = eqb (length pages) (length spans) && placed N pages spans

-- the bytes that blocks of so many pages take
unfoldable pub bytes_in : ℕ → List ℕ → ℕ
bytes_in P [] = 0
bytes_in P (k ∷ ks) = k * P + bytes_in P ks

-- the packed pieces, one after the other, each with its page number as id
unfoldable pub pack_all : Bool → ℕ → List ℕ → List (List Entry) → List ℕ
pack_all leaf P [] pieces = []
pack_all leaf P (q ∷ qs) [] = []
pack_all leaf P (q ∷ qs) (e ∷ es) = pack leaf q e P ++ pack_all leaf P qs es

-- so many bytes and pieces
abbrev pub written : ℕ → ℕ → Written
written bytes pieces = record { bytes = bytes; pieces = pieces }

-- a wrong list 11, then a node that is too large 15, then an output that is too short 10, else how many bytes and pieces are written
abbrev pub written_if : Bool → ℕ → ℕ → ℕ → ℕ → Result Written Breach
written_if good size bytes room count =
    cond good (cond (ltb node_limit size) (Err (breach NodeTooLarge 0 0)) (cond (ltb room bytes) (Err (breach OutputShort 0 0)) (Ok (written bytes count))))
    (Err (breach Argument 0 0))

-- of a node of this size with these pieces
abbrev pub written_of : Bool → ℕ → ℕ → ℕ → List (List Entry) → List ℕ → ℕ → Result Written Breach
written_of leaf P N size pieces pages room =
    written_if (list_good N pages (spans_of leaf P pieces)) size (bytes_in P (spans_of leaf P pieces)) room (length pieces)

-- the pieces of a lent block
abbrev pub block_pieces : ℕ → List ℕ → List (List Entry)
block_pieces P b = pieces_of (is_leaf b) P (entries_of (is_leaf b) b)

-- `split_write` of a lent block: N is tried before all else
unfoldable pub split_write_of : ℕ → ℕ → List ℕ → List ℕ → ℕ → Result Written Breach
split_write_of P N b pages room =
    cond (count_allowed N)
    (and_then (lent_check_of P b) (written_of (is_leaf b) P N (node_size (is_leaf b) (entries_of (is_leaf b) b)) (block_pieces P b) pages room))
    (Err (breach Geometry 0 0))

-- the output afterwards: the packed pieces, then its old rest; a refusal changes nothing
abbrev pub out_left : Result Written Breach → List ℕ → List ℕ → List ℕ
out_left (Ok w) made old = made ++ drop w.bytes old
out_left (Err b) made old = old

-- ---- as the code counts pages: no further than one past the most that an image has
abbrev pub capped_spans : Bool → ℕ → List (List Entry) → List ℕ
capped_spans leaf P pieces = map (λ (piece : List Entry). min (span_of leaf P piece) 32769) pieces

-- 01, "Node edits, split": after which entries a node is cut, and the pieces between the cuts.
-- An entry is counted and its size added before the test, as in the crate: the entry itself is one of the 2 or more, and in the sum.
-- Assumes nothing.
use Rattle.std.specs.Prelude.{Bool, cond, ◌&&◌, ◌||◌, List, [], ◌∷◌, ℕ, ◌+◌, ◌-◌, ◌/◌, leb, ltb, length, take}
use Rattle.page.specs.Layout.{Entry}
use Rattle.pack.specs.Pack.{entry_size, node_size}
use Rattle.pack.specs.Plan.{cut_of}

-- the threshold: P times 0.5
abbrev pub threshold : ℕ → ℕ
threshold P = P / 2

-- none at 4 entries or fewer, or a size below P
abbrev pub unsplit : Bool → ℕ → List Entry → Bool
unsplit leaf P es = leb (length es) 4 || ltb (node_size leaf es) P

-- cut where 2 or more were counted since the last cut and the sum exceeds the threshold
abbrev pub cut_here : ℕ → ℕ → ℕ → Bool
cut_here t count sum = leb 2 count && ltb t sum

-- the run over entries of which the first is entry i: a cut after it restarts the sum at 40 plus its own size, and the count at 0
unfoldable pub cuts_from : Bool → ℕ → ℕ → ℕ → ℕ → List Entry → List ℕ
cuts_from leaf t i sum count [] = []
cuts_from leaf t i sum count (e ∷ es) =
    cond (cut_here t (count + 1) (sum + entry_size leaf e))
    ((i + 1) ∷ cuts_from leaf t (i + 1) (40 + entry_size leaf e) 0 es)
    (cuts_from leaf t (i + 1) (sum + entry_size leaf e) (count + 1) es)

-- all entries but the last two
abbrev pub but_two : List Entry → List Entry
but_two es = take (length es - 2) es

-- the cuts of a node, rising: each is the index of the first entry of a later piece
unfoldable pub cuts_of : Bool → ℕ → List Entry → List ℕ
cuts_of leaf P es = cond (unsplit leaf P es) [] (cuts_from leaf (threshold P) 0 40 0 (but_two es))

-- the pieces from entry i on: up to each cut, and from the last cut to the end
unfoldable pub pieces_from : ℕ → List ℕ → List Entry → List (List Entry)
pieces_from i [] es = cut_of i (length es) es ∷ []
pieces_from i (c ∷ cs) es = cut_of i c es ∷ pieces_from c cs es

-- the pieces of a node; with no cut, the node itself
abbrev pub pieces_of : Bool → ℕ → List Entry → List (List Entry)
pieces_of leaf P es = pieces_from 0 (cuts_of leaf P es) es

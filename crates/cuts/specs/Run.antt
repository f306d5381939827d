-- The run as the code makes it, from one cut of a block to the next.
-- Assumes nothing.
use Rattle.std.specs.Prelude.{Bool, true, cond, List, [], ◌∷◌, ℕ, zero, suc, ◌+◌, ◌-◌, ◌≤◌, Some, None, unwrap_or}
use Rattle.std.specs.declared.option.Option.{Option}
use Rattle.page.specs.Layout.{Entry, count_of, entry_of, entries_of}
use Rattle.page.specs.PageRules.{SoundBlock}
use Rattle.pack.specs.Pack.{entry_size}
use Rattle.pack.specs.Plan.{range}
use Rattle.cuts.specs.Split.{unsplit, cuts_from}

-- the sum that the run starts with, at the block's start and after a cut
abbrev pub restart : Bool → List ℕ → ℕ → ℕ
restart leaf b zero = 40
restart leaf b (suc i) = 40 + entry_size leaf (entry_of leaf b i)

-- the cuts after the one at c, or after the start, of a run that ends before entry `end`
abbrev pub cuts_after : Bool → ℕ → List ℕ → ℕ → ℕ → List ℕ
cuts_after leaf t b end c = cuts_from leaf t c (restart leaf b c) 0 (range leaf b c end)

-- the first of the cuts, if there is one
abbrev pub first_cut : List ℕ → Option ℕ
first_cut [] = None
first_cut (c ∷ cs) = Some c

-- where a block's run ends: before its last two entries, or at once
abbrev pub run_end : Bool → ℕ → List ℕ → ℕ
run_end leaf P b = cond (unsplit leaf P (entries_of leaf b)) 0 (count_of b - 2)

-- where the piece from entry c on ends: at the next cut, or with the block's entries
abbrev pub piece_end : Bool → ℕ → List ℕ → ℕ → ℕ → ℕ
piece_end leaf t b end c = unwrap_or (first_cut (cuts_after leaf t b end c)) (count_of b)

-- the k pieces from entry c on
unfoldable pub pieces_after : Bool → ℕ → List ℕ → ℕ → ℕ → ℕ → List (List Entry)
pieces_after leaf t b end zero c = []
pieces_after leaf t b end (suc k) c =
    range leaf b c (piece_end leaf t b end c) ∷ pieces_after leaf t b end k (piece_end leaf t b end c)

-- what the loops over the pieces go on with: a sound block, an allowed page size, the run's threshold and end
pub record Ready (leaf : Bool) (b : List ℕ) (P t end : ℕ) : Type 0 where
  pub sound : SoundBlock leaf true b
  pub ending : end ≤ count_of b
  pub low : 40 ≤ t
  pub high : t ≤ 65536
  pub least : 1024 ≤ P
  pub most : P ≤ 65536

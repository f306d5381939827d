-- The theorem on written pieces: where `split_write` answers that it wrote `count` pieces, each has a stretch of the output of its own, from where the block before it
-- ends. The stretch is the piece packed with its page of the list as id. It passes the lent check again, a leaf or a branch as the block that was split, and holds just
-- the entries of the piece.
-- Assumes nothing.
use mathlib.Core.Path.{◌≡◌, sym, ap, subst, ◌∙◌}
use mathlib.Core.Bool.{Bool, true}
use mathlib.Core.List.{List, []}
use Prim.Native.Nat.{ℕ, ◌+◌, ◌-◌, ◌*◌, ◌^◌, ◌≤◌, ◌<◌}
use native.Mathlib.Omega.{arith}
use lib.ListN.{length, get_or, take, drop}
use Rattle.field.proofs.FieldLaws.{Bytes}
use Rattle.std.specs.Prelude.{Ok}
use Rattle.page.specs.Layout.{Entry, id_of, count_of, is_leaf, entries_of}
use Rattle.page.specs.PageRules.{lent_check_of, SoundBlock}
use Rattle.page.proofs.EntryLaws.{length-entries, length_from}
use Rattle.page.proofs.LentLaws.{lent_iff}
use Rattle.pack.specs.Pack.{node_size, pack}
use Rattle.pack.specs.Plan.{range}
use Rattle.pack.specs.Entries.{Good, Each, RisingEntries}
use Rattle.pack.proofs.RangeLaws.{range_part}
use Rattle.pack.proofs.PackLaws.{covers}
use Rattle.pack.proofs.Decode.{id_packed, decode}
use Rattle.pack.proofs.PackedSound.{each_map, good_storable, good_from, rising_from, lent_packed, leaf_packed}
use Rattle.split.specs.Write.{span_of, spans_of, bytes_in, pack_all, written, block_pieces, split_write_of, out_left}
use Rattle.cuts.proofs.Halved.{size_range}
use Rattle.cuts.proofs.PartedLaws.{lent_size}
use Rattle.cuts.proofs.PieceLaws.{Part, piece_part}
use Rattle.split.proofs.WriteLaws.{inside_end, bytes_small}
use Rattle.split.proofs.PagesLaws.{placed_at, packed_at}
use Rattle.split.proofs.WrittenLaws.{count_most, Passed, passed}

-- ---- a part of a sound block's entries can be packed
module _ (leaf : Bool) (b : List ℕ) (sound : SoundBlock leaf leaf b) (piece : List Entry) (part : Part (entries_of leaf b) piece) where
  part_end : (part.to ≤ count_of b) × (part.from + (part.to - part.from) ≤ count_of b)
  part_end =
      let n = length-entries leaf b in
      let o = part.ordered in
      let w = part.within in
      (omega arith, omega arith)

  part_range : range leaf b part.from part.to ≡ piece
  part_range = range_part leaf b part.from part.to part.ordered part_end.0 ∙ sym part.same

  part_good : Bytes b → Each (Good leaf) piece
  part_good whole = subst (Each (Good leaf)) part_range (good_from leaf leaf b sound whole (part.to - part.from) part.from part_end.1)

  part_rising : RisingEntries piece
  part_rising = subst RisingEntries part_range (rising_from leaf leaf b sound (part.to - part.from) part.from part_end.1)

  part_filled : length piece ≡ 0 → leaf ≡ true
  part_filled e =
      let n = length-entries leaf b in
      let o = part.ordered in
      let l = length_from leaf b (part.to - part.from) part.from in
      let k = ap length part_range in
      let z = part.filled (omega arith) in
      sound.filled (omega arith)

-- ---- the theorem: `old` is the output before the call, `out` what its contract says is left
module _ (P N : ℕ) (b pages old : List ℕ) (bytes count : ℕ) (whole : Bytes b) (done : split_write_of P N b pages (length old) ≡ Ok (written bytes count)) where
  abbrev out : List ℕ
  out = out_left (Ok (written bytes count)) (pack_all (is_leaf b) P pages (block_pieces P b)) old

  abbrev page : ℕ → ℕ
  page i = get_or pages i 0

  abbrev piece : ℕ → List Entry
  piece i = get_or (block_pieces P b) i []

  -- as many bytes as its pages have, after those of the pieces before it
  abbrev stretch : ℕ → List ℕ
  stretch i = take (span_of (is_leaf b) P (piece i) * P) (drop (bytes_in P (spans_of (is_leaf b) P (take i (block_pieces P b)))) out)

  went : Passed P N b pages count
  went = passed P N b pages (length old) done

  source : SoundBlock (is_leaf b) (is_leaf b) b
  source = ((lent_iff P b).0 went.sound).2

  module _ (i : ℕ) (l : i < count) where
    below : (i < length pages) × (i < length (block_pieces P b))
    below = let e = went.each in let t = went.told in (omega arith, omega arith)

    -- the block is inside the image, so that its page and its size are numbers of 64 bits
    small : (0 < P) × (page i < 2 ^ 64) × (node_size (is_leaf b) (piece i) < 2 ^ 64)
    small =
        let r = size_range P (lent_size P b went.sound) in
        let p : 0 < P = omega arith in
        let n = count_most N went.allowed in
        let e = inside_end N (page i) (span_of (is_leaf b) P (piece i)) (placed_at (is_leaf b) P N pages (block_pieces P b) went.there i below.0 below.1) in
        let s = bytes_small (span_of (is_leaf b) P (piece i)) P (omega arith) r.1 in
        let c = covers (node_size (is_leaf b) (piece i)) P p in
        (p, omega arith, omega arith)

    part : Part (entries_of (is_leaf b) b) (piece i)
    part = piece_part (is_leaf b) P (entries_of (is_leaf b) b) i below.1

    good : Each (Good (is_leaf b)) (piece i)
    good = part_good (is_leaf b) b source (piece i) part whole

    pub piece_packed : stretch i ≡ pack (is_leaf b) (page i) (piece i) P
    piece_packed = packed_at (is_leaf b) P pages (block_pieces P b) (drop bytes old) small.0 i below.0 below.1

    pub piece_id : id_of (stretch i) ≡ page i
    piece_id = rw piece_packed (id_packed (is_leaf b) (page i) (piece i) P small.1)

    pub piece_kind : is_leaf (stretch i) ≡ is_leaf b
    piece_kind = rw piece_packed (leaf_packed (is_leaf b) (page i) (piece i) P small.0 small.2)

    pub piece_passes : lent_check_of P (stretch i) ≡ Ok tt
    piece_passes =
        rw piece_packed
        (lent_packed (is_leaf b) (page i) (piece i) P small.0 small.2 (lent_size P b went.sound) (part_filled (is_leaf b) b source (piece i) part) good
        (part_rising (is_leaf b) b source (piece i) part))

    pub piece_holds : entries_of (is_leaf b) (stretch i) ≡ piece i
    piece_holds = rw piece_packed (decode (is_leaf b) (page i) (piece i) P small.0 small.2 (each_map (piece i) (good_storable (is_leaf b)) good))

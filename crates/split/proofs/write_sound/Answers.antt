-- `split::write_sound` meets its contract: the list decides first, then the size, then the room; the pieces that are gone over are the node's.
-- Assumes nothing.
use mathlib.Core.Path.{◌≡◌, refl, sym, ap, ap₂, ◌∙◌}
use mathlib.Core.List.{List}
use Prim.Native.Nat.{ℕ, ◌+◌, ◌≤◌}
use native.Mathlib.Omega.{arith}
use lib.Dec.{leb}
use lib.ListN.{length}
use Rattle.std.specs.Prelude.{true, Ok, Err}
use Rattle.page.specs.Layout.{Entry, entries_of}
use Rattle.pack.specs.Pack.{node_size}
use Rattle.cuts.specs.Split.{pieces_of}
use Rattle.cuts.specs.Run.{pieces_after}
use Rattle.split.specs.Write.{spans_of, placed, bytes_in, pack_all, capped_spans, written}
use Rattle.cuts.proofs.Halved.{size_range}
use Rattle.cuts.proofs.PartedLaws.{put_made}
use Rattle.split.proofs.PagesLaws.{pieces_code, length_code, length_all}
use Rattle.split.proofs.WrittenLaws.{count_most, written_count, written_unplaced, written_large, written_short, bytes_fit, written_made}
use Rattle.split.proofs.write_sound.Goals as goal
use Rattle.split.proofs.write_sound.Goals.{After-all_placed, After-count_cuts-pieces, After-fits, Else-not-all_placed, Else-not-fits, Else-pages-pieces}

-- how many pieces there are, and which
many : (c : After-count_cuts-pieces) →
    let a = c.args in
    length (pieces_of a.leaf a.p (entries_of a.leaf a.b.now)) ≡ c.count_cuts-pieces.result + 1
many c =
    let a = c.args in
    length_code a.leaf a.p a.b.now c.half-t.result c.run_end-end.result c.count_cuts-pieces.result c.half-t.ensures c.run_end-end.ensures c.count_cuts-pieces.ensures.0

pieces : (c : After-count_cuts-pieces) →
    let a = c.args in
    pieces_of a.leaf a.p (entries_of a.leaf a.b.now)
    ≡ pieces_after a.leaf c.half-t.result a.b.now c.run_end-end.result (c.count_cuts-pieces.result + 1) 0
pieces c =
    let a = c.args in
    pieces_code a.leaf a.p a.b.now c.half-t.result c.run_end-end.result c.count_cuts-pieces.result c.half-t.ensures c.run_end-end.ensures c.count_cuts-pieces.ensures.0

-- as many as the list has
listed : (c : Else-pages-pieces) →
    let a = c.args in
    (length a.pages.now ≡ length (pieces_of a.leaf a.p (entries_of a.leaf a.b.now)))
    × (pieces_of a.leaf a.p (entries_of a.leaf a.b.now) ≡ pieces_after a.leaf c.half-t.result a.b.now c.run_end-end.result (length a.pages.now) 0)
listed c =
    let a = c.args in
    let at = (goal.at.Else-pages-pieces c).After-count_cuts-pieces in (
      c.if-pages-pieces.false ∙ sym (many at),
      pieces at ∙ ap (λ (k : ℕ). pieces_after a.leaf c.half-t.result a.b.now c.run_end-end.result k 0) (sym c.if-pages-pieces.false),
    )

pub returns-then-pages-pieces : goal.returns-then-pages-pieces
returns-then-pages-pieces c =
    let a = c.args in
    let es = entries_of a.leaf a.b.now in
    let m = many (goal.at.returns-then-pages-pieces c).After-count_cuts-pieces in
    (ap Err c.from.ensures ∙ written_count a.leaf a.p a.n (node_size a.leaf es) (pieces_of a.leaf a.p es) a.pages.now (length a.out.now) (λ e. c.if-pages-pieces.true (e ∙ m)), refl)

-- whether they are placed
placing : (c : After-all_placed) →
    let a = c.args in
    placed a.n a.pages.now (capped_spans a.leaf a.p (pieces_of a.leaf a.p (entries_of a.leaf a.b.now))) ≡ c.all_placed.result
placing c =
    let a = c.args in
    ap (λ (ps : List (List Entry)). placed a.n a.pages.now (capped_spans a.leaf a.p ps)) (listed (goal.at.After-all_placed c).Else-pages-pieces).1 ∙ sym c.all_placed.ensures

pub returns-then-not-all_placed : goal.returns-then-not-all_placed
returns-then-not-all_placed c =
    let a = c.args in
    let es = entries_of a.leaf a.b.now in
    let no = placing (goal.at.returns-then-not-all_placed c).After-all_placed ∙ c.if-not-all_placed.true in (
      ap Err c.from-then-not-all_placed.ensures
          ∙ written_unplaced a.leaf a.p a.n (node_size a.leaf es) (pieces_of a.leaf a.p es) a.pages.now (length a.out.now) (count_most a.n c.requires.p_value.1) no,
      refl,
    )

placed_all : (c : Else-not-all_placed) →
    let a = c.args in
    placed a.n a.pages.now (capped_spans a.leaf a.p (pieces_of a.leaf a.p (entries_of a.leaf a.b.now))) ≡ true
placed_all c = placing (goal.at.Else-not-all_placed c).After-all_placed ∙ c.if-not-all_placed.false

pub returns-then-size-gt-NODE_LIMIT : goal.returns-then-size-gt-NODE_LIMIT
returns-then-size-gt-NODE_LIMIT c =
    let a = c.args in
    let at = goal.at.returns-then-size-gt-NODE_LIMIT c in
    let es = entries_of a.leaf a.b.now in
    let k = c.node_size-size.ensures in (
      ap Err c.from-then-size-gt-NODE_LIMIT.ensures
          ∙ written_large a.leaf a.p a.n (node_size a.leaf es) (pieces_of a.leaf a.p es) a.pages.now (length a.out.now)
          (count_most a.n c.requires.p_value.1) (listed at.Else-pages-pieces).0 (placed_all at.Else-not-all_placed) (omega arith),
      refl,
    )

-- whether they fit
fitting : (c : After-fits) →
    let a = c.args in
    leb (bytes_in a.p (capped_spans a.leaf a.p (pieces_of a.leaf a.p (entries_of a.leaf a.b.now)))) (length a.out.now) ≡ c.fits.result
fitting c =
    let a = c.args in
    ap (λ (ps : List (List Entry)). leb (bytes_in a.p (capped_spans a.leaf a.p ps)) (length a.out.now)) (pieces (goal.at.After-fits c).After-count_cuts-pieces) ∙ sym c.fits.ensures

pub returns-then-not-fits : goal.returns-then-not-fits
returns-then-not-fits c =
    let a = c.args in
    let at = goal.at.returns-then-not-fits c in
    let es = entries_of a.leaf a.b.now in
    let k = c.node_size-size.ensures in (
      ap Err c.from-then-not-fits.ensures
          ∙ written_short a.leaf a.p a.n (node_size a.leaf es) (pieces_of a.leaf a.p es) a.pages.now (length a.out.now)
          (count_most a.n c.requires.p_value.1) (listed at.Else-pages-pieces).0 (placed_all at.Else-not-all_placed) (omega arith) (fitting at.After-fits ∙ c.if-not-fits.true),
      refl,
    )

-- so their bytes are no more than the output's
room : (c : Else-not-fits) →
    let a = c.args in
    bytes_in a.p (spans_of a.leaf a.p (pieces_of a.leaf a.p (entries_of a.leaf a.b.now))) ≤ length a.out.now
room c =
    let a = c.args in
    let at = goal.at.Else-not-fits c in
    let es = entries_of a.leaf a.b.now in
    bytes_fit a.leaf a.p a.n (node_size a.leaf es) (pieces_of a.leaf a.p es) a.pages.now (length a.out.now)
    (count_most a.n c.requires.p_value.1) (listed at.Else-pages-pieces).0 (placed_all at.Else-not-all_placed) (fitting at.After-fits ∙ c.if-not-fits.false)

pub write_pieces-bytes-requires-clause-pages_in_bounds : goal.write_pieces-bytes-requires-clause-pages_in_bounds
write_pieces-bytes-requires-clause-pages_in_bounds c =
    let a = c.args in
    let at = goal.at.write_pieces-bytes-requires-clause-pages_in_bounds c in
    let e = ap (λ (ps : List (List Entry)). bytes_in a.p (spans_of a.leaf a.p ps)) (listed at.Else-pages-pieces).1 in
    let k = room at.Else-not-fits in
    omega arith

pub returns : goal.returns
returns c =
    let a = c.args in
    let at = goal.at.returns c in
    let es = entries_of a.leaf a.b.now in
    let ps = pieces_of a.leaf a.p es in
    let k = c.node_size-size.ensures in
    let r = size_range a.p c.requires.p_value.0 in
    let l = listed at.Else-pages-pieces in
    let bytes = c.write_pieces-bytes.ensures.0 ∙ sym (ap (λ (x : List (List Entry)). bytes_in a.p (spans_of a.leaf a.p x)) l.1) in (
      ap Ok (ap₂ written bytes (sym (many at.After-count_cuts-pieces)))
          ∙ written_made a.leaf a.p a.n (node_size a.leaf es) ps a.pages.now (length a.out.now)
          (count_most a.n c.requires.p_value.1) l.0 (placed_all at.Else-not-all_placed) (omega arith) (room at.Else-not-fits),
      put_made _ (pack_all a.leaf a.p a.pages.now ps) a.out.now (ap (pack_all a.leaf a.p a.pages.now) (sym l.1))
          (bytes ∙ sym (length_all a.leaf a.p a.pages.now ps (omega arith) l.0)) c.write_pieces-bytes.ensures.1,
    )

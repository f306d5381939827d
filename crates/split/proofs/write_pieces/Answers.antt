use mathlib.Core.Path.{sym, ap, ◌∙◌}
use mathlib.Core.List.{List}
use Prim.Native.Nat.{ℕ, ◌+◌, ◌-◌}
use native.Mathlib.Omega.{arith}
use lib.ListN.{length, get_or, drop}
use Rattle.field.specs.Run.{put_at}
use Rattle.field.proofs.RunLaws.{put_nil, put_put, length-put}
use Rattle.pack.specs.Pack.{pack}
use Rattle.pack.specs.Plan.{range}
use Rattle.pack.proofs.PackLaws.{length_pack}
use Rattle.cuts.specs.Run.{pieces_after}
use Rattle.split.specs.Write.{pack_all}
use Rattle.split.proofs.WriteLaws.{bytes_turn, bytes_done, pack_turn, pack_done}
use Rattle.split.proofs.write_pieces.Goals as goal

pub write_piece-at-requires-clause-c_le_e : goal.write_piece-at-requires-clause-c_le_e
write_piece-at-requires-clause-c_le_e c =
    let a = c.args in
    let l = c.loop-id in
    let n = bytes_turn a.leaf a.t a.b.now a.end a.p a.pages.now l.id-index l.c c.piece_end-e.result (omega arith) c.piece_end-e.ensures.0 in
    let v = l.invariant.2 in
    (c.piece_end-e.ensures.1, c.piece_end-e.ensures.2, omega arith, c.requires.ready.most, omega arith)

pub loop-id-preserved : goal.loop-id-preserved
loop-id-preserved c =
    let a = c.args in
    let r = c.requires.ready in
    let l = c.loop-id in
    let e = c.piece_end-e.result in
    let x : List ℕ = pack a.leaf (get_or a.pages.now l.id-index 0) (range a.leaf a.b.now l.c e) a.p in
    let n = bytes_turn a.leaf a.t a.b.now a.end a.p a.pages.now l.id-index l.c e (omega arith) c.piece_end-e.ensures.0 in
    let k = pack_turn a.leaf a.t a.b.now a.end a.p a.pages.now l.id-index l.c e (omega arith) c.piece_end-e.ensures.0 in
    let v = l.invariant.2 in
    let z = length_pack a.leaf (get_or a.pages.now l.id-index 0) (range a.leaf a.b.now l.c e) a.p (omega arith) in
    let u = c.write_piece-at.ensures.0 in
    let f = c.write_piece-at.ensures.1 in
    let rest : List ℕ = pack_all a.leaf a.p (drop (l.id-index + 1) a.pages.now) (pieces_after a.leaf a.t a.b.now a.end (length a.pages.now - (l.id-index + 1)) e) in
    let y = put_put l.out l.at c.write_piece-at.result x rest (omega arith) (omega arith) in (
      c.piece_end-e.ensures.2,
      ap length f ∙ length-put l.out l.at x (omega arith) ∙ l.invariant.1,
      omega arith,
      ap (λ (q : List ℕ). put_at q c.write_piece-at.result rest) f ∙ y ∙ ap (put_at l.out l.at) (sym k) ∙ l.invariant.3,
    )

pub returns : goal.returns
returns c =
    let a = c.args in
    let l = c.loop-id in
    let n = bytes_done a.leaf a.t a.b.now a.end a.p a.pages.now l.id-index l.c (omega arith) in
    let k = pack_done a.leaf a.t a.b.now a.end a.p a.pages.now l.id-index l.c (omega arith)
    (pieces_after a.leaf a.t a.b.now a.end (length a.pages.now - l.id-index) l.c) in
    let v = l.invariant.2 in
    (omega arith, sym (put_nil l.out l.at) ∙ ap (put_at l.out l.at) (sym k) ∙ l.invariant.3)

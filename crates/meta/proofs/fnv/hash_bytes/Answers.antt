use Rattle.std.proofs.Common.{◌∙◌, sym}
use Rattle.std.proofs.lemmas.List.{at_drop_more, at_drop_all}
use Rattle.meta.specs.Fnv.{hash_from}
use Rattle.meta.proofs.fnv.hash_bytes.Goals as goal

pub loop-byte-preserved : goal.loop-byte-preserved
unfolding hash_from
loop-byte-preserved c =
    let l = c.loop-byte in
    let turn = at_drop_more (hash_from l.hash) c.args.s.now l.byte-index 0 c.loop-byte-test.true in
    rw c.from.ensures (sym turn ∙ l.invariant)

pub returns : goal.returns
unfolding hash_from
returns c =
    let l = c.loop-byte in
    sym (at_drop_all (hash_from l.hash) c.args.s.now l.byte-index c.loop-byte-test.false) ∙ l.invariant

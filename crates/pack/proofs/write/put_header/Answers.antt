-- `pack::write::put_header` meets its contract: its four words are the header. Assumes nothing.
use Rattle.pack.specs.Pack.{header}
use Rattle.pack.proofs.write.put_header.Goals as goal

pub returns : goal.returns
unfolding header
returns c =
    let t = c.type_number-t.ensures in
    let o = c.put_four.ensures in
    cc

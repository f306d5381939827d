-- `page::layout::key` meets its contract: the part from the key's start to its end is the key. Assumes nothing.
use Rattle.page.proofs.LayoutLaws.{key_part}
use Rattle.page.proofs.layout.key.Goals as goal

pub returns : goal.returns
returns c =
    let a = c.args in
    key_part a.leaf _ a.i _ _ c.key_at-start.ensures c.key_size.ensures

-- `page::layout::is_leaf` meets its contract. Assumes nothing.
use Rattle.page.proofs.layout.is_leaf.Goals as goal

pub returns : goal.returns
returns c = rw c.page_type.ensures

-- `freelist::list::is_listed` meets its contract: the digit of the xor is 1 where the two bits differ. Assumes nothing.
use Rattle.freelist.proofs.WordLaws.{listed_test}
use Rattle.freelist.proofs.list.is_listed.Goals as goal

pub returns : goal.returns
returns c = let a = c.args in listed_test a.t.now a.k

-- `meta::fnv::hash_u32` meets its contract. Assumes nothing.
use Rattle.std.proofs.Common.{ap, ◌∙◌}
use Rattle.meta.specs.Fnv.{hash_from}
use Rattle.meta.proofs.HashLaws.{high_first}
use Rattle.meta.proofs.fnv.hash_u32.Goals as goal

pub returns : goal.returns
returns c = c.hash_bytes.ensures ∙ ap (hash_from c.args.h) (c.to_be_bytes.ensures ∙ high_first 4 c.args.v)

-- `meta::fnv::hash_u64` meets its contract. Assumes nothing.
use Rattle.std.proofs.Common.{ap, ◌∙◌}
use Rattle.meta.specs.Fnv.{hash_from}
use Rattle.meta.proofs.HashLaws.{high_first}
use Rattle.meta.proofs.fnv.hash_u64.Goals as goal

pub returns : goal.returns
returns c = c.hash_bytes.ensures ∙ ap (hash_from c.args.h) (c.to_be_bytes-bytes.ensures ∙ high_first 8 c.args.v)

-- `meta::fnv::hash_bytes` meets its contract. The loop's invariant: the hash carried on over what is left of the slice is that over all of it.
-- Assumes nothing.
use Rattle.std.proofs.Common.{◌≡◌, drop}
use Rattle.meta.specs.Fnv.{hash_from}
use Rattle.meta.proofs.fnv.hash_bytes.Given as goal

abbrev pub invariant-loop-byte : goal.invariant-loop-byte
invariant-loop-byte l = hash_from l.hash (drop l.byte-index l.s) ≡ hash_from l.h l.s

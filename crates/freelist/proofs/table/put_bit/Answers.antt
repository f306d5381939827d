-- `freelist::table::put_bit` meets its contract. The one that is shifted is 2 ^ k.
-- Assumes nothing.
use mathlib.Core.Path.{ap}
use Prim.Native.Nat.{ℕ, ◌/◌, ◌%◌}
use native.Mathlib.Omega.{arith}
use lib.Bits.{bit_or, bit_xor}
use lib.ListN.{get_or, set}
use Rattle.freelist.specs.Table.{put_bit}
use Rattle.field.proofs.BitLaws.{one_shl}
use Rattle.freelist.proofs.table.put_bit.Goals as goal
use Rattle.freelist.proofs.table.put_bit.Goals.{then-on, else-on}

pub returns : goal.returns
unfolding put_bit
returns c =
    let a = c.args in
    let word = get_or a.t.now (a.j / 64) 0 in
    let one = one_shl (a.j % 64) (omega arith) in
    elim c.if-on.branch [
      | then-on w ↦ (rw (w.t-is, w.if-on.true) (ap (λ (x : ℕ). set a.t.now (a.j / 64) (bit_or word x)) one))
      | else-on w ↦ (rw (w.t-is, w.if-on.false) (ap (λ (x : ℕ). set a.t.now (a.j / 64) (bit_xor (bit_or word x) x)) one))
    ]

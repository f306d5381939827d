-- What the calls on a lent block go on with once its check has found it sound, and what a size that was counted tells.
-- Assumes nothing.
use mathlib.Core.Path.{◌≡◌}
use mathlib.Core.Bool.{Bool, true, false}
use mathlib.Core.List.{List}
use Prim.Native.Nat.{ℕ, ◌≤◌, ◌<◌}
use native.Mathlib.Omega.{arith}
use lib.Dec.{ltb}
use lib.ListN.{length}
use borrow.Author.Tests.{lt-ltb, le-ltb, leb-true, not-false}
use Rattle.field.specs.Sizes.{size_allowed}
use Rattle.page.specs.Layout.{is_leaf}
use Rattle.page.specs.PageRules.{SoundBlock, lent_check_of}
use Rattle.page.proofs.TestLaws.{and_both}
use Rattle.page.proofs.LentLaws.{lent_iff, lent_sound}
use Rattle.size.specs.Size.{node_limit, capped_size}
use Rattle.std.specs.Prelude.{Ok}

-- ---- page sizes
pub allowed_range : (P : ℕ) → size_allowed P ≡ true → (1024 ≤ P) × (P ≤ 65536)
allowed_range P e = let both = and_both _ _ e in (leb-true 1024 P both.0, leb-true P 65536 (and_both _ _ both.1).0)

-- ---- a lent block that passed
pub record Lent (P : ℕ) (b : List ℕ) : Type 0 where
  pub allowed : size_allowed P ≡ true
  pub least : 1024 ≤ P
  pub most : P ≤ 65536
  pub long : 32 ≤ length b
  pub sound : SoundBlock (is_leaf b) true b

pub lent : (P : ℕ) (b : List ℕ) → lent_check_of P b ≡ Ok tt → Lent P b
lent P b e =
    let s = lent_sound P b e in
    let a = (and_both _ _ (not-false _ ((lent_iff P b).0 e).0)).0 in
    let r = allowed_range P a in
    record { allowed = a; least = r.0; most = r.1; long = s.0; sound = s.1 }

-- as a leaf, and as a branch
pub lent_as : (P : ℕ) (b : List ℕ) (leaf : Bool) → lent_check_of P b ≡ Ok tt → is_leaf b ≡ leaf → SoundBlock leaf true b
lent_as P b leaf e h = let s : SoundBlock (is_leaf b) true b = (lent P b e).sound in rw h at s

-- ---- a counted size past the limit, and one within it
pub past_limit : (r size : ℕ) → r ≡ capped_size size → node_limit < r → ltb node_limit size ≡ true
past_limit r size e h = lt-ltb node_limit size (omega arith)

pub within_limit : (r size : ℕ) → r ≡ capped_size size → r ≤ node_limit → (r ≡ size) × (ltb node_limit size ≡ false)
within_limit r size e h = (omega arith, le-ltb node_limit size (omega arith))

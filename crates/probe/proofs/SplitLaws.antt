-- How many fields the answers of a split have.
-- Assumes nothing.
use mathlib.Core.Path.{◌≡◌, refl}
use Prim.Native.Nat.{ℕ}
use lib.ListN.{length}
use Rattle.std.specs.Prelude.{Ok, Err}
use Rattle.std.specs.declared.result.Result.{Result}
use Rattle.page.specs.declared.breach.Breach.{Breach}
use Rattle.split.specs.declared.Written.{Written}
use Rattle.cuts.specs.Numbers.{parted_fields}
use Rattle.split.specs.Numbers.{written_fields}

pub parted_count : (r : Result ℕ Breach) → length (parted_fields r) ≡ 5
parted_count (Ok made) = refl
parted_count (Err b) = refl

pub written_count : (r : Result Written Breach) → length (written_fields r) ≡ 6
written_count (Ok w) = refl
written_count (Err b) = refl

-- Numbers in a list of bytes: the lowest byte first, and the highest byte first. A yes or no as a number.
-- Assumes nothing.
use Rattle.std.specs.Prelude.{Bool, true, false, List, [], ◌∷◌, ◌++◌, ℕ, zero, suc, ◌+◌, ◌*◌, ◌/◌, ◌%◌, ◌^◌, get_or}

-- the number that the w bytes from `at` on stand for, the lowest first
unfoldable pub field : ℕ → List ℕ → ℕ → ℕ
field zero s at = 0
field (suc w) s at = get_or s at 0 + 256 * field w s (at + 1)

-- the w lowest bytes of v, the lowest first
unfoldable pub bytes_of : ℕ → ℕ → List ℕ
bytes_of zero v = []
bytes_of (suc w) v = v % 256 ∷ bytes_of w (v / 256)

-- the number that the w bytes from `at` on stand for, the highest first
unfoldable pub big_field : ℕ → List ℕ → ℕ → ℕ
big_field zero s at = 0
big_field (suc w) s at = 256 ^ w * get_or s at 0 + big_field w s (at + 1)

-- the w lowest bytes of v, the highest first
unfoldable pub big_bytes_of : ℕ → ℕ → List ℕ
big_bytes_of zero v = []
big_bytes_of (suc w) v = big_bytes_of w (v / 256) ++ (v % 256 ∷ [])

-- a yes is 1, a no is 0
abbrev pub flag_of : Bool → ℕ
flag_of true = 1
flag_of false = 0

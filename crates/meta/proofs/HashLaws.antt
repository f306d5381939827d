-- Laws of the hash: over joined bytes, the bytes of a number (over the width), and that it fits in 64 bits.
-- Assumes nothing.
use Rattle.std.proofs.Common.{◌≡◌, ℕ, zero, suc, ◌*◌, ◌/◌, ◌^◌, ◌<◌, List, [], ◌∷◌, ◌++◌, sym, refl, mod-lt, pow_pos}
use native.Mathlib.Nat.{mul_comm, div-div-eq-div-mul, pow-suc}
use lib.Bits.{bit_xor}
use Rattle.std.specs.Int.{byte_at, bytes_high_first}
use Rattle.field.specs.Field.{big_bytes_of}
use Rattle.meta.specs.Fnv.{prime, hash_step, hash_from}

-- ---- joined bytes
pub hash_append : (h : ℕ) (a b : List ℕ) → hash_from h (a ++ b) ≡ hash_from (hash_from h a) b
unfolding hash_from
hash_append h [] b = refl
hash_append h (x ∷ a) b = hash_append (hash_step h x) a b

-- ---- a number's bytes, the highest first: the first of them, over the width
byte_above : (w v : ℕ) → byte_at w (v / 256) ≡ byte_at (suc w) v
byte_above zero v = refl
byte_above (suc w) v = rw (div-div-eq-div-mul v 256 (256 ^ suc w), mul_comm 256 (256 ^ suc w), pow-suc 256 (suc w))

big_cons : (w v : ℕ) → big_bytes_of (suc w) v ≡ byte_at w v ∷ big_bytes_of w v
unfolding big_bytes_of
big_cons zero v = refl
big_cons (suc w) v = rw (big_cons w (v / 256), byte_above w v)

-- std has the same bytes
pub high_first : (w v : ℕ) → bytes_high_first w v ≡ big_bytes_of w v
unfolding big_bytes_of
high_first zero v = refl
high_first (suc w) v = rw (high_first w v, sym (big_cons w v))

-- ---- the hash fits
pub hash_fits : (h : ℕ) (bytes : List ℕ) → h < 2 ^ 64 → hash_from h bytes < 2 ^ 64
unfolding hash_from
hash_fits h [] l = l
hash_fits h (x ∷ bytes) l = hash_fits (hash_step h x) bytes (mod-lt (bit_xor h x * prime) (pow_pos 64))

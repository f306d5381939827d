-- FNV-1a at 64 bits, by the public rule: the hash starts at the basis; for each byte it is xored with the byte and then multiplied by the prime, modulo 2 ^ 64.
-- `bit_xor` goes by the binary digits of two numbers: a digit of the result is 1 where the two digits differ.
-- Assumes nothing.
use Rattle.std.specs.Prelude.{ℕ, ◌*◌, ◌%◌, ◌^◌, List, [], ◌∷◌, bit_xor}

-- the hash of no bytes
abbrev pub basis : ℕ
basis = 14695981039346656037

-- what each step multiplies by
abbrev pub prime : ℕ
prime = 1099511628211

-- the hash h, carried on over one byte
abbrev pub hash_step : ℕ → ℕ → ℕ
hash_step h byte = (bit_xor h byte * prime) % 2 ^ 64

-- the hash h, carried on over the bytes in their order
unfoldable pub hash_from : ℕ → List ℕ → ℕ
hash_from h [] = h
hash_from h (byte ∷ bytes) = hash_from (hash_step h byte) bytes

-- the hash of the bytes
abbrev pub fnv1a_of : List ℕ → ℕ
fnv1a_of bytes = hash_from basis bytes

-- Laws of numbers in bytes, over the width: how long they are, that they fit, that what was put is read back, what a row of stores leaves,
-- and where they stand in a part.
-- Assumes nothing.
use mathlib.Core.Path.{◌≡◌, refl, sym, ap, ap₂, ◌∙◌, subst}
use mathlib.Core.List.{List, [], ◌∷◌, ◌++◌, append_assoc}
use Prim.Native.Nat.{ℕ, zero, suc, ◌+◌, ◌*◌, ◌/◌, ◌%◌, ◌^◌, ◌≤◌, ◌<◌}
use native.Mathlib.Nat.{add_assoc, add-zero, div-one, div-div-eq-div-mul, pow-suc, div-lt_iff_lt-mul, mul-suc, mul-le-mul_left}
use native.Mathlib.Omega.{arith}
use lib.Dec.{lit<}
use Rattle.std.specs.Int.{bytes_low_first, byte_at}
use lib.Pow.{pow-add}
use lib.ListN.{set, length-set, length, get_or, take, drop, length-append}
use lib.Seq.{length-take-le, get_or-append_seam, get_or-take, get_or-drop}
use Rattle.field.specs.Field.{field, bytes_of, big_field}
use Rattle.field.proofs.RunLaws.{put_nil, put_cons}
use Rattle.field.specs.Run.{put_at}

-- each element is a byte
abbrev pub Bytes : List ℕ → Type 0
Bytes s = (k : ℕ) → get_or s k 0 < 256

-- k times a lower number is lower by k or more
pub times_below : (k x y : ℕ) → x < y → k * x + k ≤ k * y
times_below k x y h = rw (mul-suc k x) at (mul-le-mul_left k (lt-suc h))
  where
    lt-suc : x < y → suc x ≤ y
    lt-suc h = omega arith

-- ---- a number of w bytes fits in them
pub field_fits : (w : ℕ) (s : List ℕ) (at : ℕ) → Bytes s → field w s at < 256 ^ w
unfolding field
field_fits zero s at b = omega arith
field_fits (suc w) s at b = let e = pow-suc 256 w in omega (arith, field_fits w s (at + 1) b, b at)

pub big_fits : (w : ℕ) (s : List ℕ) (at : ℕ) → Bytes s → big_field w s at < 256 ^ w
unfolding big_field
big_fits zero s at b = omega arith
big_fits (suc w) s at b =
    let e = pow-suc 256 w in
    let k = times_below (256 ^ w) (get_or s at 0) 256 (b at) in
    omega (arith, big_fits w s (at + 1) b)

-- ---- numbers as bytes
pub length_bytes : (w v : ℕ) → length (bytes_of w v) ≡ w
unfolding bytes_of
length_bytes zero v = refl
length_bytes (suc w) v = ap suc (length_bytes w (v / 256))

-- the bytes as std has them, from byte i of a number on
low_bytes : (i w v : ℕ) → bytes_low_first i w v ≡ bytes_of w (v / 256 ^ i)
unfolding bytes_of
low_bytes i zero v = refl
low_bytes i (suc w) v = ap₂ ◌∷◌ (here i) (low_bytes (suc i) w v ∙ ap (bytes_of w) rest)
  where
    here : (k : ℕ) → byte_at k v ≡ v / 256 ^ k % 256
    here zero = ap (λ (n : ℕ). n % 256) (sym (div-one v))
    here (suc k) = refl

    rest : v / 256 ^ suc i ≡ v / 256 ^ i / 256
    rest =
        let e : suc i ≡ i + 1 = omega arith in
        ap (λ (n : ℕ). v / 256 ^ n) e ∙ ap (λ (n : ℕ). v / n) (pow-add 256 i 1) ∙ sym (div-div-eq-div-mul v (256 ^ i) 256)

pub le_bytes : (w v : ℕ) → bytes_low_first 0 w v ≡ bytes_of w v
le_bytes w v = low_bytes 0 w v ∙ ap (bytes_of w) (div-one v)

pub read_at : (w v : ℕ) (p q : List ℕ) → v < 256 ^ w → field w (p ++ bytes_of w v ++ q) (length p) ≡ v
unfolding field bytes_of
read_at zero v p q h = omega arith
read_at (suc w) v p q h =
    let b : ℕ = v % 256 in
    let rest : List ℕ = bytes_of w (v / 256) in
    let first : get_or (p ++ (b ∷ rest) ++ q) (length p) 0 ≡ b = rw append_assoc (get_or-append_seam p b (rest ++ q) 0) in
    let same : p ++ (b ∷ rest) ++ q ≡ p ++ (b ∷ []) ++ rest ++ q = simp append_assoc in
    let less : v / 256 < 256 ^ w = (div-lt_iff_lt-mul (lit< tt)).1 (rw pow-suc at h) in
    let others : field w (p ++ (b ∷ rest) ++ q) (length p + 1) ≡ v / 256 =
    rw (same, ← length-append p (b ∷ [])) (read_at w (v / 256) (p ++ (b ∷ [])) q less) in
    omega arith

-- what eight stores leave, one after the other
abbrev pub stores : ℕ → List ℕ → ℕ → ℕ → List ℕ
stores zero s at v = s
stores (suc w) s at v = stores w (set s at (v % 256)) (at + 1) (v / 256)

pub stores_put : (w : ℕ) (s : List ℕ) (at v : ℕ) → at + w ≤ length s → stores w s at v ≡ put_at s at (bytes_of w v)
unfolding bytes_of
stores_put zero s at v h = sym (put_nil s at)
stores_put (suc w) s at v h =
    stores_put w (set s at (v % 256)) (at + 1) (v / 256) (rw length-set (omega arith)) ∙ put_cons s at (v % 256) (bytes_of w (v / 256)) (omega arith)

-- a number put, and read at the same place
pub read_back : (w : ℕ) (s : List ℕ) (at v : ℕ) → at + w ≤ length s → v < 256 ^ w → field w (put_at s at (bytes_of w v)) at ≡ v
unfolding put_at
read_back w s at v fits h =
    subst (λ (n : ℕ). field w (take at s ++ bytes_of w v ++ drop (at + length (bytes_of w v)) s) n ≡ v) (length-take-le at s (omega arith))
    (read_at w v (take at s) (drop (at + length (bytes_of w v)) s) h)

-- ---- a number in a part
pub field_take : (w : ℕ) (s : List ℕ) (at n : ℕ) → at + w ≤ n → field w (take n s) at ≡ field w s at
unfolding field
field_take zero s at n h = refl
field_take (suc w) s at n h =
    let first : get_or (take n s) at 0 ≡ get_or s at 0 = get_or-take n s at 0 (omega arith) in
    rw (first, field_take w s (at + 1) n (omega arith))

pub field_drop : (w : ℕ) (s : List ℕ) (k at : ℕ) → field w (drop k s) at ≡ field w s (k + at)
unfolding field
field_drop zero s k at = refl
field_drop (suc w) s k at = rw (get_or-drop k s at 0, field_drop w s k (at + 1), add_assoc k at 1)

pub field_part : (w : ℕ) (s : List ℕ) (at n : ℕ) → w ≤ n → field w (take n (drop at s)) 0 ≡ field w s at
field_part w s at n h = field_take w (drop at s) 0 n (omega arith) ∙ field_drop w s at 0 ∙ ap (field w s) (add-zero at)

big_take : (w : ℕ) (s : List ℕ) (at n : ℕ) → at + w ≤ n → big_field w (take n s) at ≡ big_field w s at
unfolding big_field
big_take zero s at n h = refl
big_take (suc w) s at n h =
    let first : get_or (take n s) at 0 ≡ get_or s at 0 = get_or-take n s at 0 (omega arith) in
    rw (first, big_take w s (at + 1) n (omega arith))

big_drop : (w : ℕ) (s : List ℕ) (k at : ℕ) → big_field w (drop k s) at ≡ big_field w s (k + at)
unfolding big_field
big_drop zero s k at = refl
big_drop (suc w) s k at = rw (get_or-drop k s at 0, big_drop w s k (at + 1), add_assoc k at 1)

pub big_part : (w : ℕ) (s : List ℕ) (at n : ℕ) → w ≤ n → big_field w (take n (drop at s)) 0 ≡ big_field w s at
big_part w s at n h = big_take w (drop at s) 0 n (omega arith) ∙ big_drop w s at 0 ∙ ap (big_field w s) (add-zero at)

-- ---- the bytes of a number that was read, the other way round
big_tail : (w x : ℕ) (xs : List ℕ) (k : ℕ) → big_field w (x ∷ xs) (suc k) ≡ big_field w xs k
unfolding big_field
big_tail zero x xs k = refl
big_tail (suc w) x xs k =
    let e : suc k + 1 ≡ suc (k + 1) = omega arith in
    rw e (ap (λ (n : ℕ). 256 ^ w * get_or xs k 0 + n) (big_tail w x xs (k + 1)))

pub turned_field : (w : ℕ) (s : List ℕ) (at : ℕ) → Bytes s → big_field w (bytes_of w (field w s at)) 0 ≡ big_field w s at
unfolding field bytes_of big_field
turned_field zero s at b = refl
turned_field (suc w) s at b =
    let low : (get_or s at 0 + 256 * field w s (at + 1)) % 256 ≡ get_or s at 0 = omega (arith, b at) in
    let rest : (get_or s at 0 + 256 * field w s (at + 1)) / 256 ≡ field w s (at + 1) = omega (arith, b at) in
    rw (low, rest)
    (ap (λ (n : ℕ). 256 ^ w * get_or s at 0 + n) (big_tail w (get_or s at 0) (bytes_of w (field w s (at + 1))) 0 ∙ turned_field w s (at + 1) b))

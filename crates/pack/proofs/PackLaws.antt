-- Laws of a packed block's parts: how long they are, two runs of entries one after the other, and what the four writers leave.
-- Assumes nothing.
use mathlib.Core.Path.{◌≡◌, refl, sym, ap, ◌∙◌}
use mathlib.Core.Bool.{Bool, true, false}
use mathlib.Core.List.{List, [], ◌∷◌, ◌++◌, append_assoc}
use Prim.Native.Nat.{ℕ, zero, suc, ◌+◌, ◌-◌, ◌*◌, ◌/◌, ◌%◌, ◌≤◌, ◌<◌, min}
use native.Mathlib.Nat.{add-zero, mul-zero, mul-suc, div-add-mod', mod-lt, le-div_iff_mul-le, div-lt_iff_lt-mul, suc-mul}
use native.Mathlib.Omega.{arith}
use lib.ListN.{length, take, drop, replicate, length-append, length-replicate}
use lib.Seq.{take_at}
use Rattle.std.specs.Int.{div_ceil}
use Rattle.field.specs.Field.{bytes_of}
use Rattle.field.specs.Run.{put_at}
use Rattle.field.specs.Sizes.{pages_needed}
use Rattle.field.proofs.RunLaws.{put_then, put_front, put_start}
use Rattle.page.specs.Layout.{Entry, element_size, element_at}
use Rattle.pack.specs.Pack.{node_size, content_end, block_size, header, element, body, table, bodies, pack}

-- ---- lengths
-- an element takes a byte and more
pub count_below_lem : (leaf : Bool) (n : ℕ) → n ≤ element_size leaf * n
count_below_lem false n = omega arith
count_below_lem true n = omega arith

pub length_element : (leaf : Bool) (pos : ℕ) (e : Entry) → length (element leaf pos e) ≡ element_size leaf
unfolding element bytes_of
length_element false pos e = refl
length_element true pos e = refl

pub length_header : (leaf : Bool) (id n o : ℕ) → length (header leaf id n o) ≡ 32
unfolding header bytes_of
length_header leaf id n o = refl

pub length_table : (leaf : Bool) (at d : ℕ) (es : List Entry) → length (table leaf at d es) ≡ element_size leaf * length es
unfolding table
length_table leaf at d [] = sym (mul-zero (element_size leaf))
length_table leaf at d (e ∷ es) =
    let s = element_size leaf in
    let h = length_table leaf (at + s) (d + length (body e)) es in
    let k = length_element leaf (d - at) e in
    let m = mul-suc s (length es) in
    omega (arith, length-append (element leaf (d - at) e) (table leaf (at + s) (d + length (body e)) es))

-- the content ends where the bodies do, 8 bytes before the node's size
pub node_size_lem : (leaf : Bool) (es : List Entry) → node_size leaf es ≡ element_at leaf (length es) + length (bodies es) + 8
unfolding node_size bodies
node_size_lem leaf [] = let m = mul-zero (element_size leaf) in omega arith
node_size_lem leaf (e ∷ es) =
    let h = node_size_lem leaf es in
    let m = mul-suc (element_size leaf) (length es) in
    omega (arith, length-append (body e) (bodies es), length-append e.key e.value)

pub content_end_lem : (leaf : Bool) (es : List Entry) → content_end leaf es ≡ element_at leaf (length es) + length (bodies es)
content_end_lem leaf es = omega (arith, node_size_lem leaf es)

-- ---- of two runs of entries
pub bodies_append : (xs ys : List Entry) → bodies (xs ++ ys) ≡ bodies xs ++ bodies ys
unfolding bodies
bodies_append [] ys = refl
bodies_append (e ∷ xs) ys = rw (bodies_append xs ys) (sym (append_assoc (body e) (bodies xs) (bodies ys)))

pub length_bodies_append : (xs ys : List Entry) → length (bodies (xs ++ ys)) ≡ length (bodies xs) + length (bodies ys)
length_bodies_append xs ys = rw (bodies_append xs ys) (length-append (bodies xs) (bodies ys))

pub table_append : (leaf : Bool) (at d : ℕ) (xs ys : List Entry)
    → table leaf at d (xs ++ ys) ≡ table leaf at d xs ++ table leaf (at + element_size leaf * length xs) (d + length (bodies xs)) ys
unfolding table bodies
table_append leaf at d [] ys = rw (mul-zero, add-zero at, add-zero d)
table_append leaf at d (e ∷ xs) ys =
    let s = element_size leaf in
    let m = mul-suc s (length xs) in
    let p : at + s + s * length xs ≡ at + s * suc (length xs) = omega arith in
    let q : d + length (body e) + length (bodies xs) ≡ d + length (body e ++ bodies xs) = omega (arith, length-append (body e) (bodies xs)) in
    rw (append_assoc, ← p, ← q) (ap (λ (l : List ℕ). element leaf (d - at) e ++ l) (table_append leaf (at + s) (d + length (body e)) xs ys))

-- a node's 40 bytes are counted once
pub node_append : (leaf : Bool) (xs ys : List Entry) → node_size leaf (xs ++ ys) + 40 ≡ node_size leaf xs + node_size leaf ys
unfolding node_size
node_append leaf [] ys = omega arith
node_append leaf (e ∷ xs) ys = let h = node_append leaf xs ys in omega arith

-- a table put after a table is one table, and bodies put after bodies are one run of bodies
module _ {o₁ o₂ : List ℕ} (o : List ℕ) (at w : ℕ) (xs ys : List Entry) (h : w ≤ length o) where
  pub table_then : (leaf : Bool) (d e : ℕ) → w ≡ at + element_size leaf * length xs → e ≡ d + length (bodies xs)
      → o₁ ≡ put_at o at (table leaf at d xs) → o₂ ≡ put_at o₁ w (table leaf w e ys) → o₂ ≡ put_at o at (table leaf at d (xs ++ ys))
  table_then leaf d e hw he p q =
      let l = length_table leaf at d xs in
      put_then o at w (table leaf at d xs) (table leaf w e ys) (omega arith) h p q ∙ rw (table_append leaf at d xs ys, hw, he)

  pub bodies_then : w ≡ at + length (bodies xs)
      → o₁ ≡ put_at o at (bodies xs) → o₂ ≡ put_at o₁ w (bodies ys) → o₂ ≡ put_at o at (bodies (xs ++ ys))
  bodies_then hw p q = put_then o at w (bodies xs) (bodies ys) hw h p q ∙ rw (bodies_append xs ys)

-- ---- the pages needed cover the size, and are no more than that takes
module _ (size P : ℕ) (h : 0 < P) where
  pub covers : size ≤ pages_needed size P * P
  covers = omega (arith, div-add-mod' (size + (P - 1)) P, mod-lt (size + (P - 1)) h)

  pub one_page : 0 < size → 1 ≤ pages_needed size P
  one_page k = (le-div_iff_mul-le h).1 (omega arith)

  -- they are a division rounded up
  pub ceil_pages : div_ceil size P ≡ pages_needed size P
  ceil_pages = go (size % P) refl
    where
      go : (r : ℕ) → size % P ≡ r → size / P + min 1 r ≡ pages_needed size P
      go zero e =
          let d = div-add-mod' size P in
          let m = suc-mul (size / P) P in
          let low = (le-div_iff_mul-le {x = size / P} {y = size + (P - 1)} h).1 (omega arith) in
          let high = (div-lt_iff_lt-mul {x = size + (P - 1)} {y = suc (size / P)} h).1 (omega arith) in
          omega arith
      go (suc r) e =
          let d = div-add-mod' size P in
          let s = mod-lt size h in
          let m = suc-mul (size / P) P in
          let n = suc-mul (suc (size / P)) P in
          let low = (le-div_iff_mul-le {x = suc (size / P)} {y = size + (P - 1)} h).1 (omega arith) in
          let high = (div-lt_iff_lt-mul {x = size + (P - 1)} {y = suc (suc (size / P))} h).1 (omega arith) in
          omega arith

  pub last_page : 0 < size → (pages_needed size P - 1) * P < size
  last_page k =
      let r = div-add-mod' (size + (P - 1)) P in
      let p = one_page k in
      let m = suc-mul (pages_needed size P - 1) P in
      let e : suc (pages_needed size P - 1) ≡ pages_needed size P = omega arith in
      let m' : pages_needed size P * P ≡ (pages_needed size P - 1) * P + P = rw e at m in
      omega arith

-- ---- a block is what the four writers leave
pub length_pack : (leaf : Bool) (id : ℕ) (es : List Entry) (P : ℕ) → 0 < P → length (pack leaf id es P) ≡ block_size leaf es P
unfolding pack
length_pack leaf id es P p =
    let c = covers (node_size leaf es) P p in
    let n = node_size_lem leaf es in
    simp (length-append, length_header, length_table, length-replicate) (omega arith)

module _ (leaf : Bool) (id : ℕ) (es : List Entry) (P : ℕ) where
  pack_parts : (n d end pages : ℕ) → n ≡ length es → d ≡ element_at leaf (length es) → end ≡ content_end leaf es → pages ≡ pages_needed (node_size leaf es) P
      → header leaf id n (pages - 1) ++ (table leaf 32 d es ++ bodies es ++ replicate (pages * P - end) 0) ≡ pack leaf id es P
  unfolding pack
  pack_parts n d end pages hn hd he hp = rw (hn, hd, he, hp) (simp append_assoc)

  -- in the code's numbers: the count, where the bodies start and end, and the pages
  pub pack_put : {o₁ o₂ o₃ o₄ : List ℕ} (o : List ℕ) (n d end pages : ℕ)
      → n ≡ length es → d ≡ element_at leaf (length es) → end + 8 ≡ node_size leaf es → pages ≡ pages_needed (node_size leaf es) P
      → 0 < P → block_size leaf es P ≤ length o
      → o₁ ≡ put_at o 32 (table leaf 32 d es) → o₂ ≡ put_at o₁ d (bodies es)
      → o₃ ≡ put_at o₂ end (replicate (pages * P - end) 0) → o₄ ≡ put_at o₃ 0 (header leaf id n (pages - 1))
      → (pages * P ≡ block_size leaf es P) × (o₄ ≡ pack leaf id es P ++ drop (pages * P) o)
  pack_put o n d end pages hn hd he hp p f q r s t =
      let z : pages * P ≡ block_size leaf es P = ap (λ (k : ℕ). k * P) hp in
      let c = covers (node_size leaf es) P p in
      let size = node_size_lem leaf es in
      let x0 : List ℕ = header leaf id n (pages - 1) in
      let x1 : List ℕ = table leaf 32 d es in
      let x3 : List ℕ = replicate (pages * P - end) 0 in
      let l0 = length_header leaf id n (pages - 1) in
      let l1 = length_table leaf 32 d es in
      let l12 = length-append x1 (bodies es) in
      let whole = put_then o 32 end (x1 ++ bodies es) x3 (omega arith) (omega arith) (put_then o 32 d x1 (bodies es) (omega arith) (omega arith) q r) s in
      let packed = pack_parts n d end pages hn hd (omega arith) hp in
      let len : length (pack leaf id es P) ≡ pages * P = length_pack leaf id es P p ∙ sym z in (
        z,
        t ∙ ap (λ (l : List ℕ). put_at l 0 x0) whole ∙ put_front o 32 x0 (x1 ++ bodies es ++ x3) l0 (omega arith) ∙ put_start o (x0 ++ (x1 ++ bodies es ++ x3))
            ∙ rw (packed, len),
      )

-- the block is the front of what a writer leaves
pub front : {o' : List ℕ} (leaf : Bool) (id : ℕ) (es : List Entry) (P r : ℕ) (o : List ℕ) → 0 < P → r ≡ block_size leaf es P
    → o' ≡ pack leaf id es P ++ drop r o → take r o' ≡ pack leaf id es P
front leaf id es P r o p hr e = rw e (take_at (pack leaf id es P) (drop r o) r (length_pack leaf id es P p ∙ sym hr))

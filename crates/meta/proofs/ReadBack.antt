-- What was written is read back, and writing changes bytes 32 to 103 only.
-- Assumes nothing.
use Rattle.std.proofs.Common.{◌≡◌, ℕ, ◌+◌, ◌-◌, ◌^◌, ◌<◌, ◌≤◌, ◌⊎◌, List, ◌++◌, length, get_or, take, drop, Ok, sym, refl, ap, ◌∙◌, subst, ⊎_elim, append_assoc, arith, lit<, length-append, length-take-le, get_or-drop, get_or-take, get_or-append-add}
use lib.ListN.{get_or-append}
use Rattle.field.specs.Field.{field, bytes_of, big_bytes_of}
use Rattle.field.specs.Run.{put_at}
use Rattle.field.proofs.FieldLaws.{read_at}
use Rattle.field.proofs.RunLaws.{length-put}
use Rattle.meta.specs.Fnv.{basis}
use Rattle.meta.specs.Meta.{meta_at, hash_input, hash_of, with_hash, InRange, read_of, meta_bytes, page_left}
use Rattle.meta.specs.declared.Meta.{Meta}
use Rattle.meta.proofs.HashLaws.{hash_fits}
use Rattle.meta.proofs.MetaLaws.{read_right, write_right, left_or_put}

-- ---- the lengths
pub length_meta : (m : Meta) → length (meta_bytes m) ≡ 72
unfolding meta_bytes bytes_of
length_meta m = refl

pub length_input : (m : Meta) → length (hash_input m) ≡ 60
unfolding hash_input big_bytes_of
length_input m = refl

-- ---- what a put leaves: outside the run, and a number in it
regroup : (a b c d e : List ℕ) → a ++ b ++ c ++ (d ++ e) ≡ a ++ (b ++ c ++ d) ++ e
regroup a b c d e = simp append_assoc

module _ (o run : List ℕ) (at : ℕ) (fits : at + length run ≤ length o) where
  put_before : (k : ℕ) → k < at → get_or (put_at o at run) k 0 ≡ get_or o k 0
  unfolding put_at
  put_before k h =
      let t = length-take-le at o (omega arith) in
      let l = length-append (take at o) run in
      get_or-append (take at o ++ run) _ 0 k (omega arith) ∙ get_or-append (take at o) run 0 k (omega arith) ∙ get_or-take at o k 0 h

  put_after : (k : ℕ) → at + length run ≤ k → get_or (put_at o at run) k 0 ≡ get_or o k 0
  unfolding put_at
  put_after k h =
      let t = length-take-le at o (omega arith) in
      let l = length-append (take at o) run in
      let n = at + length run in
      let e : k ≡ length (take at o ++ run) + (k - n) = omega arith in
      let f : n + (k - n) ≡ k = omega arith in
      ap (λ (i : ℕ). get_or (put_at o at run) i 0) e
      ∙ get_or-append-add (take at o ++ run) (drop n o) (k - n) 0
      ∙ get_or-drop n o (k - n) 0
      ∙ ap (λ (i : ℕ). get_or o i 0) f

  -- v stands k bytes into the run
  put_field : (k w v : ℕ) → take k run ++ bytes_of w v ++ drop (k + w) run ≡ run → length (take k run) ≡ k → v < 256 ^ w
      → field w (put_at o at run) (at + k) ≡ v
  unfolding put_at
  put_field k w v e l h =
      let t = length-take-le at o (omega arith) in
      let p = take at o ++ take k run in
      let q = drop (at + length run) o in
      let n : length p ≡ at + k = length-append (take at o) (take k run) ∙ omega arith in
      let same : p ++ bytes_of w v ++ (drop (k + w) run ++ q) ≡ take at o ++ run ++ q =
      regroup (take at o) (take k run) (bytes_of w v) (drop (k + w) run) q ∙ ap (λ (r : List ℕ). take at o ++ r ++ q) e in
      subst (λ (x : ℕ). field w (take at o ++ run ++ q) x ≡ v) n (subst (λ (s : List ℕ). field w s (length p) ≡ v) same (read_at w v p (drop (k + w) run ++ q) h))

-- ---- the fields of a meta that was put
hash_small : (m : Meta) → hash_of m < 2 ^ 64
hash_small m = hash_fits basis (hash_input m) (lit< tt)

meta_back : (page : List ℕ) (m : Meta) → InRange m → 104 ≤ length page → meta_at (put_at page 32 (meta_bytes m)) ≡ with_hash m
unfolding meta_at with_hash meta_bytes bytes_of
meta_back page m r long =
    let at = put_field page (meta_bytes m) 32 long in
    let e0 = at 0 4 m.meta_page refl refl r.meta_page in
    let e1 = at 4 4 m.magic refl refl r.magic in
    let e2 = at 8 4 m.version refl refl r.version in
    let e3 = at 16 8 m.pagesize refl refl r.pagesize in
    let e4 = at 24 8 m.root_page refl refl r.root_page in
    let e5 = at 32 8 m.next_int refl refl r.next_int in
    let e6 = at 40 8 m.num_pages refl refl r.num_pages in
    let e7 = at 48 8 m.freelist_page refl refl r.freelist_page in
    let e8 = at 56 8 m.tx_id refl refl r.tx_id in
    let e9 = at 64 8 (hash_of m) refl refl (hash_small m) in
    λ i. record {
      meta_page = e0 i;
      magic = e1 i;
      version = e2 i;
      pagesize = e3 i;
      root_page = e4 i;
      next_int = e5 i;
      num_pages = e6 i;
      freelist_page = e7 i;
      tx_id = e8 i;
      hash = e9 i;
    }

own_hash : (m : Meta) → (with_hash m).hash ≡ hash_of (with_hash m)
unfolding with_hash hash_input
own_hash m = refl

-- ---- the theorems

-- a meta written to a page of type 3 is read back, with the hash of its fields
pub read_back : (page : List ℕ) (m : Meta) → InRange m → 104 ≤ length page → get_or page 8 0 ≡ 3 → read_of (page_left page m) ≡ Ok (with_hash m)
read_back page m r long type =
    let run = meta_bytes m in
    let fits : 32 + length run ≤ length page = omega (arith, length_meta m) in
    let n = length-put page 32 run fits in
    let t = put_before page run 32 fits 8 (lit< tt) ∙ type in
    ap read_of (write_right page m long type).1
    ∙ read_right (put_at page 32 run) (with_hash m) (omega arith) t (sym (meta_back page m r long)) (own_hash m)

-- the page keeps its length
pub length_stays : (page : List ℕ) (m : Meta) → length (page_left page m) ≡ length page
length_stays page m = ⊎_elim (ap length) (λ p. ap length p.1 ∙ length-put page 32 (meta_bytes m) (omega (arith, p.0, length_meta m))) (left_or_put page m)

-- every byte before 32 and from 104 on stays
pub outside_stays : (page : List ℕ) (m : Meta) (k : ℕ) → (k < 32) ⊎ (104 ≤ k) → get_or (page_left page m) k 0 ≡ get_or page k 0
outside_stays page m k h = ⊎_elim (ap at) (λ p. ap at p.1 ∙ ⊎_elim (before p.0) (after p.0) h) (left_or_put page m)
  where
    run : List ℕ
    run = meta_bytes m

    at : List ℕ → ℕ
    at s = get_or s k 0

    before : 104 ≤ length page → k < 32 → at (put_at page 32 run) ≡ at page
    before long l = put_before page run 32 (omega (arith, length_meta m)) k l

    after : 104 ≤ length page → 104 ≤ k → at (put_at page 32 run) ≡ at page
    after long l = put_after page run 32 (omega (arith, length_meta m)) k (omega (arith, length_meta m))

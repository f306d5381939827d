-- What is packed is what is read: the header's numbers and the entries of a packed block are those that it was packed from.
-- Assumes nothing.
use mathlib.Core.Path.{◌≡◌, refl, sym, ap, ◌∙◌}
use mathlib.Core.Bool.{Bool, true, false}
use mathlib.Core.Logic.{⊎_elim}
use mathlib.Core.List.{List, [], ◌∷◌, ◌++◌, append_assoc, append-nil}
use Prim.Native.Nat.{ℕ, suc, ◌+◌, ◌-◌, ◌*◌, ◌^◌, ◌≤◌, ◌<◌}
use native.Mathlib.Nat.{mul-zero, mul-suc, eq-or-lt_of_le, le-mul_of_pos_right}
use native.Mathlib.Numerals.{add-one}
use native.Mathlib.Omega.{arith}
use lib.ListN.{length, get_or, take, drop, replicate, length-append}
use lib.Seq.{take_at, drop_at}
use Rattle.field.specs.Field.{field, bytes_of}
use Rattle.field.specs.Sizes.{pages_needed}
use Rattle.field.proofs.FieldLaws.{length_bytes, read_at}
use Rattle.page.specs.Layout.{Entry, id_of, type_of, count_of, overflow_of, element_size, element_at, tag_of, pos_of, key_size, value_size, key_at, value_at, value_end, key_of, value_of, entry_of, entries_from, entries_of}
use Rattle.pack.specs.Pack.{node_size, content_end, block_size, type_number, header, element, body, table, bodies, pack}
use Rattle.pack.specs.Plan.{entry_with}
use Rattle.pack.specs.Entries.{Storable, Each}
use Rattle.pack.proofs.PackLaws.{count_below_lem, length_element, length_header, length_table, node_size_lem, length_pack, one_page, last_page}

-- ---- a part of a list, and numbers in it, by what stands before them
part : (b p x q : List ℕ) (at n : ℕ) → b ≡ p ++ x ++ q → at ≡ length p → n ≡ length x → take n (drop at b) ≡ x
part b p x q at n e a l = rw (e, append_assoc p x q, drop_at p (x ++ q) at (sym a)) (take_at x q n (sym l))

word : (b p q : List ℕ) (at v : ℕ) → b ≡ p ++ bytes_of 8 v ++ q → at ≡ length p → v < 2 ^ 64 → field 8 b at ≡ v
word b p q at v e a h = rw (e, a) (read_at 8 v p q h)

-- a word that is a byte
byte : (b : List ℕ) (at v : ℕ) → field 8 b at ≡ v → v < 256 → get_or b at 0 ≡ v
unfolding field
byte b at v e h = omega arith

-- three words, one after the other, and a fourth
module _ (b pre rest : List ℕ) (x y z at : ℕ) (l : at ≡ length pre) (e : b ≡ pre ++ (bytes_of 8 x ++ bytes_of 8 y ++ bytes_of 8 z) ++ rest) where
  lengths : (length (pre ++ bytes_of 8 x) ≡ at + 8) × (length (pre ++ bytes_of 8 x ++ bytes_of 8 y) ≡ at + 16)
      × (length (pre ++ bytes_of 8 x ++ bytes_of 8 y ++ bytes_of 8 z) ≡ at + 24)
  lengths = simp (length-append, length_bytes) (omega arith, omega arith, omega arith)

  word1 : x < 2 ^ 64 → field 8 b at ≡ x
  word1 h = word b pre (bytes_of 8 y ++ bytes_of 8 z ++ rest) at x (e ∙ simp append_assoc) l h

  word2 : y < 2 ^ 64 → field 8 b (at + 8) ≡ y
  word2 h = word b (pre ++ bytes_of 8 x) (bytes_of 8 z ++ rest) (at + 8) y (e ∙ simp append_assoc) (sym lengths.0) h

  word3 : z < 2 ^ 64 → field 8 b (at + 16) ≡ z
  word3 h = word b (pre ++ bytes_of 8 x ++ bytes_of 8 y) rest (at + 16) z (e ∙ simp append_assoc) (sym lengths.1) h

  word4 : (u : ℕ) (more : List ℕ) → rest ≡ bytes_of 8 u ++ more → u < 2 ^ 64 → field 8 b (at + 24) ≡ u
  word4 u more r h =
      word b (pre ++ bytes_of 8 x ++ bytes_of 8 y ++ bytes_of 8 z) more (at + 24) u (e ∙ rw r (simp append_assoc)) (sym lengths.2) h

-- ---- what an element says, by what stands before it
record Read (leaf : Bool) (b : List ℕ) (i : ℕ) (e : Entry) (at : ℕ) : Type 0 where
  tag_is : tag_of leaf b i ≡ e.tag
  pos_is : pos_of leaf b i ≡ at
  key_is : key_size leaf b i ≡ length e.key
  value-is : value_size leaf b i ≡ length e.value

read : (leaf : Bool) (b pre rest : List ℕ) (i pos : ℕ) (e : Entry) → b ≡ pre ++ element leaf pos e ++ rest → element_at leaf i ≡ length pre
    → pos + length (body e) < 2 ^ 64 → Storable leaf e → Read leaf b i e pos
unfolding element
read false b pre rest i pos e he hi small storable =
    let lb = length-append e.key e.value in
    let t = e.tag in
    let k = length e.key in
    let at = element_at false i in
    record {
      tag_is = word1 b pre rest t k pos at hi he storable.0;
      pos_is = word3 b pre rest t k pos at hi he (omega arith);
      key_is = word2 b pre rest t k pos at hi he (omega arith);
      value-is = sym (ap length storable.1);
    }
read true b pre rest i pos e he hi small storable =
    let lb = length-append e.key e.value in
    let t = e.tag in
    let k = length e.key in
    let v = length e.value in
    let at = element_at true i in
    let more : List ℕ = bytes_of 8 v ++ rest in
    let h : b ≡ pre ++ (bytes_of 8 t ++ bytes_of 8 pos ++ bytes_of 8 k) ++ more = he ∙ simp append_assoc in
    record {
      tag_is = byte b at t (word1 b pre more t pos k at hi h (omega arith)) storable;
      pos_is = word2 b pre more t pos k at hi h (omega arith);
      key_is = word3 b pre more t pos k at hi h (omega arith);
      value-is = word4 b pre more t pos k at hi h v rest refl (omega arith);
    }

-- ---- an entry, by what stands before its element and before its body
same_entry : (e : Entry) (tag : ℕ) (key value : List ℕ) → tag ≡ e.tag → key ≡ e.key → value ≡ e.value → entry_with tag key value ≡ e
same_entry e tag key value t k v = rw (t, k, v)

record There (leaf : Bool) (b : List ℕ) (i : ℕ) (e : Entry) (d : ℕ) : Type 0 where
  same : entry_of leaf b i ≡ e
  starts : key_at leaf b i ≡ d
  ends : value_end leaf b i ≡ d + length (body e)

there : (leaf : Bool) (b : List ℕ) (i : ℕ) (e : Entry) (pos : ℕ) (pre rest front back : List ℕ)
    → b ≡ pre ++ element leaf pos e ++ rest → b ≡ front ++ body e ++ back
    → element_at leaf i ≡ length pre → length front ≡ length pre + pos → pos + length (body e) < 2 ^ 64 → Storable leaf e
    → There leaf b i e (length front)
unfolding key_of value_of
there leaf b i e pos pre rest front back he hb hi hp small storable =
    let r = read leaf b pre rest i pos e he hi small storable in
    let at : key_at leaf b i ≡ length front = omega arith in
    let l = length-append front e.key in
    let lb = length-append e.key e.value in
    let next : value_at leaf b i ≡ length (front ++ e.key) = omega arith in
    record {
      same = same_entry e _ _ _ r.tag_is
          (part b front e.key (e.value ++ back) (key_at leaf b i) (key_size leaf b i) (hb ∙ simp append_assoc) at r.key_is)
          (part b (front ++ e.key) e.value back (value_at leaf b i) (value_size leaf b i) (hb ∙ simp append_assoc) next r.value-is);
      starts = at;
      ends = omega arith;
    }

-- ---- a run of entries: pre stands before its table, mid between its table and its bodies
regroup : (b pre x t mid y r post : List ℕ) → b ≡ pre ++ (x ++ t) ++ mid ++ (y ++ r) ++ post
    → (b ≡ pre ++ x ++ (t ++ mid ++ (y ++ r) ++ post)) × (b ≡ pre ++ (x ++ t) ++ mid ++ y ++ (r ++ post)) × (b ≡ pre ++ x ++ t ++ (mid ++ y) ++ r ++ post)
regroup b pre x t mid y r post h = (h ∙ simp append_assoc, h ∙ simp append_assoc, h ∙ simp append_assoc)

-- the entries are read, and each one's bytes lie among the bodies, which stand from d on
pub record Run (leaf : Bool) (b : List ℕ) (i d : ℕ) (es : List Entry) : Type 0 where
  pub entries : entries_from leaf b (length es) i ≡ es
  pub placed : (j : ℕ) → i ≤ j → j < i + length es → (d ≤ key_at leaf b j) × (value_end leaf b j ≤ d + length (bodies es))

run : (leaf : Bool) (es : List Entry) (b pre mid post : List ℕ) (i at d : ℕ)
    → b ≡ pre ++ table leaf at d es ++ mid ++ bodies es ++ post
    → length pre ≡ at → at ≡ element_at leaf i → d ≡ at + element_size leaf * length es + length mid → d + length (bodies es) < 2 ^ 64
    → Each (Storable leaf) es → Run leaf b i d es
unfolding entries_from table bodies Each
run leaf [] b pre mid post i at d h hp hi hd small storable = record { entries = refl; placed = λ j l m. absurd (omega arith) }
run leaf (e ∷ es) b pre mid post i at d h hp hi hd small storable =
    let s = element_size leaf in
    let x : List ℕ = element leaf (d - at) e in
    let t : List ℕ = table leaf (at + s) (d + length (body e)) es in
    let g = regroup b pre x t mid (body e) (bodies es) post h in
    let lx = length_element leaf (d - at) e in
    let lt = length_table leaf (at + s) (d + length (body e)) es in
    let m1 = mul-suc s (length es) in
    let m2 = mul-suc s i in
    let m3 : s * (i + 1) ≡ s * suc i = rw (add-one i) in
    let lxt = length-append x t in
    let lpx = length-append pre x in
    let lp = length-append pre (x ++ t) in
    let lf = length-append (pre ++ (x ++ t)) mid in
    let lm = length-append mid (body e) in
    let lb = length-append (body e) (bodies es) in
    let f : length (pre ++ (x ++ t) ++ mid) ≡ d = omega arith in
    let here = there leaf b i e (d - at) pre (t ++ mid ++ (body e ++ bodies es) ++ post) (pre ++ (x ++ t) ++ mid) (bodies es ++ post)
    g.0 g.1 (omega arith) (omega arith) (omega arith) storable.0 in
    let rest = run leaf es b (pre ++ x) (mid ++ body e) post (i + 1) (at + s) (d + length (body e)) g.2 (omega arith) (omega arith) (omega arith) (omega arith) storable.1 in
    let low = here.starts in
    let high = here.ends in
    let own : (d ≤ key_at leaf b i) × (value_end leaf b i ≤ d + length (body e ++ bodies es)) = (omega arith, omega arith) in
    let first = here.same in
    let others = rest.entries in
    record {
      entries = cc;
      placed = λ j l m.
          ⊎_elim (λ q. rw q at own) (λ q. let k = rest.placed j (omega arith) (omega arith) in (omega arith, omega arith)) (eq-or-lt_of_le l);
    }

-- ---- a whole block
small_type : (leaf : Bool) → type_number leaf < 256
small_type false = omega arith
small_type true = omega arith

abbrev zeros : Bool → List Entry → ℕ → List ℕ
zeros leaf es P = replicate (block_size leaf es P - content_end leaf es) 0

module _ (leaf : Bool) (id : ℕ) (es : List Entry) (P : ℕ) where
  -- what stands after the first three words of the header
  abbrev after : List ℕ
  after = bytes_of 8 (pages_needed (node_size leaf es) P - 1) ++ (table leaf 32 (element_at leaf (length es)) es ++ bodies es ++ zeros leaf es P)

  words : pack leaf id es P ≡ [] ++ (bytes_of 8 id ++ bytes_of 8 (type_number leaf) ++ bytes_of 8 (length es)) ++ after
  unfolding pack header
  words = simp append_assoc

  pub id_packed : id < 2 ^ 64 → id_of (pack leaf id es P) ≡ id
  id_packed h = word1 (pack leaf id es P) [] after id (type_number leaf) (length es) 0 refl words h

  pub type_packed : type_of (pack leaf id es P) ≡ type_number leaf
  type_packed =
      let t = small_type leaf in
      byte (pack leaf id es P) 8 (type_number leaf) (word2 (pack leaf id es P) [] after id (type_number leaf) (length es) 0 refl words (omega arith)) t

module _ (leaf : Bool) (id : ℕ) (es : List Entry) (P : ℕ) (p : 0 < P) (small : node_size leaf es < 2 ^ 64) where
  pub count_packed : count_of (pack leaf id es P) ≡ length es
  count_packed =
      let n = node_size_lem leaf es in
      let c = count_below_lem leaf (length es) in
      word3 (pack leaf id es P) [] (after leaf id es P) id (type_number leaf) (length es) 0 refl (words leaf id es P) (omega arith)

  pub overflow_packed : overflow_of (pack leaf id es P) ≡ pages_needed (node_size leaf es) P - 1
  overflow_packed =
      let l = last_page (node_size leaf es) P p (omega (arith, node_size_lem leaf es)) in
      let m = le-mul_of_pos_right (pages_needed (node_size leaf es) P - 1) p in
      word4 (pack leaf id es P) [] (after leaf id es P) id (type_number leaf) (length es) 0 refl (words leaf id es P)
      (pages_needed (node_size leaf es) P - 1) _ refl (omega arith)

  -- rule 4's: the block is as long as its overflow says
  pub length_packed : (overflow_of (pack leaf id es P) + 1) * P ≡ length (pack leaf id es P)
  length_packed =
      let o = one_page (node_size leaf es) P p (omega (arith, node_size_lem leaf es)) in
      let e : pages_needed (node_size leaf es) P - 1 + 1 ≡ pages_needed (node_size leaf es) P = omega arith in
      rw (overflow_packed, e) (sym (length_pack leaf id es P p))

  parts : pack leaf id es P
      ≡ header leaf id (length es) (pages_needed (node_size leaf es) P - 1) ++ table leaf 32 (element_at leaf (length es)) es ++ [] ++ bodies es ++ zeros leaf es P
  unfolding pack
  parts = rw append-nil

  pub packed_run : Each (Storable leaf) es → Run leaf (pack leaf id es P) 0 (element_at leaf (length es)) es
  packed_run storable =
      let n = node_size_lem leaf es in
      let z = mul-zero (element_size leaf) in
      run leaf es (pack leaf id es P) (header leaf id (length es) (pages_needed (node_size leaf es) P - 1)) [] (zeros leaf es P) 0 32 (element_at leaf (length es)) parts
      (length_header leaf id (length es) (pages_needed (node_size leaf es) P - 1)) (omega arith) (omega arith) (omega arith) storable

  pub decode : Each (Storable leaf) es → entries_of leaf (pack leaf id es P) ≡ es
  unfolding entries_of
  decode storable = rw count_packed (packed_run storable).entries

-- The quick lookup looks at nothing else: two images of the same length that have the same bytes wherever it looks for a key have the same answer. By the turns of
-- halving and the levels of the descent, each together with what it looks at.
-- Assumes nothing, not even that an image passes.
use mathlib.Core.Path.{◌≡◌, refl, ap}
use mathlib.Core.Bool.{Bool, true, false, cond, ◌&&◌}
use mathlib.Core.List.{List, [], ◌∷◌, ◌++◌}
use Prim.Native.Nat.{ℕ, zero, suc, ◌+◌, ◌*◌, ◌≤◌, ◌<◌, min}
use native.Mathlib.Omega.{arith}
use lib.Dec.{ltb}
use lib.ListN.{length, take, drop, length-take, length-drop}
use lib.Seq.{get_or-take, get_or-drop}
use Rattle.field.specs.Field.{field}
use Rattle.std.specs.declared.cmp.Ordering.{Ordering}
use Rattle.std.specs.declared.cmp.Ordering.TheVariants.{Less, Equal, Greater}
use Rattle.field.specs.Order.{order_of}
use Rattle.page.specs.Layout.{type_of, count_of, overflow_of, is_leaf, element_at, page_of, kind_of, pos_of, key_size, value_size, key_at, key_of}
use Rattle.page.specs.PageRules.{header_bad, table_bad, element_bad, block_of, breach}
use Rattle.page.proofs.LayoutLaws.{SameHeader}
use Rattle.page.proofs.BlockLaws.{header_same}
use Rattle.walk.specs.Tree.{Key, inside, Every}
use Rattle.view.specs.Geometry.{geometry_bad}
use Rattle.view.specs.Fault.{fault_at}
use Rattle.lookup.specs.declared.descent.Step.TheVariants.{Down, Found, Absent}
use Rattle.lookup.specs.Descent.{Stepped, descend, onward}
use Rattle.quick.specs.Halving.{Halved, here, middle, by_order, halve, halves_of}
use Rattle.view.specs.View.{value_item}
use Rattle.quick.specs.Quick.{says_of, block_says, page_says, quick_of}
use Rattle.reads.specs.Reads.{middles, looks_at, Run, run, SameIn, header_runs, number_runs, key_runs, element_runs, child_runs, block_runs, page_runs, onward_runs, descent_runs, reads_of, SameRead}
use Rattle.reads.proofs.RunLaws.{every_split}
use Rattle.reads.proofs.SameLaws.{same_within, same_drop, same_take, same_field, same_order}
use Rattle.std.specs.Prelude.{Ok, Err}
use Rattle.field.specs.declared.refusal.Refusal.TheVariants.{Geometry, Header, Table}

-- ---- an element

-- element i has the same numbers in two blocks
record SameNumbers (leaf : Bool) (b b' : List ℕ) (i : ℕ) : Type 0 where
  pos : pos_of leaf b' i ≡ pos_of leaf b i
  key : key_size leaf b' i ≡ key_size leaf b i
  value : value_size leaf b' i ≡ value_size leaf b i
  kind : leaf ≡ true → kind_of b' i ≡ kind_of b i

-- what halving found has the same numbers
abbrev SameFound : Bool → List ℕ → List ℕ → Halved → Type 0
SameFound leaf b b' (Ok place) = place.found ≡ true → SameNumbers leaf b b' place.at
SameFound leaf b b' (Err i) = Unit

-- two blocks have the same bytes wherever two images have, counted from `start` on
abbrev Parts : List ℕ → List ℕ → ℕ → List ℕ → List ℕ → Type 0
Parts image image' start b b' = (at : ℕ) (r : Run) → r.from ≡ start + at → SameIn image image' r → SameIn b b' (run at r.bytes)

module _ (image image' : List ℕ) (start : ℕ) (b b' : List ℕ) (parts : Parts image image' start b b') where
  -- a number of 8 bytes that stands in a run, o bytes from its start
  number : (at o : ℕ) (r : Run) → r.from + o ≡ start + at → o + 8 ≤ r.bytes → SameIn image image' r → field 8 b' at ≡ field 8 b at
  number at o r e l h = same_field 8 b b' at (parts at (run (r.from + o) 8) e (same_within image image' r.from o 8 r.bytes l h))

  same_numbers : (leaf : Bool) (i : ℕ) → Every (SameIn image image') (number_runs leaf start i) → SameNumbers leaf b b' i
  same_numbers false i h =
      let r : Run = run (start + element_at false i + 8) 16 in
      record {
        pos = number (element_at false i + 16) 8 r (omega arith) (omega arith) h.0;
        key = number (element_at false i + 8) 0 r (omega arith) (omega arith) h.0;
        value = refl;
        kind = λ e. absurd cc;
      }
  same_numbers true i h =
      let r : Run = run (start + element_at true i + 8) 24 in
      let at : element_at true i + 0 ≡ element_at true i = omega arith in
      record {
        pos = number (element_at true i + 8) 0 r (omega arith) (omega arith) h.1.0;
        key = number (element_at true i + 16) 8 r (omega arith) (omega arith) h.1.0;
        value = number (element_at true i + 24) 16 r (omega arith) (omega arith) h.1.0;
        kind = λ e. rw at at (parts (element_at true i) (run (start + element_at true i) 1) refl h.0 0 (omega arith));
      }

  same_header : Every (SameIn image image') (header_runs start) → SameHeader b' b
  same_header h =
      let r : Run = run (start + 16) 16 in
      record {
        id = number 0 0 (run start 9) (omega arith) (omega arith) h.0;
        type = parts 0 (run start 9) (omega arith) h.0 8 (omega arith);
        count = number 16 0 r (omega arith) (omega arith) h.1.0;
        overflow = number 24 8 r (omega arith) (omega arith) h.1.0;
      }

  same_child : (i : ℕ) → SameIn image image' (run (start + element_at false i) 8) → page_of b' i ≡ page_of b i
  same_child i h = same_field 8 b b' (element_at false i) (parts (element_at false i) (run (start + element_at false i) 8) refl h)

  -- what halving comes to is the same step
  same_says : (leaf : Bool) (h : Halved) → SameFound leaf b b' h → Every (SameIn image image') (child_runs leaf start h)
      → says_of leaf start b' h ≡ says_of leaf start b h
  same_says leaf (Err i) f c = refl
  same_says false (Ok place) f c = ap (λ (page : ℕ). Ok (Down page)) (same_child place.at c.0)
  same_says true (Ok place) f c = go place.found f
    where
      go : (t : Bool) → (t ≡ true → SameNumbers true b b' place.at)
          → ◌≡◌ {A = Stepped} (Ok (cond t (Found (value_item start b' place.at).value) Absent)) (Ok (cond t (Found (value_item start b place.at).value) Absent))
      go true f = let n = f refl in rw (n.kind refl, n.pos, n.key, n.value)
      go false f = refl

-- rule 6 says the same of an element
same_bad : (leaf : Bool) (b b' : List ℕ) (i : ℕ) → length b' ≡ length b → count_of b' ≡ count_of b → SameNumbers leaf b b' i
    → element_bad leaf b' i ≡ element_bad leaf b i
unfolding element_bad
same_bad false b b' i l c n = rw (l, c, n.pos, n.key)
same_bad true b b' i l c n = rw (l, c, n.kind refl, n.pos, n.key, n.value)

-- its key stands the same to the one looked for
same_key : (leaf : Bool) (b b' : List ℕ) (key : Key) (i : ℕ) → length b' ≡ length b → SameNumbers leaf b b' i
    → SameIn b b' (run (key_at leaf b i) (min (key_size leaf b i) (length key)))
    → order_of (key_of leaf b' i) key ≡ order_of (key_of leaf b i) key
unfolding key_of
same_key leaf b b' key i l n h =
    let size = key_size leaf b i in
    let at = key_at leaf b i in
    rw (n.pos, n.key)
    (same_order (take size (drop at b)) (take size (drop at b')) key (simp (length-take, length-drop, l))
    (λ j m k.
    let o : j < size = omega (arith, length-take size (drop at b)) in
    rw (get_or-take size (drop at b') j 0 o, get_or-take size (drop at b) j 0 o, get_or-drop at b' j 0, get_or-drop at b j 0)
    (h j (omega arith))))

-- ---- halving
module _ (image image' : List ℕ) (start : ℕ) (leaf : Bool) (b b' : List ℕ) (key : Key) (parts : Parts image image' start b b')
    (lengths : length b' ≡ length b) (counts : count_of b' ≡ count_of b)
  where
    -- what is looked at of these elements is the same
    abbrev SameLooked : List ℕ → Type 0
    SameLooked is = Every (SameIn image image') (element_runs leaf start b key is)

    -- halving comes to the same
    abbrev Alike : Halved → Halved → Type 0
    Alike h h' = (h' ≡ h) × SameFound leaf b b' h

    -- element i and those after it
    looked_first : (i : ℕ) (is : List ℕ) → SameLooked (i ∷ is)
        → SameNumbers leaf b b' i × (element_bad leaf b i ≡ false → order_of (key_of leaf b' i) key ≡ order_of (key_of leaf b i) key) × SameLooked is
    unfolding element_runs
    looked_first i is h =
        let Q = SameIn image image' in
        let all = every_split Q (number_runs leaf start i ++ key_runs leaf start b key i) (element_runs leaf start b key is) h in
        let own = every_split Q (number_runs leaf start i) (key_runs leaf start b key i) all.0 in
        let n = same_numbers image image' start b b' parts leaf i own.0 in
        let r : Run = run (start + key_at leaf b i) (min (key_size leaf b i) (length key)) in
        (n, (λ e. let k : Every Q (r ∷ []) = rw e at own.1 in same_key leaf b b' key i lengths n (parts (key_at leaf b i) r refl k.0)), all.1)

    -- a turn, after which both halves come to the same: by the order of the key at the middle, and after rule 6
    turn_order : (i : ℕ) (o : Ordering) (lower higher : List ℕ) (x x' y y' : Halved) → SameNumbers leaf b b' i
        → (SameLooked lower → Alike x x')
        → (SameLooked higher → Alike y y')
        → SameLooked (by_order o lower [] higher)
        → Alike (by_order o x (Ok (here i)) y) (by_order o x' (Ok (here i)) y')
    turn_order i Less lower higher x x' y y' n f g h = f h
    turn_order i Equal lower higher x x' y y' n f g h = (refl, λ e. n)
    turn_order i Greater lower higher x x' y y' n f g h = g h

    turn : (i : ℕ) (bad : Bool) (o o' : Ordering) (lower higher : List ℕ) (x x' y y' : Halved) → SameNumbers leaf b b' i
        → (bad ≡ false → o' ≡ o)
        → (SameLooked lower → Alike x x')
        → (SameLooked higher → Alike y y')
        → SameLooked (cond bad [] (by_order o lower [] higher))
        → Alike (cond bad (Err i) (by_order o x (Ok (here i)) y)) (cond bad (Err i) (by_order o' x' (Ok (here i)) y'))
    turn i true o o' lower higher x x' y y' n e f g h = (refl, tt)
    turn i false o o' lower higher x x' y y' n e f g h = rw (e refl) (turn_order i o lower higher x x' y y' n f g h)

    same_halve : (turns low high : ℕ) → SameLooked (middles leaf b key turns low high) → Alike (halve leaf b key turns low high) (halve leaf b' key turns low high)
    unfolding halve middles element_runs
    same_halve zero low high h = (refl, λ f. absurd cc)
    same_halve (suc turns) low high h = go (same_halve turns) (ltb low high) refl
      where
        go : ((low high : ℕ) → SameLooked (middles leaf b key turns low high) → Alike (halve leaf b key turns low high) (halve leaf b' key turns low high))
            → (t : Bool)
            → ltb low high ≡ t
            → Alike (halve leaf b key (suc turns) low high) (halve leaf b' key (suc turns) low high)
        go ih false e = rw e (refl, λ f. absurd cc)
        go ih true e =
            let m = middle low high in
            let o = order_of (key_of leaf b m) key in
            let lower = middles leaf b key turns (m + 1) high in
            let higher = middles leaf b key turns low m in
            let rest : List ℕ = cond (element_bad leaf b m) [] (by_order o lower [] higher) in
            let all : SameLooked (m ∷ rest) = rw e at h in
            let first = looked_first m rest all in
            let x = turn m (element_bad leaf b m) o (order_of (key_of leaf b' m) key) lower higher _ _ _ _ first.0 first.1 (ih (m + 1) high) (ih low m) first.2 in
            rw (e, same_bad leaf b b' m lengths counts first.0) x

    same_halves : SameLooked (looks_at leaf b key) → Alike (halves_of leaf b key) (halves_of leaf b' key)
    unfolding looks_at halves_of
    same_halves h = rw counts (same_halve (count_of b) 0 (count_of b) h)

-- ---- a block that starts at byte `start`
same_table : (leaf empty : Bool) (b b' : List ℕ) → length b' ≡ length b → count_of b' ≡ count_of b → table_bad leaf empty b' ≡ table_bad leaf empty b
unfolding table_bad
same_table leaf empty b b' l c = rw (l, c)

module _ (image image' : List ℕ) (start : ℕ) (top : Bool) (b b' : List ℕ) (key : Key) (parts : Parts image image' start b b')
    (lengths : length b' ≡ length b) (counts : count_of b' ≡ count_of b) (types : type_of b' ≡ type_of b)
  where
    same_block : Every (SameIn image image') (block_runs start top b key) → block_says start top b' key ≡ block_says start top b key
    unfolding block_says block_runs
    same_block h = rw (types, same_table (is_leaf b) (top && is_leaf b) b b' lengths counts) (go (table_bad (is_leaf b) (top && is_leaf b) b) refl)
      where
        go : (t : Bool)
            → table_bad (is_leaf b) (top && is_leaf b) b ≡ t
            → cond t (Err (breach Table 0 0)) (says_of (is_leaf b) start b' (halves_of (is_leaf b) b' key))
            ≡ cond t (Err (breach Table 0 0)) (says_of (is_leaf b) start b (halves_of (is_leaf b) b key))
        go true e = refl
        go false e =
            let both = every_split (SameIn image image') (element_runs (is_leaf b) start b key (looks_at (is_leaf b) b key)) (child_runs (is_leaf b) start (halves_of (is_leaf b) b key)) (rw e at h) in
            let x = same_halves image image' start (is_leaf b) b b' key parts lengths counts both.0 in
            rw x.0 (same_says image image' start b b' parts (is_leaf b) (halves_of (is_leaf b) b key) x.1 both.1)

-- ---- pages and the descent
module _ (image image' : List ℕ) (P N : ℕ) (key : Key) (same_length : length image' ≡ length image) where
  module _ (q : ℕ) (overflow : overflow_of (drop (q * P) image') ≡ overflow_of (drop (q * P) image)) where
    block_parts : Parts image image' (q * P) (block_of image P q) (block_of image' P q)
    unfolding block_of
    block_parts at r e h =
        rw overflow
        (same_take (drop (q * P) image) (drop (q * P) image') ((overflow_of (drop (q * P) image) + 1) * P) (run at r.bytes)
        (same_drop image image' (q * P) at r e h))

    block_lengths : length (block_of image' P q) ≡ length (block_of image P q)
    unfolding block_of
    block_lengths = rw overflow (simp (length-take, length-drop, same_length))

  same_page : (q : ℕ) (top : Bool) → Every (SameIn image image') (page_runs image P N key q top) → page_says image' P N key q top ≡ page_says image P N key q top
  unfolding page_says page_runs
  same_page q top h = rw (header_same N q s' s head) (go (header_bad N q s) refl)
    where
      s : List ℕ
      s = drop (q * P) image

      s' : List ℕ
      s' = drop (q * P) image'

      both : Every (SameIn image image') (header_runs (q * P)) × Every (SameIn image image') (cond (header_bad N q s) [] (block_runs (q * P) top (block_of image P q) key))
      both = every_split (SameIn image image') (header_runs (q * P)) (cond (header_bad N q s) [] (block_runs (q * P) top (block_of image P q) key)) h

      head : SameHeader s' s
      head = same_header image image' (q * P) s s' (λ at r e. same_drop image image' (q * P) at r e) both.0

      go : (t : Bool)
          → header_bad N q s ≡ t
          → cond t (Err (breach Header 0 0)) (block_says (q * P) top (block_of image' P q) key) ≡ cond t (Err (breach Header 0 0)) (block_says (q * P) top (block_of image P q) key)
      go true e = refl
      go false e =
          let parts = block_parts q head.overflow in
          let own = same_header image image' (q * P) (block_of image P q) (block_of image' P q) parts both.0 in
          same_block image image' (q * P) top (block_of image P q) (block_of image' P q) key parts (block_lengths q head.overflow) own.count own.type
          (rw e at both.1)

  -- where the same was looked at from page q on, the descent from there comes to the same
  abbrev Same : ℕ → Bool → ℕ → Type 0
  Same d top q =
      Every (SameIn image image') (descent_runs image P N key d top q) → descend N (page_says image' P N key) d top q ≡ descend N (page_says image P N key) d top q

  same_descent : (d : ℕ) (top : Bool) (q : ℕ) → Same d top q
  unfolding descend descent_runs
  same_descent zero top q h = refl
  same_descent (suc d) top q h = go (same_descent d false) (inside N q) refl
    where
      onwards : ((child : ℕ) → Same d false child) → (s : Stepped) → Every (SameIn image image') (onward_runs (descent_runs image P N key d false) s)
          → onward (descend N (page_says image' P N key) d false) q s ≡ onward (descend N (page_says image P N key) d false) q s
      onwards ih (Ok (Down child)) r = ih child r
      onwards ih (Ok (Found v)) r = refl
      onwards ih (Ok Absent) r = refl
      onwards ih (Err b) r = refl

      go : ((child : ℕ) → Same d false child) → (t : Bool) → inside N q ≡ t
          → descend N (page_says image' P N key) (suc d) top q ≡ descend N (page_says image P N key) (suc d) top q
      go ih false e = rw e
      go ih true e =
          let s = page_says image P N key q top in
          let both = every_split (SameIn image image') (page_runs image P N key q top) (onward_runs (descent_runs image P N key d false) s) (rw e at h) in
          rw (e, same_page q top both.0) (onwards ih s both.1)

same_geometry : (image image' : List ℕ) (P N : ℕ) → length image' ≡ length image → geometry_bad image' P N ≡ geometry_bad image P N
unfolding geometry_bad
same_geometry image image' P N e = rw e

-- two images of the same length with the same bytes wherever the quick lookup looks for a key have the same answer
pub same_answer : (image image' : List ℕ) (P N root : ℕ) (key : Key) → SameRead image image' P N root key → quick_of image' P N root key ≡ quick_of image P N root key
unfolding quick_of reads_of
same_answer image image' P N root key s = rw (same_geometry image image' P N s.same_length) (go (geometry_bad image P N) refl)
  where
    go : (t : Bool)
        → geometry_bad image P N ≡ t
        → cond t (Err (fault_at Geometry 0 0 0)) (descend N (page_says image' P N key) 16 true root) ≡ cond t (Err (fault_at Geometry 0 0 0)) (descend N (page_says image P N key) 16 true root)
    go true e = refl
    go false e = same_descent image image' P N key s.same_length 16 true root (rw e at s.same_bytes)

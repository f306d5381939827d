-- Laws of a range of a source block's entries: its parts, the room that each entry has, runs of entries that follow one another, and a turn and the end of each loop over it.
-- Assumes nothing.
use mathlib.Core.Path.{◌≡◌, refl, sym, ap, ◌∙◌}
use mathlib.Core.Bool.{Bool, true}
use mathlib.Core.List.{List, [], ◌∷◌, ◌++◌, append-nil}
use Prim.Native.Nat.{ℕ, zero, suc, ◌+◌, ◌-◌, ◌*◌, ◌≤◌, ◌<◌}
use native.Mathlib.Nat.{add-zero, sub-zero, zero-add, suc-add, mul-suc, add-sub_cancel_left}
use native.Mathlib.Omega.{arith}
use lib.ListN.{length, take, drop, length-append, length-drop}
use lib.Seq.{length-take-le, take_all, take_at, drop_at, take-add, drop-drop}
use Rattle.field.specs.Run.{put_at}
use Rattle.field.proofs.RunLaws.{put_nil, put_put}
use Rattle.page.specs.Layout.{Entry, count_of, element_size, element_at, key_size, value_size, key_at, value_at, value_end, value_of, entry_of, entries_from, entries_of}
use Rattle.page.specs.PageRules.{SoundBlock}
use Rattle.page.proofs.EntryLaws.{length_from}
use Rattle.page.proofs.LayoutLaws.{element_room, key_part}
use Rattle.pack.specs.Pack.{element, body, table, bodies}
use Rattle.pack.specs.Plan.{range}
use Rattle.pack.proofs.PackLaws.{length_element, bodies_append}

-- two parts of a list, of which the second starts where the first ends, are one
part_join : (b : List ℕ) (s m e : ℕ) → s ≤ m → m ≤ e → take (m - s) (drop s b) ++ take (e - m) (drop m b) ≡ take (e - s) (drop s b)
part_join b s m e h k =
    let p : e - s ≡ m - s + (e - m) = omega arith in
    let q : s + (m - s) ≡ m = omega arith in
    rw (p, take-add (m - s) (e - m) (drop s b), drop-drop (m - s) s b, q)

-- a turn of the loop that copies runs: the bytes from start to end are the bodies of the entries from i to j
pub record BodiesTurn (leaf : Bool) (b o : List ℕ) (i j to w start end : ℕ) : Type 0 where
  pub within : end ≤ length b
  pub size : length (take (end - start) (drop start b)) ≡ end - start
  pub left : length (bodies (range leaf b i to)) ≡ end - start + length (bodies (range leaf b j to))
  pub put : w + (end - start) ≤ length o
      → put_at (put_at o w (take (end - start) (drop start b))) (w + (end - start)) (bodies (range leaf b j to)) ≡ put_at o w (bodies (range leaf b i to))

-- ---- the entries that a range has
module _ (leaf : Bool) (b : List ℕ) where
  pub range_next : (i to : ℕ) → i < to → range leaf b i to ≡ entry_of leaf b i ∷ range leaf b (i + 1) to
  unfolding entries_from
  range_next i to h = let e : to - i ≡ suc (to - (i + 1)) = omega arith in rw e

  pub range_end : (i to : ℕ) → to ≤ i → range leaf b i to ≡ []
  unfolding entries_from
  range_end i to h = let e : to - i ≡ 0 = omega arith in rw e

  from_split : (j k i : ℕ) → entries_from leaf b (j + k) i ≡ entries_from leaf b j i ++ entries_from leaf b k (i + j)
  unfolding entries_from
  from_split zero k i = rw (zero-add, add-zero)
  from_split (suc j) k i =
      let e : i + suc j ≡ i + 1 + j = omega arith in
      rw (suc-add, e) (ap (λ (l : List Entry). entry_of leaf b i ∷ l) (from_split j k (i + 1)))

  range_split : (i j to : ℕ) → i ≤ j → j ≤ to → range leaf b i to ≡ range leaf b i j ++ range leaf b j to
  range_split i j to h k =
      let e : j - i + (to - j) ≡ to - i = omega arith in
      let f : i + (j - i) ≡ j = omega arith in
      rw (e, f) at (from_split (j - i) (to - j) i)

  -- a range is a part of the entries
  pub range_part : (from to : ℕ) → from ≤ to → to ≤ count_of b → range leaf b from to ≡ take (to - from) (drop from (entries_of leaf b))
  unfolding entries_of
  range_part from to h k =
      let n : from + (to - from + (count_of b - to)) ≡ count_of b = omega arith in
      let s = rw (n, zero-add) at (from_split from (to - from + (count_of b - to)) 0) in
      rw (s, drop_at (entries_from leaf b from 0) _ from (length_from leaf b from 0), from_split (to - from) (count_of b - to) from)
      (sym (take_at (entries_from leaf b (to - from) from) _ (to - from) (length_from leaf b (to - from) from)))

  pub range_first : (to : ℕ) → to ≤ count_of b → range leaf b 0 to ≡ take to (entries_of leaf b)
  range_first to h = range_part 0 to (omega arith) h ∙ rw sub-zero

  pub range_last : (from : ℕ) → from ≤ count_of b → range leaf b from (count_of b) ≡ drop from (entries_of leaf b)
  unfolding entries_of
  range_last from h =
      let l = length_from leaf b (count_of b) 0 in
      range_part from (count_of b) h (omega arith)
      ∙ take_all (count_of b - from) (drop from (entries_from leaf b (count_of b) 0)) (rw (length-drop, l) (omega arith))

  -- ---- one entry: those of a sound block lie within it
  pub entry_room : SoundBlock leaf true b → (i : ℕ) → i < count_of b → (element_at leaf i + element_size leaf ≤ length b) × (value_end leaf b i ≤ length b)
  entry_room s i l = (element_room leaf b i l s.fits, s.within i l)

  -- the part of a block that the code takes is the value
  pub value_part : (i start size : ℕ) → start ≡ value_at leaf b i → size ≡ value_size leaf b i → take (start + size - start) (drop start b) ≡ value_of leaf b i
  unfolding value_of
  value_part i start size p q = rw (add-sub_cancel_left start size, p, q)

  -- ---- a run: entries whose keys and values follow one another are one part of the block
  body_part : (i : ℕ) → body (entry_of leaf b i) ≡ take (value_end leaf b i - key_at leaf b i) (drop (key_at leaf b i) b)
  body_part i =
      rw (← key_part leaf b i (key_at leaf b i) (key_size leaf b i) refl refl, ← value_part i (value_at leaf b i) (value_size leaf b i) refl refl)
      (part_join b (key_at leaf b i) (value_at leaf b i) (value_end leaf b i) (omega arith) (omega arith))

  pub run_one : (i : ℕ) → bodies (range leaf b i (i + 1)) ≡ take (value_end leaf b i - key_at leaf b i) (drop (key_at leaf b i) b)
  unfolding bodies
  run_one i = rw (range_next i (i + 1) (omega arith), range_end (i + 1) (i + 1) (omega arith), append-nil) (body_part i)

  pub run_next : (from i : ℕ) → from ≤ i → key_at leaf b from ≤ key_at leaf b i
      → bodies (range leaf b from i) ≡ take (key_at leaf b i - key_at leaf b from) (drop (key_at leaf b from) b)
      → bodies (range leaf b from (i + 1)) ≡ take (value_end leaf b i - key_at leaf b from) (drop (key_at leaf b from) b)
  run_next from i h k e =
      rw (range_split from i (i + 1) h (omega arith), bodies_append (range leaf b from i) (range leaf b i (i + 1)), e, run_one i)
      (part_join b (key_at leaf b from) (key_at leaf b i) (value_end leaf b i) k (omega arith))

  -- ---- a turn of each loop
  module _ (o : List ℕ) (i to w : ℕ) (h : i < to) where
    pub bodies_next : length (bodies (range leaf b i to)) ≡ length (body (entry_of leaf b i)) + length (bodies (range leaf b (i + 1) to))
    unfolding bodies
    bodies_next = rw (range_next i to) (length-append (body (entry_of leaf b i)) (bodies (range leaf b (i + 1) to)))

    pub table_next : element_size leaf * (to - i) ≡ element_size leaf + element_size leaf * (to - (i + 1))
    table_next = let e : to - i ≡ suc (to - (i + 1)) = omega arith in let m = mul-suc (element_size leaf) (to - (i + 1)) in rw e (omega arith)

    pub table_turn : (d : ℕ) → w + element_size leaf ≤ length o
        → put_at (put_at o w (element leaf (d - w) (entry_of leaf b i))) (w + element_size leaf)
        (table leaf (w + element_size leaf) (d + length (body (entry_of leaf b i))) (range leaf b (i + 1) to))
        ≡ put_at o w (table leaf w d (range leaf b i to))
    unfolding table
    table_turn d k = rw (range_next i to) (put_put o w (w + element_size leaf) (element leaf (d - w) (entry_of leaf b i)) _ (rw length_element) k)

  pub bodies_turn : (o : List ℕ) (i j to w start end : ℕ) → i ≤ j → j ≤ to → end ≤ length b
      → bodies (range leaf b i j) ≡ take (end - start) (drop start b) → BodiesTurn leaf b o i j to w start end
  bodies_turn o i j to w start end h k l e =
      let run : List ℕ = take (end - start) (drop start b) in
      let rest : List ℕ = bodies (range leaf b j to) in
      let n : length run ≡ end - start = length-take-le (end - start) (drop start b) (rw length-drop (omega arith)) in
      let s : bodies (range leaf b i to) ≡ run ++ rest = rw (range_split i j to, bodies_append (range leaf b i j) (range leaf b j to), e) in
      record {
        within = l;
        size = n;
        left = rw (s, length-append run rest, n);
        put = λ m. rw s (put_put o w _ run rest (rw n) m);
      }

  -- a loop's end
  module _ (o : List ℕ) (i to w : ℕ) (h : to ≤ i) where
    pub bodies_none : length (bodies (range leaf b i to)) ≡ 0
    unfolding bodies
    bodies_none = rw (range_end i to)

    pub table_done : (d : ℕ) → put_at o w (table leaf w d (range leaf b i to)) ≡ o
    unfolding table
    table_done d = rw (range_end i to) (put_nil o w)

    pub bodies_done : put_at o w (bodies (range leaf b i to)) ≡ o
    unfolding bodies
    bodies_done = rw (range_end i to) (put_nil o w)

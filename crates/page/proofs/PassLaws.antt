-- The one pass over the elements by rules 6 and 7: what it has at hand at byte `at`, and that it meets a breach exactly where the two passes find one.
-- Assumes nothing.
use mathlib.Core.Path.{◌≡◌, refl, sym, ap, ap₂, ◌∙◌}
use mathlib.Core.Bool.{Bool, true, false, not, ◌||◌}
use mathlib.Core.List.{List}
use Prim.Native.Nat.{ℕ, zero, suc, ◌+◌, ◌-◌, ◌≤◌, ◌<◌, max}
use native.Mathlib.Nat.{sub-zero}
use native.Mathlib.Omega.{arith}
use lib.ListN.{length, take, drop}
use Rattle.field.specs.Order.{order_of}
use Rattle.std.specs.Ordering.{is_lt}
use Rattle.page.specs.Layout.{count_of, element_size, element_at, pos_of, key_size, value_size, table_end, key_at, value_at}
use Rattle.page.specs.PageRules.{and_then, is_sound, no_common, first_bad, outside, element_bad, key_bad, common_before, kind_bad_at, elements_of, breach, Verdict}
use Rattle.page.proofs.LayoutLaws.{element_room, element_first, key_span}
use Rattle.page.proofs.RuleLaws.{bad_skip, bad_here, bad_none, element_test, element_good}
use Rattle.std.specs.Prelude.{Ok, Err}
use Rattle.field.specs.declared.refusal.Refusal.TheVariants.{Element, KeyOrder}
use Rattle.field.specs.declared.refusal.Refusal.{Refusal}

-- ---- verdicts
pub is_sound_lem : (v : Verdict) → is_sound v ≡ true → v ≡ Ok tt
is_sound_lem (Ok u) e = refl
is_sound_lem (Err b) e = absurd (let z : ◌≡◌ {A = ℕ} 0 1 = cc in omega arith)

second_breach : (v : Verdict) (r : Refusal) (i c : ℕ) → is_sound (and_then v (Err (breach r i c))) ≡ false
second_breach (Ok u) r i c = refl
second_breach (Err b) r i c = refl

-- ---- whether the two passes find nothing from element i on; rule 7 starts with the second
module _ (leaf : Bool) (b : List ℕ) where
  abbrev pub left : ℕ → Bool
  left i = is_sound (and_then (first_bad (element_bad leaf b) no_common Element (count_of b - i) i) (first_bad (key_bad leaf b) (common_before leaf b) KeyOrder (count_of b - max 1 i) (max 1 i)))

  left_first : is_sound (elements_of leaf b) ≡ left 0
  left_first = rw (sub-zero (count_of b))

  left_next : (i : ℕ) → i < count_of b → element_bad leaf b i ≡ false → (0 < i → key_bad leaf b i ≡ false) → left i ≡ left (i + 1)
  left_next i l e k =
      ap₂ (λ (v w : Verdict). is_sound (and_then v w)) (bad_skip (element_bad leaf b) no_common Element (count_of b) i l e) (keys i l k)
    where
      keys : (i : ℕ) → i < count_of b → (0 < i → key_bad leaf b i ≡ false)
          → first_bad (key_bad leaf b) (common_before leaf b) KeyOrder (count_of b - max 1 i) (max 1 i)
          ≡ first_bad (key_bad leaf b) (common_before leaf b) KeyOrder (count_of b - max 1 (i + 1)) (max 1 (i + 1))
      keys zero l k = refl
      keys (suc j) l k =
          let here : max 1 (suc j) ≡ suc j = omega arith in
          let next : max 1 (suc j + 1) ≡ suc j + 1 = omega arith in
          rw (here, next) (bad_skip (key_bad leaf b) (common_before leaf b) KeyOrder (count_of b) (suc j) l (k (omega arith)))

  left_out : (i : ℕ) → i < count_of b → element_bad leaf b i ≡ true → left i ≡ false
  left_out i l e = rw (bad_here (element_bad leaf b) no_common Element (count_of b) i l e)

  left_falls : (i : ℕ) → i < count_of b → 0 < i → key_bad leaf b i ≡ true → left i ≡ false
  left_falls i l p e =
      let here : max 1 i ≡ i = omega arith in
      rw (here, bad_here (key_bad leaf b) (common_before leaf b) KeyOrder (count_of b) i l e)
      (second_breach (first_bad (element_bad leaf b) no_common Element (count_of b - i) i) KeyOrder i (common_before leaf b i))

  left_none : (i : ℕ) → count_of b ≤ i → left i ≡ true
  left_none i l =
      rw (bad_none (element_bad leaf b) no_common Element (count_of b) i l, bad_none (key_bad leaf b) (common_before leaf b) KeyOrder (count_of b) (max 1 i) (omega arith))

-- ---- what the pass has at hand: the element that starts at `at`, and where the key before it starts and ends
pub record Pass (leaf : Bool) (b : List ℕ) (at start stop : ℕ) : Type 0 where
  pub index : ℕ
  pub here : at ≡ element_at leaf index
  pub starts : 0 < index → start ≡ key_at leaf b (index - 1)
  pub stops : 0 < index → stop ≡ value_at leaf b (index - 1)
  pub ordered : start ≤ stop
  pub within : stop ≤ length b
  pub rest : is_sound (elements_of leaf b) ≡ left leaf b index

pub pass_first : (leaf : Bool) (b : List ℕ) → Pass leaf b 32 0 0
pass_first leaf b =
    record {
      index = 0;
      here = element_first leaf;
      starts = λ l. absurd (omega arith);
      stops = λ l. absurd (omega arith);
      ordered = omega arith;
      within = omega arith;
      rest = left_first leaf b;
    }

-- an element's place tells its index
index_below : (leaf : Bool) (i n : ℕ) → element_at leaf i < element_at leaf n → i < n
index_below false i n l = omega arith
index_below true i n l = omega arith

index_from : (leaf : Bool) (i n : ℕ) → element_at leaf n ≤ element_at leaf i → n ≤ i
index_from false i n l = omega arith
index_from true i n l = omega arith

index_some : (leaf : Bool) (i : ℕ) → 32 < element_at leaf i → 0 < i
index_some false i l = omega arith
index_some true i l = omega arith

place_some : (leaf : Bool) (i : ℕ) → 0 < i → 32 < element_at leaf i
place_some false i l = omega arith
place_some true i l = omega arith

place_next : (leaf : Bool) (i : ℕ) → element_at leaf i + element_size leaf ≡ element_at leaf (i + 1)
place_next false i = omega arith
place_next true i = omega arith

module _ (leaf : Bool) (b : List ℕ) (at start stop : ℕ) (p : Pass leaf b at start stop) where
  pub pass_end : table_end leaf b ≤ at → true ≡ is_sound (elements_of leaf b)
  pass_end l = sym (p.rest ∙ left_none leaf b p.index (index_from leaf p.index (count_of b) (rw p.here at l)))

  module _ (inside : at < table_end leaf b) where
    pub pass_in : p.index < count_of b
    pass_in = index_below leaf p.index (count_of b) (rw p.here at inside)

    pub pass_room : table_end leaf b ≤ length b → at + element_size leaf ≤ length b
    pass_room h = rw p.here (element_room leaf b p.index pass_in h)

    -- rule 6, by what was read at `at`
    pub pass_test : (end pos key value : ℕ) (out kind : Bool)
        → end ≡ table_end leaf b → pos ≡ pos_of leaf b p.index → key ≡ key_size leaf b p.index → value ≡ value_size leaf b p.index
        → out ≡ outside end (length b) (at + pos) (at + pos + key + value) → kind ≡ kind_bad_at leaf b p.index
        → element_bad leaf b p.index ≡ (out || kind)
    pass_test end pos key value out kind e q r s o k = element_test leaf b p.index end pos key value out kind e q r s (rw p.here at o) k

    pub pass_out : element_bad leaf b p.index ≡ true → false ≡ is_sound (elements_of leaf b)
    pass_out e = sym (p.rest ∙ left_out leaf b p.index pass_in e)

    module _ (good : element_bad leaf b p.index ≡ false) (from to : ℕ) (q : from ≡ key_at leaf b p.index) (r : to ≡ value_at leaf b p.index) where
      -- where its key stands
      pub pass_key : (from ≤ to) × (to ≤ length b)
      pass_key = let g = element_good leaf b p.index good in (omega arith, omega arith)

      -- rule 7, by how the key before it and its own compare
      key_told : 0 < p.index → (t : Bool) → t ≡ is_lt (order_of (take (stop - start) (drop start b)) (take (to - from) (drop from b))) → key_bad leaf b p.index ≡ not t
      unfolding key_bad
      key_told l t e =
          ap not
          (sym
          (e
          ∙ ap₂ (λ (x y : List ℕ). is_lt (order_of x y)) (key_span leaf b (p.index - 1) start stop (p.starts l) (p.stops l))
          (key_span leaf b p.index from to q r)))

      pub pass_falls : 32 < at → false ≡ is_lt (order_of (take (stop - start) (drop start b)) (take (to - from) (drop from b))) → false ≡ is_sound (elements_of leaf b)
      pass_falls l e =
          let some = index_some leaf p.index (rw p.here at l) in
          sym (p.rest ∙ left_falls leaf b p.index pass_in some (key_told some false e))

      pub pass_next : (32 < at → true ≡ is_lt (order_of (take (stop - start) (drop start b)) (take (to - from) (drop from b))))
          → Pass leaf b (at + element_size leaf) from to
      pass_next k =
          let same : p.index + 1 - 1 ≡ p.index = omega arith in
          record {
            index = p.index + 1;
            here = ap (λ (x : ℕ). x + element_size leaf) p.here ∙ place_next leaf p.index;
            starts = λ l. rw same q;
            stops = λ l. rw same r;
            ordered = pass_key.0;
            within = pass_key.1;
            rest = p.rest ∙ left_next leaf b p.index pass_in good (λ l. key_told l true (k (rw p.here (place_some leaf p.index l))));
          }

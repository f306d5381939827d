-- The laws of a set of marks: a word's ones are its 64 marks, what `with_mark` changes, and what it does to the count; a row of
-- marks, and the lowest marked page of a row.
-- Assumes nothing.
use mathlib.Core.Path.{◌≡◌, refl, sym, ap, ap₂, ◌∙◌}
use mathlib.Core.Logic.{◌↔◌, ◌⊎◌, inl, inr, ⊎_elim}
use mathlib.Core.List.{List}
use mathlib.Core.Bool.{Bool, true, false, cond}
use Prim.Native.Nat.{ℕ, zero, suc, ◌+◌, ◌-◌, ◌*◌, ◌/◌, ◌%◌, ◌^◌, ◌≤◌, ◌<◌, max}
use native.Mathlib.Nat.{add-zero, zero-add, add-suc, mod-lt, mod-one, mod-eq_of_lt, max-zero, eq-or-lt_of_le, zero-div}
use native.Mathlib.Numerals.{one-add}
use native.Mathlib.Omega.{arith}
use lib.Arith.{lt_of_le-ne}
use lib.Pow.{pow_pos, mod-pow-add}
use lib.Count.{ones, ones_cat}
use lib.Bits.{bit_or}
use lib.ListN.{length, get_or, replicate, length-replicate, length-set}
use lib.Seq.{get_or-set_same, get_or-set_other}
use Rattle.field.proofs.BitLaws.{tri, same_or, digit_or, digit_pow_same, digit_pow_other}
use Rattle.field.specs.Marks.{marked_in, mark, Marked, is_marked, count_below, count, with_mark, with_marks, lowest_marked, no_marks}

-- ---- the ones of a word are its marks

-- how many of the k low digits of w are set
unfoldable ones_below : ℕ → ℕ → ℕ
ones_below w zero = 0
ones_below w (suc k) = w / 2 ^ k % 2 + ones_below w k

ones_digit : (x : ℕ) → x < 2 → ones x ≡ x
unfolding ones
ones_digit zero h = refl
ones_digit (suc zero) h = refl
ones_digit (suc (suc x)) h = absurd (omega arith)

low_ones : (w k : ℕ) → ones (w % 2 ^ k) ≡ ones_below w k
unfolding ones_below ones
low_ones w zero = ap ones (mod-one w)
low_ones w (suc k) =
    ap (λ (x : ℕ). ones (w % 2 ^ x)) (sym (one-add k))
    ∙ ap ones (mod-pow-add w 1 k)
    ∙ ones_cat k (w / 2 ^ k % 2) (w % 2 ^ k) (mod-lt w (pow_pos k))
    ∙ ap₂ (λ (x y : ℕ). x + y) (ones_digit (w / 2 ^ k % 2) (omega arith)) (low_ones w k)

-- the mark of page 64 i + b is digit b of word i
mark_at : (m : List ℕ) (i b : ℕ) → b < 64 → mark m (64 * i + b) ≡ get_or m i 0 / 2 ^ b % 2
unfolding mark
mark_at m i b h =
    ap₂ (λ (x y : ℕ). get_or m x 0 / 2 ^ y % 2) (omega arith) (omega arith)

count_part : (m : List ℕ) (i b : ℕ) → b ≤ 64 → count_below m (64 * i + b) ≡ count_below m (64 * i) + ones_below (get_or m i 0) b
unfolding count_below ones_below
count_part m i zero h = ap (count_below m) (add-zero (64 * i)) ∙ sym (add-zero (count_below m (64 * i)))
count_part m i (suc b) h =
    let ih = count_part m i b (omega arith) in
    let e = mark_at m i b h in
    ap (count_below m) (add-suc (64 * i) b) ∙ omega arith

-- the pages of one word more
pub count_word : (m : List ℕ) (i : ℕ) → get_or m i 0 < 2 ^ 64 → count_below m (64 * (i + 1)) ≡ count_below m (64 * i) + ones (get_or m i 0)
count_word m i h =
    ap (count_below m) (omega arith) ∙ count_part m i 64 (omega arith)
    ∙ ap (λ (x : ℕ). count_below m (64 * i) + x) (sym (low_ones (get_or m i 0) 64) ∙ ap ones (mod-eq_of_lt h))

-- no more pages than there are
pub count-le : (m : List ℕ) (n : ℕ) → count_below m n ≤ n
unfolding count_below mark
count-le m zero = omega arith
count-le m (suc n) = let ih = count-le m n in omega arith

pub count_all : (m : List ℕ) → count m ≤ 32768
unfolding count
count_all m = count-le m 32768

-- ---- what `with_mark` changes

-- a mark is 0 or 1
pub mark_lt : (m : List ℕ) (k : ℕ) → mark m k < 2
unfolding mark
mark_lt m k = omega arith

module _ (m : List ℕ) (p : ℕ) (long : length m ≡ 512) (small : p < 32768) where
  -- page p is marked
  pub with_same : mark (with_mark m p) p ≡ 1
  unfolding mark with_mark
  with_same =
      let w = get_or m (p / 64) 0 in
      let b = p % 64 in
      ap (λ (x : ℕ). x / 2 ^ b % 2) (get_or-set_same m (p / 64) (bit_or w (2 ^ b)) 0 (omega arith))
      ∙ digit_or w (2 ^ b) b
      ∙ omega (arith, digit_pow_same b)

  -- every other page is as it was
  pub with_other : (q : ℕ) → (q ≡ p → ⊥) → mark (with_mark m p) q ≡ mark m q
  unfolding mark with_mark
  with_other q n = ⊎_elim (λ h. far (omega arith)) (⊎_elim near (λ h. far (omega arith))) (tri (q / 64) (p / 64))
    where
      far : (q / 64 ≡ p / 64 → ⊥) → mark (with_mark m p) q ≡ mark m q
      far d = ap (λ (x : ℕ). x / 2 ^ (q % 64) % 2) (get_or-set_other m (p / 64) (q / 64) (bit_or (get_or m (p / 64) 0) (2 ^ (p % 64))) 0 d)

      near : q / 64 ≡ p / 64 → mark (with_mark m p) q ≡ mark m q
      near e =
          let b = p % 64 in
          let k = q % 64 in
          let d : b ≡ k → ⊥ = λ h. n (omega arith) in
          ap (λ (x : ℕ). get_or (with_mark m p) x 0 / 2 ^ k % 2) e
          ∙ ap (λ (x : ℕ). x / 2 ^ k % 2) (get_or-set_same m (p / 64) (bit_or (get_or m (p / 64) 0) (2 ^ b)) 0 (omega arith))
          ∙ digit_or (get_or m (p / 64) 0) (2 ^ b) k
          ∙ ap (λ (x : ℕ). max (get_or m (p / 64) 0 / 2 ^ k % 2) x) (digit_pow_other b k d)
          ∙ max-zero (get_or m (p / 64) 0 / 2 ^ k % 2)
          ∙ ap (λ (x : ℕ). get_or m x 0 / 2 ^ k % 2) (sym e)

  -- a page is marked afterwards where it is p or was marked before
  pub with_marked : (q : ℕ) → Marked (with_mark m p) q ↔ ((q ≡ p) ⊎ Marked m q)
  with_marked q = (there, back)
    where
      there : Marked (with_mark m p) q → (q ≡ p) ⊎ Marked m q
      there h = ⊎_elim (λ l. inr (sym (with_other q (λ e. omega arith)) ∙ h))
          (⊎_elim inl (λ l. inr (sym (with_other q (λ e. omega arith)) ∙ h))) (tri q p)

      back : (q ≡ p) ⊎ Marked m q → Marked (with_mark m p) q
      back (inl e) = ap (mark (with_mark m p)) e ∙ with_same
      back (inr h) = ⊎_elim (λ l. with_other q (λ e. omega arith) ∙ h)
          (⊎_elim (λ e. ap (mark (with_mark m p)) e ∙ with_same) (λ l. with_other q (λ e. omega arith) ∙ h)) (tri q p)

-- page p's word tells whether it is marked
pub word_told : (m : List ℕ) (p at : ℕ) → at ≡ p / 64 → marked_in (get_or m at 0) p ≡ is_marked m p
unfolding mark
word_told m p at e = rw e

pub length_with : (m : List ℕ) (p : ℕ) → length (with_mark m p) ≡ length m
unfolding with_mark
length_with m p = simp length-set

-- a page is marked afterwards where it is one of the k from p on or was marked before
pub withs_marked : (k p : ℕ) (m : List ℕ) → length m ≡ 512 → p + k ≤ 32768 → (q : ℕ) → Marked (with_marks m p k) q ↔ (((p ≤ q) × (q < p + k)) ⊎ Marked m q)
unfolding with_marks
withs_marked zero p m long small q = (λ h. inr h, λ o. ⊎_elim (λ h. absurd (let a = h.0 in let b = h.1 in omega arith)) (λ h. h) o)
withs_marked (suc k) p m long small q =
    let r = withs_marked k (p + 1) (with_mark m p) (length_with m p ∙ long) (omega arith) q in
    let w = with_marked m p long (omega arith) q in (
      λ h. ⊎_elim (λ x. inl (let a = x.0 in omega arith, let a = x.1 in omega arith)) (λ x. ⊎_elim (λ e. inl (omega arith, omega arith)) inr (w.0 x)) (r.0 h),
      λ o. ⊎_elim
          (λ x. ⊎_elim (λ e. r.1 (inr (w.1 (inl e)))) (λ n. r.1 (inl (let l = lt_of_le-ne x.0 (λ e. n (sym e)) in omega arith, let b = x.1 in omega arith))) (same_or q p))
          (λ x. r.1 (inr (w.1 (inr x))))
          o,
    )

-- ---- the count

-- two sets that differ at p alone
module _ (a b : List ℕ) (p : ℕ) (other : (q : ℕ) → (q ≡ p → ⊥) → mark a q ≡ mark b q) where
  count_before : (n : ℕ) → n ≤ p → count_below a n ≡ count_below b n
  unfolding count_below
  count_before zero h = refl
  count_before (suc n) h = let ih = count_before n (omega arith) in omega (arith, other n (λ e. omega arith))

  count_after_lem : (n : ℕ) → p < n → count_below a n + mark b p ≡ count_below b n + mark a p
  unfolding count_below
  count_after_lem zero h = absurd (omega arith)
  count_after_lem (suc n) h = ⊎_elim here (λ l. later l (count_after_lem n l)) (eq-or-lt_of_le (omega arith))
    where
      here : p ≡ n → count_below a (suc n) + mark b p ≡ count_below b (suc n) + mark a p
      here e = omega (arith, ap (mark a) e, ap (mark b) e, count_before n (omega arith))

      later : p < n → count_below a n + mark b p ≡ count_below b n + mark a p → count_below a (suc n) + mark b p ≡ count_below b (suc n) + mark a p
      later l ih = omega (arith, other n (λ e. omega arith))

module _ (m : List ℕ) (p : ℕ) (long : length m ≡ 512) (small : p < 32768) where
  -- a page that was not marked is one more
  pub count_with : mark m p ≡ 0 → count (with_mark m p) ≡ count m + 1
  unfolding count
  count_with z = omega (arith, count_after_lem (with_mark m p) m p (with_other m p long small) 32768 small, with_same m p long small)

  -- a page that was marked adds nothing
  pub count_with_marked : Marked m p → count (with_mark m p) ≡ count m
  unfolding count
  count_with_marked o = omega (arith, count_after_lem (with_mark m p) m p (with_other m p long small) 32768 small, with_same m p long small)

-- ---- a row of marks

pub length_withs : (m : List ℕ) (p k : ℕ) → length (with_marks m p k) ≡ length m
unfolding with_marks
length_withs m p zero = refl
length_withs m p (suc k) = length_withs (with_mark m p) (p + 1) k ∙ length_with m p

-- a row is marked by marking its first a pages, and then the others
pub with_rows : (m : List ℕ) (p a b : ℕ) → with_marks m p (a + b) ≡ with_marks (with_marks m p a) (p + a) b
unfolding with_marks
with_rows m p zero b = ap₂ (with_marks m) (sym (add-zero p)) (zero-add b)
with_rows m p (suc a) b =
    let f : suc a + b ≡ suc (a + b) = omega arith in
    let e : p + 1 + a ≡ p + suc a = omega arith in
    ap (with_marks m p) f ∙ with_rows (with_mark m p) (p + 1) a b ∙ ap (λ (x : ℕ). with_marks (with_marks (with_mark m p) (p + 1) a) x b) e

-- ---- the lowest marked page of a row

pub lowest_le : (m : List ℕ) (p k : ℕ) → lowest_marked m p k ≤ p + k
unfolding lowest_marked
lowest_le m p zero = omega arith
lowest_le m p (suc k) = go (is_marked m p) (lowest_le m (p + 1) k)
  where
    go : (t : Bool) → lowest_marked m (p + 1) k ≤ p + 1 + k → cond t p (lowest_marked m (p + 1) k) ≤ p + suc k
    go true h = omega arith
    go false h = omega arith

-- the page after the row: no page of it is marked
pub lowest_none : (m : List ℕ) (p k : ℕ) → lowest_marked m p k ≡ p + k → (j : ℕ) → p ≤ j → j < p + k → is_marked m j ≡ false
unfolding lowest_marked
lowest_none m p zero e j a b = absurd (omega arith)
lowest_none m p (suc k) e j a b = go (is_marked m p) refl e (lowest_none m (p + 1) k)
  where
    go : (t : Bool) → is_marked m p ≡ t → cond t p (lowest_marked m (p + 1) k) ≡ p + suc k
        → (lowest_marked m (p + 1) k ≡ p + 1 + k → (i : ℕ) → p + 1 ≤ i → i < p + 1 + k → is_marked m i ≡ false) → is_marked m j ≡ false
    go true h f ih = absurd (omega arith)
    go false h f ih = ⊎_elim (λ (x : p ≡ j). ap (is_marked m) (sym x) ∙ h) (λ (l : p < j). ih (omega arith) j (omega arith) (omega arith)) (eq-or-lt_of_le a)

-- a page of the row: it is marked, and no page of the row before it
pub lowest_found : (m : List ℕ) (p k : ℕ) → lowest_marked m p k < p + k
    → (p ≤ lowest_marked m p k) × (is_marked m (lowest_marked m p k) ≡ true) × ((j : ℕ) → p ≤ j → j < lowest_marked m p k → is_marked m j ≡ false)
unfolding lowest_marked
lowest_found m p zero l = absurd (omega arith)
lowest_found m p (suc k) l = go (is_marked m p) refl l (lowest_found m (p + 1) k)
  where
    go : (t : Bool) → is_marked m p ≡ t → (let q = cond t p (lowest_marked m (p + 1) k) in q < p + suc k
        → (lowest_marked m (p + 1) k < p + 1 + k → (p + 1 ≤ lowest_marked m (p + 1) k) × (is_marked m (lowest_marked m (p + 1) k) ≡ true) × ((j : ℕ) → p + 1 ≤ j → j < lowest_marked m (p + 1) k → is_marked m j ≡ false))
        → (p ≤ q) × (is_marked m q ≡ true) × ((j : ℕ) → p ≤ j → j < q → is_marked m j ≡ false))
    go true h f ih = (omega arith, h, λ j a b. absurd (omega arith))
    go false h f ih =
        let r = ih (omega arith) in (
          omega (arith, r.0),
          r.1,
          λ j a b. ⊎_elim (λ (x : p ≡ j). ap (is_marked m) (sym x) ∙ h) (λ (d : p < j). r.2 j (omega arith) b) (eq-or-lt_of_le a),
        )

-- the first k pages of a row are not marked: the lowest is that of the others
pub lowest_after : (m : List ℕ) (p k r : ℕ) → ((j : ℕ) → j < k → is_marked m (p + j) ≡ false) → lowest_marked m p (k + r) ≡ lowest_marked m (p + k) r
unfolding lowest_marked
lowest_after m p zero r h = ap₂ (lowest_marked m) (sym (add-zero p)) (zero-add r)
lowest_after m p (suc k) r h =
    let f : suc k + r ≡ suc (k + r) = omega arith in
    let g : p + 1 + k ≡ p + suc k = omega arith in
    let here : is_marked m p ≡ false = ap (is_marked m) (sym (add-zero p)) ∙ h 0 (omega arith) in
    let later : (j : ℕ) → j < k → is_marked m (p + 1 + j) ≡ false = λ j l. let e : p + 1 + j ≡ p + suc j = omega arith in ap (is_marked m) e ∙ h (suc j) (omega arith) in
    ap (lowest_marked m p) f ∙ ap (λ (t : Bool). cond t p (lowest_marked m (p + 1) (k + r))) here
    ∙ lowest_after m (p + 1) k r later ∙ ap (λ (x : ℕ). lowest_marked m x r) g

-- the pages from `at` up to `to`
module _ (m : List ℕ) (at to : ℕ) where
  -- the first is marked
  pub lowest_here : at < to → is_marked m at ≡ true → at ≡ lowest_marked m at (to - at)
  unfolding lowest_marked
  lowest_here l h =
      let e : to - at ≡ suc (to - at - 1) = omega arith in
      sym (ap (lowest_marked m at) e ∙ ap (λ (t : Bool). cond t at (lowest_marked m (at + 1) (to - at - 1))) h)

  -- those up to `end` are not marked
  pub lowest_turn : (end : ℕ) → at ≤ end → end ≤ to → ((j : ℕ) → j < end - at → is_marked m (at + j) ≡ false)
      → lowest_marked m end (to - end) ≡ lowest_marked m at (to - at)
  lowest_turn end a b h =
      let e : to - at ≡ (end - at) + (to - end) = omega arith in
      let f : at + (end - at) ≡ end = omega arith in
      sym (ap (lowest_marked m at) e ∙ lowest_after m at (end - at) (to - end) h ∙ ap (λ (x : ℕ). lowest_marked m x (to - end)) f)

  -- the first is not marked
  pub lowest_next : at < to → is_marked m at ≡ false → lowest_marked m (at + 1) (to - (at + 1)) ≡ lowest_marked m at (to - at)
  lowest_next l h = lowest_turn (at + 1) (omega arith) (omega arith) (λ j s. let e : at + j ≡ at = omega arith in ap (is_marked m) e ∙ h)

  -- there are none
  pub lowest_done : to ≤ at → lowest_marked m at (to - at) ≡ at
  unfolding lowest_marked
  lowest_done l = let e : to - at ≡ 0 = omega arith in ap (lowest_marked m at) e

-- ---- the empty set

get_or_zeros : (n i : ℕ) → ◌≡◌ {A = ℕ} (get_or (replicate n 0) i 0) 0
get_or_zeros zero i = refl
get_or_zeros (suc n) zero = refl
get_or_zeros (suc n) (suc i) = get_or_zeros n i

mark_zeros : (n k : ℕ) → mark (replicate n 0) k ≡ 0
unfolding mark
mark_zeros n k = ap (λ (x : ℕ). x / 2 ^ (k % 64) % 2) (get_or_zeros n (k / 64)) ∙ ap (λ (x : ℕ). x % 2) (zero-div (2 ^ (k % 64)))

count_zeros : (n k : ℕ) → count_below (replicate n 0) k ≡ 0
unfolding count_below
count_zeros n zero = refl
count_zeros n (suc k) = omega (arith, mark_zeros n k, count_zeros n k)

pub mark_none : (k : ℕ) → mark no_marks k ≡ 0
unfolding no_marks
mark_none k = mark_zeros 512 k

pub count_none : count no_marks ≡ 0
unfolding no_marks count
count_none = count_zeros 512 32768

pub length_none : length no_marks ≡ 512
unfolding no_marks
length_none = length-replicate {A = ℕ} 512 0

-- A lent list of page numbers, from its element i on: what the loops over the initial list and the writer of the listing know.
-- Assumes nothing.
use mathlib.Core.Path.{◌≡◌, refl, sym, ap, ◌∙◌}
use mathlib.Core.List.{List, ◌∷◌}
use mathlib.Core.Bool.{Bool, true, false, ◌&&◌, and-false}
use Prim.Native.Nat.{ℕ, suc, ◌+◌, ◌-◌, ◌≤◌, ◌<◌}
use native.Mathlib.Numerals.{add-one}
use native.Mathlib.Omega.{arith}
use lib.Dec.{leb, ltb}
use lib.ListN.{length, get_or, set, drop, drop_of_length-le}
use lib.Seq.{drop-cons}
use Rattle.field.specs.Run.{put_at}
use Rattle.field.proofs.RunLaws.{put_cons, put_nil}
use Rattle.freelist.specs.declared.table.State.TheVariants.{Free}
use Rattle.freelist.specs.Table.{state_of, is_in_use, is_listed, put}
use Rattle.freelist.specs.Pages.{pages_from, all, keep, rising, each}
use Rattle.freelist.specs.Freelist.{listing}
use Rattle.freelist.proofs.PageLaws.{keep_next, keep_skip, keep_none, length_keep, length_row}

-- from element i on
from_next : (ids : List ℕ) (i : ℕ) → i < length ids → drop i ids ≡ get_or ids i 0 ∷ drop (i + 1) ids
from_next ids i l = rw (add-one, drop-cons ids i 0)

-- ---- the initial list

-- two tests of an id and two of the ids after it
and_sides : (a b r s : Bool) → ((a && r) && (b && s)) ≡ ((a && b) && (r && s))
and_sides true true r s = refl
and_sides true false r s = and-false r
and_sides false b r s = refl

module _ (t : List ℕ) (n : ℕ) where
  -- what is asked of one id, and of all from element i on, which are to be above `low`
  abbrev asked : ℕ → Bool
  asked p = ltb p n && is_in_use (state_of t p)

  abbrev pub initial_from : List ℕ → ℕ → ℕ → Bool
  initial_from ids low i = rising low (drop i ids) && all asked (drop i ids)

  pub initial_turn : (ids : List ℕ) (low i : ℕ) → i < length ids
      → initial_from ids low i ≡ ((leb low (get_or ids i 0) && asked (get_or ids i 0)) && initial_from ids (get_or ids i 0 + 1) (i + 1))
  unfolding rising all
  initial_turn ids low i l = rw (from_next ids i l) (and_sides (leb low (get_or ids i 0)) _ _ _)

  pub initial_end : (ids : List ℕ) (low i : ℕ) → length ids ≤ i → initial_from ids low i ≡ true
  unfolding rising all
  initial_end ids low i l = rw (drop_of_length-le ids l)

-- each id from element i on becomes free
pub free_next : (ids t : List ℕ) (i : ℕ) → i < length ids → each (λ s. Free) (drop i ids) t ≡ each (λ s. Free) (drop (i + 1) ids) (put t (get_or ids i 0) Free)
unfolding each
free_next ids t i l = rw (from_next ids i l)

pub free_end : (ids t : List ℕ) (i : ℕ) → length ids ≤ i → each (λ s. Free) (drop i ids) t ≡ t
unfolding each
free_end ids t i l = rw (drop_of_length-le ids l)

-- ---- the listing
module _ (t : List ℕ) (n : ℕ) where
  -- the free and pending ones of the pages from i on and below n
  abbrev pub listed_from : ℕ → List ℕ
  listed_from i = keep (λ k. is_listed (state_of t k)) (pages_from i (n - i))

  pub listing_start : listing t n ≡ listed_from 2
  unfolding listing
  listing_start = refl

  pub listing_few : length (listing t n) ≤ n - 2
  unfolding listing
  listing_few = omega (arith, length_keep (λ k. is_listed (state_of t k)) (pages_from 2 (n - 2)), length_row 2 (n - 2))

  -- what a turn of the loops over the pages keeps: of the count, and of what is written
  module _ (i : ℕ) (l : i < n) where
    pub count_next : is_listed (state_of t i) ≡ true → length (listed_from i) ≡ suc (length (listed_from (i + 1)))
    count_next e = ap length (keep_next (λ k. is_listed (state_of t k)) i n l e)

    pub count_skip : is_listed (state_of t i) ≡ false → length (listed_from i) ≡ length (listed_from (i + 1))
    count_skip e = ap length (keep_skip (λ k. is_listed (state_of t k)) i n l e)

    pub write_next : (out : List ℕ) (w : ℕ) → w < length out → is_listed (state_of t i) ≡ true → put_at (set out w i) (w + 1) (listed_from (i + 1)) ≡ put_at out w (listed_from i)
    write_next out w h e = put_cons out w i (listed_from (i + 1)) h ∙ ap (put_at out w) (sym (keep_next (λ k. is_listed (state_of t k)) i n l e))

    pub write_skip : (out : List ℕ) (w : ℕ) → is_listed (state_of t i) ≡ false → put_at out w (listed_from (i + 1)) ≡ put_at out w (listed_from i)
    write_skip out w e = ap (put_at out w) (sym (keep_skip (λ k. is_listed (state_of t k)) i n l e))

  pub count_end : (i : ℕ) → n ≤ i → length (listed_from i) ≡ 0
  count_end i l = ap length (keep_none (λ k. is_listed (state_of t k)) i n l)

  pub write_end : (i : ℕ) → n ≤ i → (out : List ℕ) (w : ℕ) → put_at out w (listed_from i) ≡ out
  write_end i l out w = ap (put_at out w) (keep_none (λ k. is_listed (state_of t k)) i n l) ∙ put_nil out w

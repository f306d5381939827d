-- The pieces of a node: joined they are its entries in order, there is one more than there are cuts, each has at least 2 entries where the node has, and each is a
-- part of the entries.
-- Cuts stand 2 or more apart, since the count restarts at each and the run stops before the last two entries. Assumes nothing.
use mathlib.Core.Path.{◌≡◌, refl, sym, ap, ◌∙◌}
use mathlib.Core.Bool.{Bool, true, false, cond}
use mathlib.Core.List.{List, [], ◌∷◌, append-nil, flatten}
use Prim.Native.Nat.{ℕ, zero, suc, ◌+◌, ◌-◌, ◌≤◌, ◌<◌}
use native.Mathlib.Nat.{sub-zero}
use native.Mathlib.Omega.{arith}
use lib.Dec.{leb}
use lib.ListN.{length, get_or, take, drop, length-take, length-drop, take-append-drop}
use lib.Seq.{take_all, drop-drop}
use borrow.Author.Tests.{le-leb, leb-true, leb-false}
use Rattle.page.specs.Layout.{Entry}
use Rattle.page.proofs.TestLaws.{and_both}
use Rattle.pack.specs.Pack.{entry_size}
use Rattle.pack.specs.Plan.{cut_of}
use Rattle.cuts.specs.Split.{threshold, unsplit, cut_here, cuts_from, but_two, cuts_of, pieces_from, pieces_of}

-- from i each cut is 2 or more after the one before it, and so is the end
unfoldable pub Apart : ℕ → List ℕ → ℕ → Type 0
Apart i [] n = i + 2 ≤ n
Apart i (c ∷ cs) n = (i + 2 ≤ c) × Apart c cs n

pub apart_end : (i : ℕ) (cs : List ℕ) (n : ℕ) → Apart i cs n → i + 2 ≤ n
unfolding Apart
apart_end i [] n h = h
apart_end i (c ∷ cs) n h = let r = apart_end c cs n h.1 in let k = h.0 in omega arith

module _ (leaf : Bool) where
  -- `count` entries were counted since `from`
  apart_from : (t from i sum count n : ℕ) (es : List Entry) → from + count ≡ i → i + length es + 2 ≤ n → Apart from (cuts_from leaf t i sum count es) n
  unfolding Apart cuts_from
  apart_from t from i sum count n [] h k = omega arith
  apart_from t from i sum count n (e ∷ es) h k =
      go (cut_here t (count + 1) (sum + s)) refl (apart_from t (i + 1) (i + 1) (40 + s) 0 n es (omega arith) (omega arith))
      (apart_from t from (i + 1) (sum + s) (count + 1) n es (omega arith) (omega arith))
    where
      s : ℕ
      s = entry_size leaf e

      go : (q : Bool) → cut_here t (count + 1) (sum + s) ≡ q → Apart (i + 1) (cuts_from leaf t (i + 1) (40 + s) 0 es) n
          → Apart from (cuts_from leaf t (i + 1) (sum + s) (count + 1) es) n
          → Apart from (cond q ((i + 1) ∷ cuts_from leaf t (i + 1) (40 + s) 0 es) (cuts_from leaf t (i + 1) (sum + s) (count + 1) es)) n
      go true p cut on = let two = leb-true 2 (count + 1) (and_both _ _ p).0 in (omega arith, cut)
      go false p cut on = on

  pub cuts_apart : (P : ℕ) (es : List Entry) → 2 ≤ length es → Apart 0 (cuts_of leaf P es) (length es)
  unfolding Apart cuts_of
  cuts_apart P es h = go (unsplit leaf P es)
    where
      go : (q : Bool) → Apart 0 (cond q [] (cuts_from leaf (threshold P) 0 40 0 (but_two es))) (length es)
      go true = omega arith
      go false = let l = length-take (length es - 2) es in apart_from (threshold P) 0 0 40 0 (length es) (but_two es) refl (omega arith)

  -- with fewer there is no cut
  pub cuts_few : (P : ℕ) (es : List Entry) → length es ≤ 4 → cuts_of leaf P es ≡ []
  unfolding cuts_of
  cuts_few P es h = rw (le-leb (length es) 4 h)

-- ---- pieces
pub length-pieces : (i : ℕ) (cs : List ℕ) (es : List Entry) → length (pieces_from i cs es) ≡ suc (length cs)
unfolding pieces_from
length-pieces i [] es = refl
length-pieces i (c ∷ cs) es = ap suc (length-pieces c cs es)

-- each piece has at least 2 entries
unfoldable pub TwoEach : List (List Entry) → Type 0
TwoEach [] = Unit {0}
TwoEach (p ∷ ps) = (2 ≤ length p) × TwoEach ps

two_from : (i : ℕ) (cs : List ℕ) (es : List Entry) → Apart i cs (length es) → TwoEach (pieces_from i cs es)
unfolding Apart TwoEach pieces_from
two_from i [] es h = (rw (length-take, length-drop) (omega arith), tt)
two_from i (c ∷ cs) es h =
    let k = h.0 in
    let e = apart_end c cs (length es) h.1 in
    (rw (length-take, length-drop) (omega arith), two_from c cs es h.1)

joined_from : (i : ℕ) (cs : List ℕ) (es : List Entry) → Apart i cs (length es) → flatten (pieces_from i cs es) ≡ drop i es
unfolding Apart flatten pieces_from
joined_from i [] es h = append-nil (take (length es - i) (drop i es)) ∙ take_all (length es - i) (drop i es) (rw length-drop (omega arith))
joined_from i (c ∷ cs) es h =
    let k = h.0 in
    let e : i + (c - i) ≡ c = omega arith in
    let rest : flatten (pieces_from c cs es) ≡ drop (c - i) (drop i es) = joined_from c cs es h.1 ∙ sym (rw e at (drop-drop (c - i) i es)) in
    rw rest (take-append-drop (c - i) (drop i es))

module _ (leaf : Bool) (P : ℕ) (es : List Entry) where
  pub pieces_two : 2 ≤ length es → TwoEach (pieces_of leaf P es)
  pieces_two h = two_from 0 (cuts_of leaf P es) es (cuts_apart leaf P es h)

  pub pieces_joined : flatten (pieces_of leaf P es) ≡ es
  unfolding flatten pieces_from
  pieces_joined = go (leb (length es) 4) refl
    where
      go : (q : Bool) → leb (length es) 4 ≡ q → flatten (pieces_of leaf P es) ≡ es
      go true p = rw (cuts_few leaf P es (leb-true (length es) 4 p)) (append-nil (take (length es - 0) es) ∙ rw sub-zero (take_all (length es) es (omega arith)))
      go false p = let l = leb-false (length es) 4 p in joined_from 0 (cuts_of leaf P es) es (cuts_apart leaf P es (omega arith))

-- ---- a piece is a part of the entries, and is empty only where there are none
pub record Part (es piece : List Entry) : Type 0 where
  pub from : ℕ
  pub to : ℕ
  pub same : piece ≡ cut_of from to es
  pub ordered : from ≤ to
  pub within : to ≤ length es
  pub filled : from ≡ to → length es ≡ 0

part_from : (i : ℕ) (cs : List ℕ) (es : List Entry) → Apart i cs (length es) → (j : ℕ) → j < suc (length cs) → Part es (get_or (pieces_from i cs es) j [])
unfolding Apart pieces_from
part_from i [] es h zero l =
    record { from = i; to = length es; same = refl; ordered = omega arith; within = omega arith; filled = λ e. absurd (omega arith) }
part_from i [] es h (suc j) l = absurd (omega arith)
part_from i (c ∷ cs) es h zero l =
    let k = h.0 in
    let e = apart_end c cs (length es) h.1 in
    record { from = i; to = c; same = refl; ordered = omega arith; within = omega arith; filled = λ z. absurd (omega arith) }
part_from i (c ∷ cs) es h (suc j) l = part_from c cs es h.1 j (omega arith)

-- with no cut the piece is all of them
part_all : (es : List Entry) (j : ℕ) → j < 1 → Part es (get_or (pieces_from 0 [] es) j [])
unfolding pieces_from
part_all es zero l = record { from = 0; to = length es; same = refl; ordered = omega arith; within = omega arith; filled = λ e. sym e }
part_all es (suc j) l = absurd (omega arith)

pub piece_part : (leaf : Bool) (P : ℕ) (es : List Entry) (j : ℕ) → j < length (pieces_of leaf P es) → Part es (get_or (pieces_of leaf P es) j [])
piece_part leaf P es j l = go (leb (length es) 4) refl
  where
    n : length (pieces_of leaf P es) ≡ suc (length (cuts_of leaf P es))
    n = length-pieces 0 (cuts_of leaf P es) es

    go : (q : Bool) → leb (length es) 4 ≡ q → Part es (get_or (pieces_of leaf P es) j [])
    go true p =
        let none = cuts_few leaf P es (leb-true (length es) 4 p) in
        let z = ap length none in
        rw none (part_all es j (omega (arith, n)))
    go false p = let few = leb-false (length es) 4 p in part_from 0 (cuts_of leaf P es) es (cuts_apart leaf P es (omega arith)) j (omega (arith, n))

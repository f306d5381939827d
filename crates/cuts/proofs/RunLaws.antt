-- Laws of the run: sums past the threshold cut alike, a turn of the run, and from one cut to the next.
-- Assumes nothing.
use mathlib.Core.Path.{◌≡◌, refl, sym, ap, ◌∙◌}
use mathlib.Core.Bool.{Bool, true, false, cond, ◌||◌}
use mathlib.Core.List.{List, [], ◌∷◌}
use Prim.Native.Nat.{ℕ, zero, suc, ◌+◌, ◌-◌, ◌≤◌, ◌<◌, min}
use native.Mathlib.Numerals.{add-one}
use native.Mathlib.Omega.{arith}
use Rattle.std.specs.Prelude.{Some, None}
use lib.Dec.{leb, ltb}
use borrow.Author.Tests.{le-leb, lt-leb, lt-ltb, le-ltb, leb-true, leb-false}
use lib.ListN.{length}
use Rattle.page.specs.Layout.{Entry, count_of, entry_of, entries_from, entries_of}
use Rattle.page.proofs.TestLaws.{ltb_same}
use Rattle.page.proofs.EntryLaws.{length-entries}
use Rattle.pack.specs.Pack.{entry_size, node_size}
use Rattle.pack.specs.Plan.{range}
use Rattle.pack.proofs.RangeLaws.{range_next, range_end, range_first}
use Rattle.cuts.specs.Split.{threshold, unsplit, cut_here, cuts_from, but_two, cuts_of}
use Rattle.cuts.specs.Run.{restart, cuts_after, first_cut, run_end}

-- no first cut is no cut
pub none_first : (cs : List ℕ) → first_cut cs ≡ None → cs ≡ []
none_first [] h = refl
none_first (c ∷ cs) h = absurd (let z : ◌≡◌ {A = ℕ} 0 1 = cc in omega arith)

module _ (leaf : Bool) (t : ℕ) where
  -- two sums that are the same up to one past the threshold
  pub cuts_capped : (i x y count : ℕ) (es : List Entry) → min x (t + 1) ≡ min y (t + 1)
      → cuts_from leaf t i x count es ≡ cuts_from leaf t i y count es
  unfolding cuts_from
  cuts_capped i x y count [] h = refl
  cuts_capped i x y count (e ∷ es) h =
      let s : ℕ = entry_size leaf e in
      let same : ltb t (x + s) ≡ ltb t (y + s) = ltb_same t (x + s) t (y + s) (λ k. omega arith) (λ k. omega arith) in
      let rest = cuts_capped (i + 1) (x + s) (y + s) (count + 1) es (omega arith) in
      rw (same, rest)

  module _ (b : List ℕ) where
    -- entry i, with the sum counted no further than one past the threshold
    pub run_turn : (i end sum count new : ℕ) → i < end → new ≡ min (sum + entry_size leaf (entry_of leaf b i)) (t + 1)
        → cuts_from leaf t i sum count (range leaf b i end)
        ≡ cond (cut_here t (count + 1) new) ((i + 1) ∷ cuts_after leaf t b end (i + 1)) (cuts_from leaf t (i + 1) new (count + 1) (range leaf b (i + 1) end))
    unfolding cuts_from
    run_turn i end sum count new h e =
        let s : ℕ = entry_size leaf (entry_of leaf b i) in
        let same : ltb t (sum + s) ≡ ltb t new = ltb_same t (sum + s) t new (λ k. omega arith) (λ k. omega arith) in
        let rest = cuts_capped (i + 1) (sum + s) new (count + 1) (range leaf b (i + 1) end) (omega arith) in
        rw (range_next leaf b i end h, same, rest, add-one i)

    -- so entry i is the last before a cut, or the run goes on
    pub run_cut : (i end sum count new : ℕ) → i < end → new ≡ min (sum + entry_size leaf (entry_of leaf b i)) (t + 1) → 2 ≤ count + 1 → t < new
        → first_cut (cuts_from leaf t i sum count (range leaf b i end)) ≡ Some (i + 1)
    run_cut i end sum count new h e two over =
        rw (run_turn i end sum count new h e, le-leb 2 (count + 1) two, lt-ltb t new over)

    pub run_few : (i end sum count new : ℕ) → i < end → new ≡ min (sum + entry_size leaf (entry_of leaf b i)) (t + 1) → count + 1 < 2
        → cuts_from leaf t i sum count (range leaf b i end) ≡ cuts_from leaf t (i + 1) new (count + 1) (range leaf b (i + 1) end)
    run_few i end sum count new h e few = rw (run_turn i end sum count new h e, lt-leb 2 (count + 1) few)

    pub run_small : (i end sum count new : ℕ) → i < end → new ≡ min (sum + entry_size leaf (entry_of leaf b i)) (t + 1) → 2 ≤ count + 1 → new ≤ t
        → cuts_from leaf t i sum count (range leaf b i end) ≡ cuts_from leaf t (i + 1) new (count + 1) (range leaf b (i + 1) end)
    run_small i end sum count new h e two small =
        rw (run_turn i end sum count new h e, le-leb 2 (count + 1) two, le-ltb t new small)

    pub run_done : (i end sum count : ℕ) → end ≤ i → cuts_from leaf t i sum count (range leaf b i end) ≡ []
    unfolding cuts_from
    run_done i end sum count h = rw (range_end leaf b i end h)

    -- after the first cut come those after it
    next_from : (k i sum count c : ℕ) → Some c ≡ first_cut (cuts_from leaf t i sum count (entries_from leaf b k i))
        → (cuts_from leaf t i sum count (entries_from leaf b k i) ≡ c ∷ cuts_after leaf t b (i + k) c) × (i < c) × (c ≤ i + k)
    unfolding cuts_from entries_from
    next_from zero i sum count c h = absurd (let z : ◌≡◌ {A = ℕ} 0 1 = cc in omega arith)
    next_from (suc k) i sum count c h =
        go (cut_here t (count + 1) (sum + s)) h (next_from k (i + 1) (sum + s) (count + 1) c)
      where
        s : ℕ
        s = entry_size leaf (entry_of leaf b i)

        rest : List ℕ
        rest = cuts_from leaf t (i + 1) (sum + s) (count + 1) (entries_from leaf b k (i + 1))

        go : (q : Bool) → Some c ≡ first_cut (cond q ((i + 1) ∷ cuts_from leaf t (i + 1) (40 + s) 0 (entries_from leaf b k (i + 1))) rest)
            → (Some c ≡ first_cut rest → (rest ≡ c ∷ cuts_after leaf t b (i + 1 + k) c) × (i + 1 < c) × (c ≤ i + 1 + k))
            → (cond q ((i + 1) ∷ cuts_from leaf t (i + 1) (40 + s) 0 (entries_from leaf b k (i + 1))) rest ≡ c ∷ cuts_after leaf t b (i + suc k) c) × (i < c) × (c ≤ i + suc k)
        go true f ih =
            let e : i + suc k - (i + 1) ≡ k = omega arith in
            let first : c ≡ i + 1 = cc in
            (rw (first, e, add-one), omega arith, omega arith)
        go false f ih =
            let e : i + suc k ≡ i + 1 + k = omega arith in
            let r = ih f in
            (rw e r.0, omega arith, omega arith)

    pub next_after : (end c next : ℕ) → Some next ≡ first_cut (cuts_after leaf t b end c)
        → (cuts_after leaf t b end c ≡ next ∷ cuts_after leaf t b end next) × (c < next) × (next ≤ end)
    next_after end c next h = go (leb c end) refl
      where
        go : (q : Bool) → leb c end ≡ q → (cuts_after leaf t b end c ≡ next ∷ cuts_after leaf t b end next) × (c < next) × (next ≤ end)
        go true p =
            let l = leb-true c end p in
            let e : c + (end - c) ≡ end = omega arith in
            rw e at (next_from (end - c) c (restart leaf b c) 0 next h)
        go false p =
            let l = leb-false c end p in
            let none = h ∙ ap first_cut (run_done c end (restart leaf b c) 0 (omega arith)) in
            absurd (let z : ◌≡◌ {A = ℕ} 0 1 = cc in omega arith)

-- ---- where a block's run ends
module _ (leaf : Bool) (P : ℕ) (b : List ℕ) where
  pub end_few : count_of b ≤ 4 → 0 ≡ run_end leaf P b
  end_few h = rw (length-entries leaf b, le-leb (count_of b) 4 h)

  pub end_small : node_size leaf (entries_of leaf b) < P → 0 ≡ run_end leaf P b
  end_small h = rw (lt-ltb _ P h) (go (leb (length (entries_of leaf b)) 4))
    where
      go : (t : Bool) → 0 ≡ cond (t || true) 0 (count_of b - 2)
      go true = refl
      go false = refl

  pub end_whole : 4 < count_of b → P ≤ node_size leaf (entries_of leaf b) → run_end leaf P b ≡ count_of b - 2
  end_whole h k = rw (length-entries leaf b, lt-leb (count_of b) 4 h, le-ltb _ P k)

  -- the cuts of a node are those of its block's run
  pub cuts_run : cuts_of leaf P (entries_of leaf b) ≡ cuts_after leaf (threshold P) b (run_end leaf P b) 0
  unfolding cuts_of
  cuts_run = go (unsplit leaf P (entries_of leaf b))
    where
      go : (t : Bool) → cond t [] (cuts_from leaf (threshold P) 0 40 0 (but_two (entries_of leaf b)))
          ≡ cuts_after leaf (threshold P) b (cond t 0 (count_of b - 2)) 0
      go true = sym (run_done leaf (threshold P) b 0 0 40 0 (omega arith))
      go false = rw (length-entries leaf b, range_first leaf b (count_of b - 2) (omega arith))

  pub end_within : run_end leaf P b ≤ count_of b
  end_within = go (unsplit leaf P (entries_of leaf b))
    where
      go : (t : Bool) → cond t 0 (count_of b - 2) ≤ count_of b
      go true = omega arith
      go false = omega arith

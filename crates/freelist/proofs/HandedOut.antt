-- What `allocate` hands out: pages that were free, the lowest run of them, or pages from n on where there is none; what it does to the
-- state of every page; and that it is full exactly when there is neither a run nor room. Assumes nothing.
use Rattle.field.specs.Sizes.{size_allowed, count_allowed, pages_needed}
use mathlib.Core.Path.{◌≡◌, refl, sym, ap, ◌∙◌}
use mathlib.Core.Logic.{◌↔◌, ⊎_elim}
use mathlib.Core.List.{List}
use mathlib.Core.Bool.{Bool, true, false, ◌&&◌}
use Prim.Native.Nat.{ℕ, ◌+◌, ◌≤◌, ◌<◌}
use native.Mathlib.Omega.{arith}
use borrow.Author.Tests.{leb-true, leb-false, lt-leb, lt-ltb, le-ltb}
use lib.Dec.{leb}
use lib.ListN.{get_or}
use Rattle.field.proofs.BitLaws.{lt_or_le}
use Rattle.freelist.specs.declared.table.State.TheVariants.{InUse, Free}
use Rattle.std.specs.Prelude.{Ok, Err}
use Rattle.std.specs.declared.result.Result.{Result}
use Rattle.field.specs.declared.refusal.Refusal.{Refusal}
use Rattle.field.specs.declared.refusal.Refusal.TheVariants.{Geometry, Argument, Full}
use Rattle.freelist.specs.declared.Allocated.{Allocated}
use Rattle.freelist.specs.Table.{state_of, is_state}
use Rattle.freelist.specs.Pages.{◌∈◌, pages_from, pages_of, all, each}
use Rattle.freelist.specs.Answers.{◌or_else◌, ◌and_then◌}
use Rattle.freelist.specs.Freelist.{has_room, fault_of, request_fault, FreeRun, lowest, count_after, allocate_check, allocate_answer, allocate_table}
use Rattle.freelist.proofs.PageLaws.{in_row, row_in, rising_row}
use Rattle.freelist.proofs.EachLaws.{each_in, each_out}
use Rattle.freelist.proofs.AnswerLaws.{held, both_pass}
use Rattle.freelist.proofs.NumberLaws.{Requested, requested}
use Rattle.freelist.proofs.RunLaws.{lowest_top, lowest_free, lowest_least, needed_some}
use Rattle.freelist.proofs.StateAfter.{each_stays, each_rest}

-- ---- the count of pages from then on
module _ (t : List ℕ) (n pages : ℕ) where
  after_run : lowest t n pages < n → count_after t n pages ≡ n
  unfolding count_after
  after_run l = rw (lt-ltb (lowest t n pages) n l)

  after_growth : n ≤ lowest t n pages → count_after t n pages ≡ n + pages
  unfolding count_after
  after_growth l = rw (le-ltb (lowest t n pages) n l)

-- what an answer of pages says
record Handed (t : List ℕ) (n size bytes s m : ℕ) : Type 0 where
  request : Requested t n size bytes
  start : s ≡ lowest t n (pages_needed bytes size)
  count : m ≡ count_after t n (pages_needed bytes size)
  room : m ≤ 32768

handed : (t : List ℕ) (n size bytes : ℕ) (a : Allocated) → allocate_answer t n size bytes ≡ Ok a → Handed t n size bytes a.start a.count
unfolding allocate_answer allocate_check
handed t n size bytes a e = go (allocate_check t n size bytes) refl
  where
    go : (c : Result Unit Refusal) → allocate_check t n size bytes ≡ c → Handed t n size bytes a.start a.count
    go (Err r) f = absurd (let h : ◌≡◌ {A = Result Allocated Refusal} (Err r) (Ok a) = rw f at e in cc)
    go (Ok u) f =
        let after = count_after t n (pages_needed bytes size) in
        let found : Allocated = record { start = lowest t n (pages_needed bytes size); count = after } in
        let h : ◌≡◌ {A = Result Allocated Refusal} (Ok found) (Ok a) = rw f at e in
        let s : found ≡ a = cc in
        let z = both_pass (request_fault t n size bytes) _ f in
        let m = sym (ap (λ (x : Allocated). x.count) s) in
        let room = leb-true after 32768 (held (leb after 32768) _ z.1) in
        record { request = requested t n size bytes z.0; start = sym (ap (λ (x : Allocated). x.start) s); count = m; room = omega arith }

-- ---- `allocate` answered that the pages from s on are handed out, and that the count is m from then on
module _ (t : List ℕ) (n size bytes s m : ℕ) (answered : allocate_answer t n size bytes ≡ Ok (record { start = s; count = m })) where
  -- they are at least one
  pub handed_some : 1 ≤ pages_needed bytes size
  handed_some =
      let r = (handed t n size bytes (record { start = s; count = m }) answered).request in
      let w = r.wide in
      needed_some bytes size (omega arith) (omega (arith, r.some))

  -- s is below n: they were all free, and the count stays
  pub handed_free : s < n → FreeRun t n (pages_needed bytes size) s × (m ≡ n)
  handed_free l =
      let h = handed t n size bytes (record { start = s; count = m }) answered in
      let e = h.start in
      let b : lowest t n (pages_needed bytes size) < n = omega arith in
      (rw e (lowest_free t n (pages_needed bytes size) h.request.table.from b), h.count ∙ after_run t n (pages_needed bytes size) b)

  -- else they start at n, and the count grows by them
  pub handed_beyond : n ≤ s → (s ≡ n) × (m ≡ n + pages_needed bytes size)
  handed_beyond l =
      let h = handed t n size bytes (record { start = s; count = m }) answered in
      let e = h.start in
      let b : n ≤ lowest t n (pages_needed bytes size) = omega arith in
      (e ∙ lowest_top t n (pages_needed bytes size) h.request.table.from b, h.count ∙ after_growth t n (pages_needed bytes size) b)

  -- and no run of so many free pages is lower
  pub handed_lowest : (j : ℕ) → j < s → FreeRun t n (pages_needed bytes size) j → ⊥
  handed_lowest j l =
      let h = handed t n size bytes (record { start = s; count = m }) answered in
      let e = h.start in
      lowest_least t n (pages_needed bytes size) h.request.table.from j (omega arith)

  -- they are pages from 2 to m - 1
  pub handed_inside : (2 ≤ s) × (s + pages_needed bytes size ≤ m) × (m ≤ 32768)
  handed_inside = ⊎_elim low high (lt_or_le s n)
    where
      low : s < n → (2 ≤ s) × (s + pages_needed bytes size ≤ m) × (m ≤ 32768)
      low l = let f = handed_free l in let e = f.1 in (f.0.0, omega (arith, f.0.1), (handed t n size bytes (record { start = s; count = m }) answered).room)

      high : n ≤ s → (2 ≤ s) × (s + pages_needed bytes size ≤ m) × (m ≤ 32768)
      high l = let h = handed t n size bytes (record { start = s; count = m }) answered in let f = handed_beyond l in (omega (arith, h.request.table.from), omega (arith, f.0, f.1), h.room)

  -- ---- every page afterwards

  small : (q : ℕ) → q ∈ pages_from s (pages_needed bytes size) → q < 32768
  small q i = let h = handed_inside in omega (arith, (row_in s (pages_needed bytes size) q i).1, h.1, h.2)

  table_is : allocate_table t n size bytes ≡ each (λ s. InUse) (pages_from s (pages_needed bytes size)) t
  unfolding allocate_table
  table_is = ap (λ (x : ℕ). each (λ s. InUse) (pages_from x (pages_needed bytes size)) t) (sym (handed t n size bytes (record { start = s; count = m }) answered).start)

  -- a page that was handed out is in use
  pub allocate_in : (q : ℕ) → s ≤ q → q < s + pages_needed bytes size → state_of (allocate_table t n size bytes) q ≡ InUse
  allocate_in q a b =
      ap (λ (u : List ℕ). state_of u q) table_is
      ∙ each_in (λ s. InUse) s (pages_from s (pages_needed bytes size)) t (handed t n size bytes (record { start = s; count = m }) answered).request.table.long small
      (rising_row s s (pages_needed bytes size) (omega arith)) q (in_row s (pages_needed bytes size) q a b)

  -- and every other page is as it was
  pub allocate_out : (q : ℕ) → q < 32768 → (s ≤ q → q < s + pages_needed bytes size → ⊥) → state_of (allocate_table t n size bytes) q ≡ state_of t q
  allocate_out q l o =
      ap (λ (u : List ℕ). state_of u q) table_is
      ∙ each_out (λ s. InUse) (pages_from s (pages_needed bytes size)) t (handed t n size bytes (record { start = s; count = m }) answered).request.table.long small q l
      (λ i. let r = row_in s (pages_needed bytes size) q i in o r.0 r.1)

  pub allocate_stays : fault_of (allocate_table t n size bytes) m ≡ Ok tt
  allocate_stays =
      let h = handed_inside in
      let a = h.0 in
      let b = h.1 in
      let p = handed_some in
      ap (λ (u : List ℕ). fault_of u m) table_is
      ∙ each_stays (λ s. InUse) s (pages_from s (pages_needed bytes size)) t n m (handed t n size bytes (record { start = s; count = m }) answered).request.table small
      (rising_row s s (pages_needed bytes size) (omega arith)) (omega arith) h.2 (λ q i a b. refl) old
    where
      old : (q : ℕ) → (q ∈ pages_from s (pages_needed bytes size) → ⊥) → q < m → q < n
      old q o l = ⊎_elim (λ f. omega (arith, (handed_free f).1)) (λ f. beyond (handed_beyond f)) (lt_or_le s n)
        where
          beyond : (s ≡ n) × (m ≡ n + pages_needed bytes size) → q < n
          beyond e = let a = e.0 in let b = e.1 in ⊎_elim (λ f. f) (λ f. absurd (o (in_row s (pages_needed bytes size) q (omega arith) (omega arith)))) (lt_or_le q n)

  pub allocate_rest : (i : ℕ) → 33792 ≤ i → get_or (allocate_table t n size bytes) i 0 ≡ get_or t i 0
  allocate_rest i l =
      ap (λ (u : List ℕ). get_or u i 0) table_is
      ∙ each_rest (λ s. InUse) (pages_from s (pages_needed bytes size)) t (handed t n size bytes (record { start = s; count = m }) answered).request.table.long small i l

-- ---- with no page free there is no run
pub none_free_lem : (t : List ℕ) (n pages : ℕ) → 2 ≤ n → 1 ≤ pages → ((q : ℕ) → 2 ≤ q → q < n → state_of t q ≡ Free → ⊥) → lowest t n pages ≡ n
none_free_lem t n pages l some h = ⊎_elim (λ b. absurd (found b (lowest_free t n pages l b))) (lowest_top t n pages l) (lt_or_le (lowest t n pages) n)
  where
    found : lowest t n pages < n → FreeRun t n pages (lowest t n pages) → ⊥
    found b f = h (lowest t n pages) f.0 b (f.2 (lowest t n pages) (omega arith) (omega arith))

-- ---- full, exactly when there is neither a run nor room

not_full : (a b c d : Bool) → (a or_else Geometry and_then (b or_else Geometry and_then c or_else Argument) and_then d or_else Argument) ≡ Err Full → ⊥
not_full false b c d e = cc
not_full true false c d e = cc
not_full true true false d e = cc
not_full true true true false e = cc
not_full true true true true e = cc

request_not_full : (t : List ℕ) (n size bytes : ℕ) → request_fault t n size bytes ≡ Err Full → ⊥
unfolding request_fault fault_of
request_not_full t n size bytes = not_full (size_allowed size) (has_room t && count_allowed n) (all (λ k. is_state (state_of t k)) (pages_of n)) (leb 40 bytes)

failed : (b : Bool) → (b or_else Full) ≡ Err Full → b ≡ false
failed true e = absurd (cc)
failed false e = refl

pub full_iff : (t : List ℕ) (n size bytes : ℕ)
    → (allocate_check t n size bytes ≡ Err Full)
    ↔ ((request_fault t n size bytes ≡ Ok tt) × ((j : ℕ) → FreeRun t n (pages_needed bytes size) j → ⊥) × (32768 < n + pages_needed bytes size))
unfolding allocate_check
full_iff t n size bytes = (λ e. there (request_fault t n size bytes) refl e, back)
  where
    no_room : request_fault t n size bytes ≡ Ok tt → 32768 < count_after t n (pages_needed bytes size)
        → (request_fault t n size bytes ≡ Ok tt) × ((j : ℕ) → FreeRun t n (pages_needed bytes size) j → ⊥) × (32768 < n + pages_needed bytes size)
    no_room z over =
        let r = requested t n size bytes z in
        let w = r.wide in
        let o = r.table.to in
        let some = needed_some bytes size (omega arith) (omega (arith, r.some)) in
        ⊎_elim
        (λ l. absurd (omega (arith, after_run t n (pages_needed bytes size) l)))
        (λ l. (z, λ j f. lowest_least t n (pages_needed bytes size) r.table.from j (omega (arith, f.1)) f, omega (arith, after_growth t n (pages_needed bytes size) l)))
        (lt_or_le (lowest t n (pages_needed bytes size)) n)

    there : (c : Result Unit Refusal) → request_fault t n size bytes ≡ c → (request_fault t n size bytes and_then leb (count_after t n (pages_needed bytes size)) 32768 or_else Full) ≡ Err Full
        → (request_fault t n size bytes ≡ Ok tt) × ((j : ℕ) → FreeRun t n (pages_needed bytes size) j → ⊥) × (32768 < n + pages_needed bytes size)
    there (Ok u) f e =
        let x : (leb (count_after t n (pages_needed bytes size)) 32768 or_else Full) ≡ Err Full = rw f at e in
        no_room f (leb-false (count_after t n (pages_needed bytes size)) 32768 (failed _ x))
    there (Err r) f e = let x : ◌≡◌ {A = Result Unit Refusal} (Err r) (Err Full) = rw f at e in absurd (request_not_full t n size bytes (f ∙ x))

    back : (request_fault t n size bytes ≡ Ok tt) × ((j : ℕ) → FreeRun t n (pages_needed bytes size) j → ⊥) × (32768 < n + pages_needed bytes size)
        → (request_fault t n size bytes and_then leb (count_after t n (pages_needed bytes size)) 32768 or_else Full) ≡ Err Full
    back h =
        let g = after_growth t n (pages_needed bytes size) beyond in
        rw (h.0, lt-leb (count_after t n (pages_needed bytes size)) 32768 (omega (arith, h.2)))
      where
        beyond : n ≤ lowest t n (pages_needed bytes size)
        beyond =
            ⊎_elim (λ l. absurd (h.1 _ (lowest_free t n (pages_needed bytes size) (requested t n size bytes h.0).table.from l))) (λ l. l)
            (lt_or_le (lowest t n (pages_needed bytes size)) n)

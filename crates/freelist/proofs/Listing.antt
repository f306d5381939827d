-- The listing is exactly the free and pending pages from 2 to n - 1, rising and so without repeats, and its length fits the size rule.
-- Assumes nothing.
use mathlib.Core.Path.{◌≡◌, refl}
use mathlib.Core.Logic.{◌↔◌}
use mathlib.Core.List.{List}
use mathlib.Core.Bool.{true}
use Prim.Native.Nat.{ℕ, ◌+◌, ◌-◌, ◌*◌, ◌≤◌, ◌<◌}
use native.Mathlib.Omega.{arith}
use lib.ListN.{length, get_or}
use Rattle.std.specs.Prelude.{Ok, Err}
use Rattle.std.specs.declared.result.Result.{Result}
use Rattle.field.specs.declared.refusal.Refusal.{Refusal}
use Rattle.freelist.specs.Table.{state_of, is_listed}
use Rattle.freelist.specs.Pages.{◌∈◌, pages_of}
use Rattle.freelist.specs.Freelist.{fault_of, listing, pages_check, pages_answer, listing_size, size_answer}
use Rattle.freelist.proofs.PageLaws.{in_row, row_in, rising_row, rising_at, rising_keep, keep_iff}
use Rattle.freelist.proofs.AnswerLaws.{both_pass}
use Rattle.freelist.proofs.ListLaws.{listing_few}

module _ (t : List ℕ) (n : ℕ) where
  -- a page is listed exactly when it is from 2 to n - 1 and free or pending
  pub listing_iff : (q : ℕ) → (q ∈ listing t n) ↔ ((2 ≤ q) × (q < n) × (is_listed (state_of t q) ≡ true))
  unfolding listing
  listing_iff q = (there, back)
    where
      there : q ∈ listing t n → (2 ≤ q) × (q < n) × (is_listed (state_of t q) ≡ true)
      there m =
          let k = (keep_iff (λ k. is_listed (state_of t k)) q (pages_of n)).0 m in
          let r = row_in 2 (n - 2) q k.0 in
          let a = r.0 in
          (a, omega (arith, r.1), k.1)

      back : (2 ≤ q) × (q < n) × (is_listed (state_of t q) ≡ true) → q ∈ listing t n
      back h = let a = h.0 in let b = h.1 in (keep_iff (λ k. is_listed (state_of t k)) q (pages_of n)).1 (in_row 2 (n - 2) q a (omega arith), h.2)

  -- a later id is higher
  pub listing_rising : (i j : ℕ) → i < j → j < length (listing t n) → get_or (listing t n) i 0 < get_or (listing t n) j 0
  unfolding listing
  listing_rising = rising_at 2 (listing t n) (rising_keep (λ k. is_listed (state_of t k)) 2 (pages_of n) (rising_row 2 2 (n - 2) (omega arith)))

  -- as many ids as pages listed, so the size is at most that of all pages from 2 to n - 1
  pub size_most : listing_size t n ≤ 40 + 8 * (n - 2)
  unfolding listing_size
  size_most = omega (arith, listing_few t n)

  -- where `pages` writes k ids, `size` answers 40 plus 8 for each
  pub size_of_listing : (ids : List ℕ) (k : ℕ) → pages_answer t n ids ≡ Ok k → size_answer t n ≡ Ok (40 + 8 * k)
  unfolding pages_check listing_size
  size_of_listing ids k e = go (pages_check t n ids) refl
    where
      go : (c : Result Unit Refusal) → pages_check t n ids ≡ c → size_answer t n ≡ Ok (40 + 8 * k)
      go (Err r) f = absurd (let h : ◌≡◌ {A = Result ℕ Refusal} (Err r) (Ok k) = rw f at e in cc)
      go (Ok u) f =
          let h : ◌≡◌ {A = Result ℕ Refusal} (Ok (length (listing t n))) (Ok k) = rw f at e in
          let l : length (listing t n) ≡ k = cc in
          rw ((both_pass (fault_of t n) _ f).0, l)

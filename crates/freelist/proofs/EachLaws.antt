-- What `each` does to the state of every page: each page of the list is in the state that was made of its own, and no other page changes.
-- Assumes nothing.
use mathlib.Core.Path.{◌≡◌, refl, sym, ap, ◌∙◌}
use mathlib.Core.Logic.{⊎_elim}
use mathlib.Core.List.Memᴰ
use mathlib.Core.List.{List, [], ◌∷◌}
use mathlib.Core.Bool.{true}
use Prim.Native.Nat.{ℕ, ◌+◌, ◌-◌, ◌≤◌, ◌<◌}
use native.Mathlib.Omega.{arith}
use lib.Dec.{leb}
use lib.ListN.{length, get_or}
use Rattle.freelist.specs.declared.table.State.{State}
use Rattle.freelist.specs.Table.{state_of, put}
use Rattle.freelist.specs.Pages.{◌∈◌, pages_from, rising, each}
use Rattle.freelist.proofs.PageLaws.{and_parts, row_next, row-none, rising_low}
use Rattle.freelist.proofs.States.{state_put, state_put_other, word_put, length-put}

-- ---- a loop over a row: a turn, and the end
module _ (g : State → State) (p n : ℕ) (t : List ℕ) where
  pub each_next : p < n → each g (pages_from p (n - p)) t ≡ each g (pages_from (p + 1) (n - (p + 1))) (put t p (g (state_of t p)))
  unfolding each
  each_next l = rw (row_next p n l)

  pub each_none : n ≤ p → each g (pages_from p (n - p)) t ≡ t
  unfolding each
  each_none l = rw (row-none p n l)

pub length_each : (g : State → State) (ps t : List ℕ) → length (each g ps t) ≡ length t
unfolding each
length_each g [] t = refl
length_each g (p ∷ ps) t = length_each g ps (put t p (g (state_of t p))) ∙ length-put t p (g (state_of t p))

-- ---- pages below 32,768 in a table with room for them
module _ (g : State → State) where
  pub each_out : (ps t : List ℕ) → 33792 ≤ length t → ((p : ℕ) → p ∈ ps → p < 32768)
      → (q : ℕ) → q < 32768 → (q ∈ ps → ⊥) → state_of (each g ps t) q ≡ state_of t q
  unfolding each
  each_out [] t long fit q l n = refl
  each_out (p ∷ ps) t long fit q l n =
      let e = length-put t p (g (state_of t p)) in
      each_out ps (put t p (g (state_of t p))) (omega arith) (λ r m. fit r (Memᴰ.tail m)) q l (λ m. n (Memᴰ.tail m))
      ∙ state_put_other t p (g (state_of t p)) long (fit p (Memᴰ.head refl)) q l (λ h. n (Memᴰ.head (sym h)))

  pub each_in : (low : ℕ) (ps t : List ℕ) → 33792 ≤ length t → ((p : ℕ) → p ∈ ps → p < 32768) → rising low ps ≡ true
      → (q : ℕ) → q ∈ ps → state_of (each g ps t) q ≡ g (state_of t q)
  unfolding each rising
  each_in low [] t long fit up q m = absurd (Memᴰ.not-nil m)
  each_in low (p ∷ ps) t long fit up q m =
      let u = put t p (g (state_of t p)) in
      let e = length-put t p (g (state_of t p)) in
      let lu : 33792 ≤ length u = omega arith in
      let r = (and_parts (leb low p) (rising (p + 1) ps) up).1 in
      let fit' : (x : ℕ) → x ∈ ps → x < 32768 = λ x m. fit x (Memᴰ.tail m) in
      ⊎_elim
      (λ s. ap (state_of (each g ps u)) s
      ∙ each_out ps u lu fit' p (fit p (Memᴰ.head refl)) (λ m. let a = rising_low (p + 1) ps r p m in omega arith)
      ∙ state_put t p (g (state_of t p)) long (fit p (Memᴰ.head refl)) ∙ ap (λ (x : ℕ). g (state_of t x)) (sym s))
      (λ m. each_in (p + 1) ps u lu fit' r q m
      ∙ ap g (state_put_other t p (g (state_of t p)) long (fit p (Memᴰ.head refl)) q (fit' q m) (λ h. let a = rising_low (p + 1) ps r q m in omega arith)))
      (Memᴰ.cases_cons m)

  -- a word that holds neither bits nor the number of one of the pages is as it was
  pub each_word : (ps t : List ℕ) → 33792 ≤ length t → ((p : ℕ) → p ∈ ps → p < 32768)
      → (i : ℕ) → 1024 ≤ i → ((p : ℕ) → p ∈ ps → i ≡ 1024 + p → ⊥) → get_or (each g ps t) i 0 ≡ get_or t i 0
  unfolding each
  each_word [] t long fit i l n = refl
  each_word (p ∷ ps) t long fit i l n =
      let e = length-put t p (g (state_of t p)) in
      let small = fit p (Memᴰ.head refl) in
      each_word ps (put t p (g (state_of t p))) (omega arith) (λ r m. fit r (Memᴰ.tail m)) i l (λ r m. n r (Memᴰ.tail m))
      ∙ word_put t p (g (state_of t p)) long small i (λ h. omega arith) (λ h. omega arith) (n p (Memᴰ.head refl))

-- Pages in a list: a row of pages and its turn in a loop, and what `all`, `rising` and `keep` mean.
-- Assumes nothing.
use mathlib.Core.Path.{◌≡◌, refl, sym, ap, ◌∙◌}
use mathlib.Core.Logic.{◌↔◌, ⊎_elim}
use mathlib.Core.List.Memᴰ
use mathlib.Core.List.{List, [], ◌∷◌, ◌++◌}
use mathlib.Core.Bool.{Bool, true, false, cond, ◌&&◌, and_assoc}
use Prim.Native.Nat.{ℕ, zero, suc, ◌+◌, ◌-◌, ◌≤◌, ◌<◌}
use native.Mathlib.Nat.{eq-or-lt_of_le}
use native.Mathlib.Omega.{arith}
use borrow.Author.Tests.{le-leb, leb-true}
use lib.Dec.{leb}
use lib.ListN.{length, get_or}
use Rattle.freelist.specs.Pages.{◌∈◌, pages_from, all, keep, rising}

-- ---- tests

-- true is not false
pub clash : {b : Bool} → b ≡ true → b ≡ false → ⊥
clash p q = let z : ◌≡◌ {A = Bool} true false = sym p ∙ q in let y : ◌≡◌ {A = ℕ} 0 1 = cc in omega arith

-- two tests that hold together are the same
pub same_test : (a b : Bool) → (a ≡ true → b ≡ true) → (b ≡ true → a ≡ true) → a ≡ b
same_test true b f g = sym (f refl)
same_test false true f g = g refl
same_test false false f g = refl

pub and_parts : (a b : Bool) → (a && b) ≡ true → (a ≡ true) × (b ≡ true)
and_parts true b e = (refl, e)
and_parts false b e = absurd (clash e refl)

-- ---- the page at a place

pub at_in : (ps : List ℕ) (j : ℕ) → j < length ps → get_or ps j 0 ∈ ps
at_in [] j l = absurd (omega arith)
at_in (p ∷ ps) zero l = Memᴰ.head refl
at_in (p ∷ ps) (suc j) l = Memᴰ.tail (at_in ps j (omega arith))

-- ---- a row of pages

-- from p on and below n: a turn, and the end
pub row_next : (p n : ℕ) → p < n → pages_from p (n - p) ≡ p ∷ pages_from (p + 1) (n - (p + 1))
unfolding pages_from
row_next p n l = let e : n - p ≡ suc (n - (p + 1)) = omega arith in rw e

pub row-none : (p n : ℕ) → n ≤ p → pages_from p (n - p) ≡ []
unfolding pages_from
row-none p n l = let e : n - p ≡ 0 = omega arith in rw e

pub row_split : (p k m : ℕ) → pages_from p (k + m) ≡ pages_from p k ++ pages_from (p + k) m
unfolding pages_from
row_split p zero m =
    let e : p ≡ p + 0 = omega arith in
    let f : 0 + m ≡ m = omega arith in
    rw (f, ← e)
row_split p (suc k) m =
    let e : p + 1 + k ≡ p + suc k = omega arith in
    let f : suc k + m ≡ suc (k + m) = omega arith in
    rw (f, ← e) (ap (λ (ps : List ℕ). p ∷ ps) (row_split (p + 1) k m))

pub length_row : (p k : ℕ) → length (pages_from p k) ≡ k
unfolding pages_from
length_row p zero = refl
length_row p (suc k) = ap suc (length_row (p + 1) k)

pub in_row : (p k q : ℕ) → p ≤ q → q < p + k → q ∈ pages_from p k
unfolding pages_from
in_row p zero q a b = absurd (omega arith)
in_row p (suc k) q a b = ⊎_elim (λ e. Memᴰ.head (sym e)) (λ l. Memᴰ.tail (in_row (p + 1) k q (omega arith) (omega arith))) (eq-or-lt_of_le a)

pub row_in : (p k q : ℕ) → q ∈ pages_from p k → (p ≤ q) × (q < p + k)
unfolding pages_from
row_in p zero q m = absurd (Memᴰ.not-nil m)
row_in p (suc k) q m = ⊎_elim (λ e. (omega arith, omega arith)) (λ m. let h = row_in (p + 1) k q m in let a = h.0 in let b = h.1 in (omega arith, omega arith)) (Memᴰ.cases_cons m)

-- ---- all

pub all_append : (ok : ℕ → Bool) (ps qs : List ℕ) → all ok (ps ++ qs) ≡ (all ok ps && all ok qs)
unfolding all
all_append ok [] qs = refl
all_append ok (p ∷ ps) qs = ap (λ (b : Bool). ok p && b) (all_append ok ps qs) ∙ sym (and_assoc (ok p) (all ok ps) (all ok qs))

-- no page from p on is below n
pub all_none : (ok : ℕ → Bool) (p n : ℕ) → n ≤ p → all ok (pages_from p (n - p)) ≡ true
unfolding all
all_none ok p n l = rw (row-none p n l)

-- the pages from p on and below n, of which the first k are asked at once
pub all_part : (ok : ℕ → Bool) (p k n : ℕ) → p + k ≤ n → all ok (pages_from p (n - p)) ≡ (all ok (pages_from p k) && all ok (pages_from (p + k) (n - (p + k))))
all_part ok p k n l =
    let e : n - p ≡ k + (n - (p + k)) = omega arith in
    rw e (ap (all ok) (row_split p k (n - (p + k))) ∙ all_append ok (pages_from p k) (pages_from (p + k) (n - (p + k))))

-- it holds where `ok` holds of each, and only there
pub all_of : (ok : ℕ → Bool) (ps : List ℕ) → ((q : ℕ) → q ∈ ps → ok q ≡ true) → all ok ps ≡ true
unfolding all
all_of ok [] h = refl
all_of ok (p ∷ ps) h = rw (h p (Memᴰ.head refl)) (all_of ok ps (λ q m. h q (Memᴰ.tail m)))

pub all-at : (ok : ℕ → Bool) (ps : List ℕ) → all ok ps ≡ true → (q : ℕ) → q ∈ ps → ok q ≡ true
unfolding all
all-at ok [] e q m = absurd (Memᴰ.not-nil m)
all-at ok (p ∷ ps) e q m = let h = and_parts (ok p) (all ok ps) e in ⊎_elim (λ s. ap ok s ∙ h.0) (all-at ok ps h.1 q) (Memᴰ.cases_cons m)

pub all_not : (ok : ℕ → Bool) (ps : List ℕ) (q : ℕ) → q ∈ ps → ok q ≡ false → all ok ps ≡ false
all_not ok ps q m h = go (all ok ps) refl
  where
    go : (x : Bool) → all ok ps ≡ x → all ok ps ≡ false
    go true e = absurd (clash (all-at ok ps e q m) h)
    go false e = e

-- the same, of a row
module _ (ok : ℕ → Bool) (p k : ℕ) where
  pub all_row_of : ((q : ℕ) → p ≤ q → q < p + k → ok q ≡ true) → all ok (pages_from p k) ≡ true
  all_row_of h = all_of ok (pages_from p k) (λ q m. let b = row_in p k q m in h q b.0 b.1)

  pub all_row_at : all ok (pages_from p k) ≡ true → (q : ℕ) → p ≤ q → q < p + k → ok q ≡ true
  all_row_at e q a b = all-at ok (pages_from p k) e q (in_row p k q a b)

-- ---- rising

pub rising_low : (low : ℕ) (ps : List ℕ) → rising low ps ≡ true → (q : ℕ) → q ∈ ps → low ≤ q
unfolding rising
rising_low low [] e q m = absurd (Memᴰ.not-nil m)
rising_low low (p ∷ ps) e q m =
    let h = and_parts (leb low p) (rising (p + 1) ps) e in
    let a = leb-true low p h.0 in
    ⊎_elim (λ s. omega arith) (λ m. let b = rising_low (p + 1) ps h.1 q m in omega arith) (Memᴰ.cases_cons m)

pub rising_from : (a b : ℕ) (ps : List ℕ) → a ≤ b → rising b ps ≡ true → rising a ps ≡ true
unfolding rising
rising_from a b [] l e = refl
rising_from a b (p ∷ ps) l e =
    let h = and_parts (leb b p) (rising (p + 1) ps) e in
    let m = leb-true b p h.0 in
    rw (le-leb a p (omega arith)) h.1

pub rising_row : (low p k : ℕ) → low ≤ p → rising low (pages_from p k) ≡ true
unfolding rising pages_from
rising_row low p zero l = refl
rising_row low p (suc k) l = rw (le-leb low p l) (rising_row (p + 1) (p + 1) k (omega arith))

-- a later id is higher, so none is there twice
pub rising_at : (low : ℕ) (ps : List ℕ) → rising low ps ≡ true → (i j : ℕ) → i < j → j < length ps → get_or ps i 0 < get_or ps j 0
unfolding rising
rising_at low [] e i j l b = absurd (omega arith)
rising_at low (p ∷ ps) e i zero l b = absurd (omega arith)
rising_at low (p ∷ ps) e zero (suc j) l b =
    let h = and_parts (leb low p) (rising (p + 1) ps) e in
    let a = rising_low (p + 1) ps h.1 (get_or ps j 0) (at_in ps j (omega arith)) in
    omega arith
rising_at low (p ∷ ps) e (suc i) (suc j) l b = rising_at (p + 1) ps (and_parts (leb low p) (rising (p + 1) ps) e).1 i j (omega arith) (omega arith)

-- ---- keep

-- the pages from p on and below n: a turn that keeps p, one that leaves it out, and the end
module _ (ok : ℕ → Bool) (p n : ℕ) where
  pub keep_next : p < n → ok p ≡ true → keep ok (pages_from p (n - p)) ≡ p ∷ keep ok (pages_from (p + 1) (n - (p + 1)))
  unfolding keep
  keep_next l h = rw (row_next p n l, h)

  pub keep_skip : p < n → ok p ≡ false → keep ok (pages_from p (n - p)) ≡ keep ok (pages_from (p + 1) (n - (p + 1)))
  unfolding keep
  keep_skip l h = rw (row_next p n l, h)

  pub keep_none : n ≤ p → keep ok (pages_from p (n - p)) ≡ []
  unfolding keep
  keep_none l = rw (row-none p n l)

pub length_keep : (ok : ℕ → Bool) (ps : List ℕ) → length (keep ok ps) ≤ length ps
unfolding keep
length_keep ok [] = omega arith
length_keep ok (p ∷ ps) = go (length_keep ok ps) (ok p)
  where
    go : length (keep ok ps) ≤ length ps → (b : Bool) → length (cond b (p ∷ keep ok ps) (keep ok ps)) ≤ length (p ∷ ps)
    go h true = omega arith
    go h false = omega arith

pub rising_keep : (ok : ℕ → Bool) (low : ℕ) (ps : List ℕ) → rising low ps ≡ true → rising low (keep ok ps) ≡ true
unfolding rising keep
rising_keep ok low [] e = refl
rising_keep ok low (p ∷ ps) e = go (rising_keep ok (p + 1) ps h.1) (ok p)
  where
    h : (leb low p ≡ true) × (rising (p + 1) ps ≡ true)
    h = and_parts (leb low p) (rising (p + 1) ps) e

    go : rising (p + 1) (keep ok ps) ≡ true → (b : Bool) → rising low (cond b (p ∷ keep ok ps) (keep ok ps)) ≡ true
    go r true = rw h.0 r
    go r false = rising_from low (p + 1) (keep ok ps) (let a = leb-true low p h.0 in omega arith) r

pub keep_iff : (ok : ℕ → Bool) (q : ℕ) (ps : List ℕ) → q ∈ keep ok ps ↔ ((q ∈ ps) × (ok q ≡ true))
unfolding keep
keep_iff ok q [] = (λ m. absurd (Memᴰ.not-nil m), λ m. m.0)
keep_iff ok q (p ∷ ps) = go (keep_iff ok q ps) (ok p) refl
  where
    go : q ∈ keep ok ps ↔ ((q ∈ ps) × (ok q ≡ true)) → (b : Bool) → ok p ≡ b → q ∈ cond (ok p) (p ∷ keep ok ps) (keep ok ps) ↔ ((q ∈ (p ∷ ps)) × (ok q ≡ true))
    go ih true e = rw e (
      λ m. ⊎_elim (λ s. (Memᴰ.head s, ap ok s ∙ e)) (λ m. let r = ih.0 m in (Memᴰ.tail r.0, r.1)) (Memᴰ.cases_cons m),
      λ r. ⊎_elim (λ s. Memᴰ.head s) (λ m. Memᴰ.tail (ih.1 (m, r.1))) (Memᴰ.cases_cons r.0),
    )
    go ih false e = rw e (
      λ m. let r = ih.0 m in (Memᴰ.tail r.0, r.1),
      λ r. ⊎_elim (λ s. absurd (clash r.1 (ap ok s ∙ e))) (λ m. ih.1 (m, r.1)) (Memᴰ.cases_cons r.0),
    )

-- The newest meta: it reads at the page that it was taken from and names the page size used, and no meta that counts has a greater tx_id; a refusal's
-- number is above 0.
-- Assumes nothing.
use Rattle.std.proofs.Common.{◌≡◌, ℕ, ◌*◌, ◌<◌, ◌≤◌, ◌⊎◌, Bool, true, false, cond, ltb, eqb, List, length, drop, Option, Some, None, Result, Ok, Err, unwrap_or, refl, sym, ap, ◌∙◌, subst, inl, inr, ⊎_elim, arith, ltb-true, ltb-false, eq-eqb, eqb-true}
use native.Mathlib.Nat.{zero-mul, one-mul}
use Rattle.field.proofs.BitLaws.{same_or}
use Rattle.field.specs.Refusal.{number_of}
use Rattle.field.specs.Sizes.{size_allowed}
use Rattle.field.specs.declared.refusal.Refusal.{Refusal}
use Rattle.field.specs.declared.refusal.Refusal.TheVariants.{Geometry, Argument}
use Rattle.meta.specs.Meta.{read_of}
use Rattle.meta.specs.declared.Meta.{Meta}
use Rattle.newest.specs.Newest.{counts, newer, newest_at, size_found, newest_found, newest_of, size_used}
use Rattle.newest.specs.declared.Newest.{Newest}
use Rattle.newest.proofs.SizeLaws.{Allowed, found_allowed}

-- ---- with the page size known

-- a page's answer is this meta
abbrev Gives : Result Meta Refusal → Meta → Type 0
Gives r m = r ≡ Ok m

-- what counts was read, and names the page size
counts_read : (P : ℕ) (r : Result Meta Refusal) (m : Meta) → Gives (counts P r) m → Gives r m × (m.pagesize ≡ P)
counts_read P (Ok x) m h = go (eqb x.pagesize P) refl h
  where
    go : (t : Bool) → eqb x.pagesize P ≡ t → Gives (cond t (Ok x) (Err Argument)) m → Gives (Ok x) m × (m.pagesize ≡ P)
    go true e h = let s : x ≡ m = cc in (h, ap (λ (y : Meta). y.pagesize) (sym s) ∙ eqb-true _ _ e)
    go false e h = cc
counts_read P (Err refusal) m h = cc

-- a meta that names the page size counts
read_counts : (P : ℕ) (m : Meta) → m.pagesize ≡ P → Gives (counts P (Ok m)) m
read_counts P m e = simp (eq-eqb _ _ e)

-- the meta x of page k
abbrev of_page : ℕ → Meta → Newest
of_page k x = record { page = k; meta = x }

-- the one that is taken is one of the two, and neither has a greater tx_id
record Newer (a b : Result Meta Refusal) (n : Newest) : Type 0 where
  one : ((n.page ≡ 0) × Gives a n.meta) ⊎ ((n.page ≡ 1) × Gives b n.meta)
  most : (x : Meta) → Gives a x ⊎ Gives b x → x.tx_id ≤ n.meta.tx_id

same_tx : (x y : Meta) → Gives (Ok x) y → x.tx_id ≡ y.tx_id
same_tx x y e = let s : x ≡ y = cc in ap (λ (m : Meta). m.tx_id) s

newer_taken : (a b : Result Meta Refusal) (n : Newest) → newer a b ≡ Ok n → Newer a b n
newer_taken (Ok f) (Ok s) n h = go (ltb s.tx_id f.tx_id) refl h
  where
    later : Bool → Result Newest Refusal
    later t = cond t (Ok (of_page 0 f)) (Ok (of_page 1 s))

    go : (t : Bool) → ltb s.tx_id f.tx_id ≡ t → later t ≡ Ok n → Newer (Ok f) (Ok s) n
    go true e h =
        let taken : of_page 0 f ≡ n = cc in
        let less : s.tx_id < f.tx_id = ltb-true _ _ e in
        subst (Newer (Ok f) (Ok s)) taken (record {
          one = inl (refl, refl);
          most = λ x. ⊎_elim (λ u. omega (arith, same_tx f x u)) (λ u. omega (arith, same_tx s x u));
        })
    go false e h =
        let taken : of_page 1 s ≡ n = cc in
        let less : f.tx_id ≤ s.tx_id = ltb-false _ _ e in
        subst (Newer (Ok f) (Ok s)) taken (record {
          one = inr (refl, refl);
          most = λ x. ⊎_elim (λ u. omega (arith, same_tx f x u)) (λ u. omega (arith, same_tx s x u));
        })
newer_taken (Ok f) (Err refusal) n h =
    let taken : of_page 0 f ≡ n = cc in
    subst (Newer (Ok f) (Err refusal)) taken (record {
      one = inl (refl, refl);
      most = λ x. ⊎_elim (λ u. omega (arith, same_tx f x u)) (λ u. cc);
    })
newer_taken (Err refusal) (Ok s) n h =
    let taken : of_page 1 s ≡ n = cc in
    subst (Newer (Err refusal) (Ok s)) taken (record {
      one = inr (refl, refl);
      most = λ x. ⊎_elim (λ u. cc) (λ u. omega (arith, same_tx s x u));
    })
newer_taken (Err refusal) (Err other) n h = cc

-- of an image of two pages
at_taken : (image : List ℕ) (P : ℕ) (n : Newest) → newest_at image P ≡ Ok n
    → (2 * P ≤ length image) × (newer (counts P (read_of image)) (counts P (read_of (drop P image))) ≡ Ok n)
unfolding newest_at
at_taken image P n = go (ltb (length image) (2 * P)) refl
  where
    both : Result Newest Refusal
    both = newer (counts P (read_of image)) (counts P (read_of (drop P image)))

    go : (t : Bool) → ltb (length image) (2 * P) ≡ t → cond t (Err Geometry) both ≡ Ok n → (2 * P ≤ length image) × (both ≡ Ok n)
    go true e h = cc
    go false e h = (ltb-false _ _ e, h)

-- ---- with the page size given or found

-- what is taken is taken at the page size used, which is allowed
taken_at : (image : List ℕ) (p : ℕ) (n : Newest) → newest_of image p ≡ Ok n
    → (newest_at image (size_used image p) ≡ Ok n) × (size_allowed (size_used image p) ≡ true)
unfolding newest_of size_used
taken_at image p n = go (eqb p 0) (size_found image) (found_allowed image) (size_allowed p) refl
  where
    used : Bool → Option ℕ → ℕ
    used none found = cond none (unwrap_or found 0) p

    go : (none : Bool) (found : Option ℕ) → Allowed found → (t : Bool) → size_allowed p ≡ t
        → cond none (newest_found image found) (cond t (newest_at image p) (Err Geometry)) ≡ Ok n
        → (newest_at image (used none found) ≡ Ok n) × (size_allowed (used none found) ≡ true)
    go true (Some P) allowed t e h = (h, allowed)
    go true None allowed t e h = cc
    go false found allowed true e h = (h, e)
    go false found allowed false e h = cc

-- ---- the theorems

-- a meta that is taken was read at its page, 0 or 1, and names the page size used, which is allowed and of which the image has two pages
pub taken_reads : (image : List ℕ) (p : ℕ) (n : Newest) → newest_of image p ≡ Ok n
    → (n.page < 2)
    × (read_of (drop (n.page * size_used image p) image) ≡ Ok n.meta)
    × (n.meta.pagesize ≡ size_used image p)
    × (size_allowed (size_used image p) ≡ true)
    × (2 * size_used image p ≤ length image)
taken_reads image p n h =
    let t = taken_at image p n h in
    let P = size_used image p in
    let both = at_taken image P n t.0 in
    let at0 : n.page ≡ 0 → n.page * P ≡ 0 = λ e. rw (e, zero-mul) in
    let at1 : n.page ≡ 1 → n.page * P ≡ P = λ e. rw (e, one-mul) in
    ⊎_elim
    (λ w. let c = counts_read P (read_of image) n.meta w.1 in (omega (arith, w.0), rw (at0 w.0) c.0, c.1, t.1, both.0))
    (λ w. let c = counts_read P (read_of (drop P image)) n.meta w.1 in (omega (arith, w.0), rw (at1 w.0) c.0, c.1, t.1, both.0))
    (newer_taken _ _ n both.1).one

-- no meta page that counts has a greater tx_id than the meta that is taken
pub none_newer : (image : List ℕ) (p : ℕ) (n : Newest) → newest_of image p ≡ Ok n
    → (other : ℕ) (x : Meta) → other < 2 → read_of (drop (other * size_used image p) image) ≡ Ok x → x.pagesize ≡ size_used image p
    → x.tx_id ≤ n.meta.tx_id
none_newer image p n h other x two r s =
    let both = at_taken image P n (taken_at image p n h).0 in
    (newer_taken _ _ n both.1).most x (⊎_elim first second (same_or other 0))
  where
    P : ℕ
    P = size_used image p

    counted : (from : ℕ) → other * P ≡ from → counts P (read_of (drop from image)) ≡ Ok x
    counted from e = let o : read_of (drop from image) ≡ Ok x = rw e at r in ap (counts P) o ∙ read_counts P x s

    first : other ≡ 0 → (counts P (read_of image) ≡ Ok x) ⊎ (counts P (read_of (drop P image)) ≡ Ok x)
    first e = inl (counted 0 (rw (e, zero-mul)))

    second : (other ≡ 0 → ⊥) → (counts P (read_of image) ≡ Ok x) ⊎ (counts P (read_of (drop P image)) ≡ Ok x)
    second n = let e : other ≡ 1 = omega arith in inr (counted P (rw (e, one-mul)))

-- ---- a refusal's number is above 0
numbered : (refusal : Refusal) → 0 < number_of refusal
numbered refusal = grind arith

pub newest_numbered : (image : List ℕ) (p : ℕ) (refusal : Refusal) → newest_of image p ≡ Err refusal → 0 < number_of refusal
newest_numbered image p refusal h = numbered refusal

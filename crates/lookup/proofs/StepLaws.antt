-- A lookup, page by page: what one page's step says of the descent from it; and a row's children and entries, by their index.
-- Assumes nothing.
use mathlib.Core.Path.{◌≡◌, refl, sym, ap, ◌∙◌}
use mathlib.Core.Bool.{Bool, true, false, cond}
use mathlib.Core.List.{List, [], ◌∷◌}
use mathlib.Core.Option.{Option, some}
use Prim.Native.Nat.{ℕ, zero, suc, ◌+◌, ◌<◌}
use native.Mathlib.Nat.{add-zero}
use native.Mathlib.Omega.{arith}
use Rattle.walk.specs.Tree.{Key, Item, View, bad, branch, leaf, same, inside, Answer, refused, found, absent, child_for, seek_from, look_page, lookup}
use Rattle.walk.specs.Sound.{ChildAt}
use Rattle.view.specs.declared.Value.{Value}
use Rattle.lookup.specs.declared.descent.Step.TheVariants.{Down, Found, Absent}
use Rattle.lookup.specs.Descent.{on_page}
use Rattle.lookup.specs.Lookup.{looked_of}
use Rattle.lookup.specs.Step.{seek_step, step_of}
use Rattle.view.specs.View.{row}
use Rattle.std.specs.Prelude.{Ok, Err, Some, None}
use Rattle.field.specs.declared.refusal.Refusal.{Refusal}
use Rattle.page.specs.declared.breach.Breach.{Breach}
use Rattle.page.specs.PageRules.{breach}

-- ---- what a leaf says does not hang on its page's number
seek_free : (es : List (Item Value)) (key : Key) (p i q j : ℕ) → looked_of (seek_from es key p i) ≡ looked_of (seek_from es key q j)
unfolding seek_from
seek_free [] key p i q j = refl
seek_free (e ∷ es) key p i q j = go (same e.key key) (seek_free es key p (suc i) q (suc j))
  where
    go : (t : Bool) → looked_of (seek_from es key p (suc i)) ≡ looked_of (seek_from es key q (suc j))
        → looked_of (cond t (found e p i) (seek_from es key p (suc i))) ≡ looked_of (cond t (found e q j) (seek_from es key q (suc j)))
    go true h = refl
    go false h = h

seek_never : (es : List (Item Value)) (key : Key) (p i : ℕ) (r : Refusal) (q e c : ℕ) → seek_from es key p i ≡ refused r q e c → ⊥
unfolding seek_from
seek_never [] key p i r q e c h = cc
seek_never (x ∷ es) key p i r q e c h = go (same x.key key) (seek_never es key p (suc i) r q e c) h
  where
    go : (t : Bool) → (seek_from es key p (suc i) ≡ refused r q e c → ⊥) → cond t (found x p i) (seek_from es key p (suc i)) ≡ refused r q e c → ⊥
    go true ih h = cc
    go false ih h = ih h

-- a page's step is a breach only where its view is bad
pub step_bad : (v : View Value) (key : Key) (b : Breach) → step_of v key ≡ Err b → v ≡ bad b.refusal b.element b.common
unfolding step_of
step_bad (bad r i m) key b h = let e : breach r i m ≡ b = cc in rw (sym e)
step_bad (branch cs) key b h = cc
step_bad (leaf es) key b h = absurd (seeks (seek_from es key 0 0) refl h)
  where
    seeks : (a : Answer Value) → seek_from es key 0 0 ≡ a → seek_step a ≡ Err b → ⊥
    seeks (refused s p j n) g h = seek_never es key 0 0 s p j n g
    seeks (found y p j) g h = cc
    seeks absent g h = cc

module _ (N : ℕ) (view : ℕ → Bool → View Value) (key : Key) (d q : ℕ) (t : Bool) (within : inside N q ≡ true) where
  looks_at_lem : lookup N view (suc d) t q key ≡ look_page (λ p. lookup N view d false p key) (view q t) q key
  unfolding lookup
  looks_at_lem = rw within

  pub step_down : (c : ℕ) → step_of (view q t) key ≡ Ok (Down c) → lookup N view (suc d) t q key ≡ lookup N view d false c key
  unfolding step_of look_page
  step_down c e = looks_at_lem ∙ go (view q t) e
    where
      seeks : (a : Answer Value) → seek_step a ≡ Ok (Down c) → ⊥
      seeks (refused r p i m) h = cc
      seeks (found y p i) h = cc
      seeks absent h = cc

      go : (v : View Value) → step_of v key ≡ Ok (Down c) → look_page (λ p. lookup N view d false p key) v q key ≡ lookup N view d false c key
      go (bad r x m) h = cc
      go (branch cs) h = let u : child_for cs key ≡ c = cc in ap (λ (p : ℕ). lookup N view d false p key) u
      go (leaf es) h = absurd (seeks (seek_from es key 0 0) h)

  pub step_breach : (b : Breach) → step_of (view q t) key ≡ Err b → looked_of (lookup N view (suc d) t q key) ≡ Err (on_page q b)
  unfolding look_page
  step_breach b e = ap looked_of looks_at_lem ∙ rw (step_bad (view q t) key b e)

  pub step_found : (x : Value) → step_of (view q t) key ≡ Ok (Found x) → looked_of (lookup N view (suc d) t q key) ≡ Ok (Some x)
  unfolding step_of look_page
  step_found x e = ap looked_of looks_at_lem ∙ go (view q t) e
    where
      seeks : (a : Answer Value) → seek_step a ≡ Ok (Found x) → looked_of a ≡ Ok (Some x)
      seeks (refused s p j m) h = cc
      seeks (found y p j) h = let u : y.value ≡ x = cc in rw u
      seeks absent h = cc

      go : (v : View Value) → step_of v key ≡ Ok (Found x) → looked_of (look_page (λ p. lookup N view d false p key) v q key) ≡ Ok (Some x)
      go (bad s i m) h = cc
      go (branch cs) h = cc
      go (leaf es) h = seek_free es key q 0 0 0 ∙ seeks (seek_from es key 0 0) h

  pub step-absent : step_of (view q t) key ≡ Ok Absent → looked_of (lookup N view (suc d) t q key) ≡ Ok None
  unfolding step_of look_page
  step-absent e = ap looked_of looks_at_lem ∙ go (view q t) e
    where
      seeks : (a : Answer Value) → seek_step a ≡ Ok Absent → looked_of a ≡ Ok None
      seeks (refused s p j m) h = cc
      seeks (found y p j) h = cc
      seeks absent h = refl

      go : (v : View Value) → step_of v key ≡ Ok Absent → looked_of (look_page (λ p. lookup N view d false p key) v q key) ≡ Ok None
      go (bad s i m) h = cc
      go (branch cs) h = cc
      go (leaf es) h = seek_free es key q 0 0 0 ∙ seeks (seek_from es key 0 0) h

-- ---- a row's children: each but the last has the next one's key as the end of its range
module _ (f : ℕ → Item ℕ) (high : Option Key) where
  pub child_mid : (k i j : ℕ) → j + 1 < k → ChildAt (row f k i) high j (f (i + j)) (some (f (i + j + 1)).key)
  unfolding row
  child_mid zero i j l = absurd (omega arith)
  child_mid (suc zero) i j l = absurd (omega arith)
  child_mid (suc (suc k)) i zero l = let e : i + 0 ≡ i = add-zero i in (ap f (sym e), rw e)
  child_mid (suc (suc k)) i (suc j) l = let e : i + 1 + j ≡ i + suc j = omega arith in rw e at (child_mid (suc k) (i + 1) j (omega arith))

  pub child_last : (k i j : ℕ) → j + 1 ≡ k → ChildAt (row f k i) high j (f (i + j)) high
  unfolding row
  child_last zero i j l = absurd (omega arith)
  child_last (suc zero) i zero l = (ap f (sym (add-zero i)), refl)
  child_last (suc zero) i (suc j) l = absurd (omega arith)
  child_last (suc (suc k)) i zero l = absurd (omega arith)
  child_last (suc (suc k)) i (suc j) l = let e : i + 1 + j ≡ i + suc j = omega arith in rw e at (child_last (suc k) (i + 1) j (omega arith))

-- The full lookup is the descent by what each page, judged whole, says of the key (`lookup_descends`, `lookup_steps`). Of any descent: what holds of all that
-- pages answer holds of its answer (`descend_by`), and two whose pages say the same, but for breaches, answer the same, but for refusals (`descend_agrees`).
-- Assumes nothing.
use mathlib.Core.Path.{◌≡◌, refl, ap, ◌∙◌}
use mathlib.Core.Bool.{Bool, true, false, cond}
use mathlib.Core.List.{List}
use Prim.Native.Nat.{ℕ, zero, suc}
use Rattle.walk.specs.Tree.{Key, View, inside, lookup}
use Rattle.view.specs.declared.Fault.{Fault}
use Rattle.view.specs.declared.Value.{Value}
use Rattle.view.specs.Geometry.{geometry_bad}
use Rattle.view.specs.Fault.{fault_at}
use Rattle.view.specs.View.{view_of}
use Rattle.lookup.specs.Descent.{Looked, Stepped, on_page, onward, descend}
use Rattle.lookup.specs.declared.descent.Step.TheVariants.{Down, Found, Absent}
use Rattle.lookup.specs.Lookup.{looked_of, lookup_of}
use Rattle.lookup.specs.Step.{step_of}
use Rattle.lookup.proofs.StepLaws.{step_down, step_breach, step_found, step-absent}
use Rattle.std.specs.Prelude.{Ok, Err, Some, None}
use Rattle.field.specs.declared.refusal.Refusal.TheVariants.{Geometry, PageNumber, TooDeep}
use Rattle.page.specs.declared.breach.Breach.{Breach}

-- what the full lookup answers, its descent answers
pub lookup_descends : (N : ℕ) (view : ℕ → Bool → View Value) (key : Key) (d : ℕ) (t : Bool) (q : ℕ)
    → looked_of (lookup N view d t q key) ≡ descend N (λ p s. step_of (view p s) key) d t q
unfolding lookup descend
lookup_descends N view key zero t q = refl
lookup_descends N view key (suc d) t q = go (inside N q) refl (step_of (view q t) key) refl (lookup_descends N view key d false)
  where
    go : (i : Bool) → inside N q ≡ i → (s : Stepped) → step_of (view q t) key ≡ s
        → ((c : ℕ) → looked_of (lookup N view d false c key) ≡ descend N (λ p u. step_of (view p u) key) d false c)
        → looked_of (lookup N view (suc d) t q key) ≡ cond i (onward (descend N (λ p u. step_of (view p u) key) d false) q s) (Err (fault_at PageNumber q 0 0))
    go false e s h ih = rw e
    go true e (Ok (Down c)) h ih = ap looked_of (step_down N view key d q t e c h) ∙ ih c
    go true e (Ok (Found x)) h ih = step_found N view key d q t e x h
    go true e (Ok Absent) h ih = step-absent N view key d q t e h
    go true e (Err b) h ih = step_breach N view key d q t e b h

-- so, of an image: geometry first, and then the descent
pub lookup_steps : (image : List ℕ) (P N root : ℕ) (key : Key)
    → lookup_of image P N root key
    ≡ cond (geometry_bad image P N) (Err (fault_at Geometry 0 0 0)) (descend N (λ p s. step_of (view_of image P N p s) key) 16 true root)
unfolding lookup_of
lookup_steps image P N root key = rw (lookup_descends N (view_of image P N) key 16 true root)

-- a claim on answers that holds of the refusals `TooDeep` and `PageNumber` and of every answer that a page gives holds of what a descent answers
module _ (Q : Looked → Type 0) (N : ℕ) (says : ℕ → Bool → Stepped)
    (deep : (q : ℕ) → Q (Err (fault_at TooDeep q 0 0))) (outside : (q : ℕ) → Q (Err (fault_at PageNumber q 0 0)))
    (finds : (q : ℕ) (t : Bool) (v : Value) → says q t ≡ Ok (Found v) → Q (Ok (Some v))) (none : (q : ℕ) (t : Bool) → says q t ≡ Ok Absent → Q (Ok None))
    (breaks : (q : ℕ) (t : Bool) (b : Breach) → says q t ≡ Err b → Q (Err (on_page q b)))
  where
    pub descend_by : (d : ℕ) (t : Bool) (q : ℕ) → Q (descend N says d t q)
    unfolding descend
    descend_by zero t q = deep q
    descend_by (suc d) t q = go (inside N q) (says q t) refl (descend_by d false)
      where
        go : (i : Bool) (s : Stepped) → says q t ≡ s → ((c : ℕ) → Q (descend N says d false c))
            → Q (cond i (onward (descend N says d false) q s) (Err (fault_at PageNumber q 0 0)))
        go false s h ih = outside q
        go true (Ok (Down c)) h ih = ih c
        go true (Ok (Found v)) h ih = finds q t v h
        go true (Ok Absent) h ih = none q t h
        go true (Err b) h ih = breaks q t b h

-- a descent that is not refused has the same answer by other pages, if they say the same wherever its own say no breach
module _ (N : ℕ) (says says' : ℕ → Bool → Stepped)
    (same : (q : ℕ) (t : Bool) → ((b : Breach) → says q t ≡ Err b → ⊥) → says' q t ≡ says q t)
  where
    pub descend_agrees : (d : ℕ) (t : Bool) (q : ℕ) → ((x : Fault) → descend N says d t q ≡ Err x → ⊥) → descend N says' d t q ≡ descend N says d t q
    unfolding descend
    descend_agrees zero t q answers = refl
    descend_agrees (suc d) t q answers = go (inside N q) (says q t) refl answers (descend_agrees d false)
      where
        go : (i : Bool) (s : Stepped) → says q t ≡ s
            → ((x : Fault) → cond i (onward (descend N says d false) q s) (Err (fault_at PageNumber q 0 0)) ≡ Err x → ⊥)
            → ((c : ℕ) → ((x : Fault) → descend N says d false c ≡ Err x → ⊥) → descend N says' d false c ≡ descend N says d false c)
            → cond i (onward (descend N says' d false) q (says' q t)) (Err (fault_at PageNumber q 0 0))
            ≡ cond i (onward (descend N says d false) q s) (Err (fault_at PageNumber q 0 0))
        go false s h a ih = refl
        go true (Ok (Down c)) h a ih = rw (same q t (λ b e. cc), h) (ih c a)
        go true (Ok (Found v)) h a ih = rw (same q t (λ b e. cc), h)
        go true (Ok Absent) h a ih = rw (same q t (λ b e. cc), h)
        go true (Err b) h a ih = absurd (a (on_page q b) refl)

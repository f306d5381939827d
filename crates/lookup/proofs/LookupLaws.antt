-- The lookup, level by level: geometry, then the descent, and what each page leaves of any descent to be answered.
-- Assumes nothing.
use mathlib.Core.Path.{◌≡◌, refl, ◌∙◌}
use mathlib.Core.Bool.{Bool, true, false}
use mathlib.Core.List.{List}
use Prim.Native.Nat.{ℕ, zero, suc, ◌+◌, ◌-◌, ◌≤◌, ◌<◌}
use native.Mathlib.Omega.{arith}
use borrow.Author.Tests.{ne_eqb}
use lib.Dec.{eqb}
use Rattle.walk.specs.Tree.{Key, inside}
use Rattle.view.specs.Fault.{fault_at}
use Rattle.view.specs.Geometry.{geometry_bad}
use Rattle.view.specs.View.{view_of}
use Rattle.lookup.specs.Lookup.{lookup_of}
use Rattle.lookup.specs.Step.{step_of}
use Rattle.lookup.specs.Descent.{Stepped, onward, descend}
use Rattle.lookup.proofs.DescendLaws.{lookup_steps}
use Rattle.std.specs.Prelude.{Err}
use Rattle.field.specs.declared.refusal.Refusal.TheVariants.{Geometry, PageNumber, TooDeep}

-- ---- geometry, then the descent
module _ (image : List ℕ) (P N root : ℕ) (key : Key) where
  pub looks_geometry : geometry_bad image P N ≡ true → lookup_of image P N root key ≡ Err (fault_at Geometry 0 0 0)
  looks_geometry e = lookup_steps image P N root key ∙ rw e

  pub looks_down : geometry_bad image P N ≡ false → lookup_of image P N root key ≡ descend N (λ q t. step_of (view_of image P N q t) key) 16 true root
  looks_down e = lookup_steps image P N root key ∙ rw e

-- ---- a descent with `left` levels to spend
module _ (N : ℕ) (says : ℕ → Bool → Stepped) (q : ℕ) (t : Bool) where
  pub deep : (left : ℕ) → left ≤ 0 → descend N says left t q ≡ Err (fault_at TooDeep q 0 0)
  unfolding descend
  deep zero l = refl
  deep (suc d) l = absurd (omega arith)

  pub outside : (left : ℕ) → 0 < left → inside N q ≡ false → descend N says left t q ≡ Err (fault_at PageNumber q 0 0)
  unfolding descend
  outside zero l e = absurd (omega arith)
  outside (suc d) l e = rw e

  -- by what the page says; no page but the first is viewed as the root
  pub turn : (depth : ℕ) → depth < 16 → inside N q ≡ true → (s : Stepped) → says q t ≡ s
      → descend N says (16 - depth) t q ≡ onward (descend N says (16 - (depth + 1)) (eqb (depth + 1) 0)) q s
  unfolding descend
  turn depth l w s e =
      let k : 16 - depth ≡ suc (16 - (depth + 1)) = omega arith in
      rw (k, ne_eqb (depth + 1) 0 (λ h. omega arith), w, e)

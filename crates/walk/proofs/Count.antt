-- Numbers of things: two lists of distinct pages with the same members are as long, and two sorted lists of slots with the same members are one list.
-- Assumes nothing.
use Prim.Native.Nat.{ℕ, suc, ◌≤◌}
use native.Mathlib.Omega.{arith}
use mathlib.Core.Path.{◌≡◌, refl, sym, ap, subst, ◌∙◌}
use mathlib.Core.List.{List, [], ◌∷◌}
use mathlib.Core.Bool.{Bool, true, false, cond, ◌||◌}
use mathlib.Core.Logic.{◌⊎◌, inl, inr, ⊎_elim}
use lib.Dec.{eqb}
use lib.ListN.{length}
use borrow.Author.Tests.{eqb-true}
use Rattle.walk.specs.Tree.{lower, memb, Distinct}
use Rattle.walk.proofs.KeyLaws.{lower_not, lower_chain}
use Rattle.walk.specs.Listing.{Mem, Slot, key_at, Sorted}
use Rattle.walk.proofs.Slots.{every_mem}
use Rattle.walk.proofs.Pages.{memb_head, memb_tail, memb_cases}

-- ---- pages
remove : ℕ → List ℕ → List ℕ
remove x [] = []
remove x (y ∷ ys) = cond (eqb x y) ys (y ∷ remove x ys)

remove_length : (x : ℕ) (ys : List ℕ) → memb x ys ≡ true → suc (length (remove x ys)) ≡ length ys
unfolding remove
remove_length x [] e = absurd (let z : ◌≡◌ {A = ℕ} 0 1 = cc in omega arith)
remove_length x (y ∷ ys) e = go (eqb x y) e (remove_length x ys)
  where
    go : (b : Bool)
        → b || memb x ys ≡ true
        → (memb x ys ≡ true → suc (length (remove x ys)) ≡ length ys)
        → suc (length (cond b ys (y ∷ remove x ys))) ≡ suc (length ys)
    go true f rest = refl
    go false f rest = ap suc (rest f)

remove_keeps : (x q : ℕ) (ys : List ℕ) → memb q ys ≡ true → (q ≡ x → ⊥) → memb q (remove x ys) ≡ true
unfolding remove
remove_keeps x q [] e f = e
remove_keeps x q (y ∷ ys) e f = go (eqb x y) refl (memb_cases q y ys e) (λ g. remove_keeps x q ys g f)
  where
    go : (b : Bool)
        → eqb x y ≡ b
        → (q ≡ y) ⊎ (memb q ys ≡ true)
        → (memb q ys ≡ true → memb q (remove x ys) ≡ true)
        → memb q (cond b ys (y ∷ remove x ys)) ≡ true
    go true h (inl g) rest = absurd (f (g ∙ sym (eqb-true x y h)))
    go true h (inr g) rest = g
    go false h (inl g) rest = subst (λ (z : ℕ). memb z (y ∷ remove x ys) ≡ true) (sym g) (memb_head y (remove x ys))
    go false h (inr g) rest = memb_tail q y (remove x ys) (rest g)

pub no_longer : (xs ys : List ℕ) → Distinct xs → ((q : ℕ) → memb q xs ≡ true → memb q ys ≡ true) → length xs ≤ length ys
no_longer [] ys d h = omega arith
no_longer (x ∷ xs) ys d h =
    let m = h x (memb_head x xs) in
    let r =
    no_longer xs (remove x ys) d.1
    (λ q e.
    remove_keeps x q ys (h q (memb_tail q x xs e))
    (λ f. let g = rw f at e in let k = d.0 in let z : ◌≡◌ {A = ℕ} 0 1 = cc in omega arith))
    in
    let l = remove_length x ys m in
    omega arith

-- ---- slots
module _ {P : Type 0} where
  not_below_self : {A : Type 0} (s u : Slot P) → s ≡ u → lower (key_at s) (key_at u) ≡ true → A
  not_below_self s u e h =
      let n = lower_not (key_at u) in
      absurd (let z : ◌≡◌ {A = ℕ} 0 1 = cc in omega arith)

  pub sorted_unique : (L M : List (Slot P))
      → Sorted L
      → Sorted M
      → ((s : Slot P) → Mem s L → Mem s M)
      → ((s : Slot P) → Mem s M → Mem s L)
      → L ≡ M
  sorted_unique [] [] a b f g = refl
  sorted_unique [] (t ∷ M) a b f g = absurd (g t (inl refl))
  sorted_unique (s ∷ L) [] a b f g = absurd (f s (inl refl))
  sorted_unique (s ∷ L) (t ∷ M) a b f g = go (f s (inl refl)) (g t (inl refl)) (sorted_unique L M a.1 b.1)
    where
      same_tail : (x y : Slot P) (X Y : List (Slot P))
          → Sorted (x ∷ X)
          → x ≡ y
          → ((u : Slot P) → Mem u (x ∷ X) → Mem u (y ∷ Y))
          → (u : Slot P)
          → Mem u X
          → Mem u Y
      same_tail x y X Y c e h u m =
          ⊎_elim
          (λ q. not_below_self x u (e ∙ sym q) (every_mem (λ v. lower (key_at x) (key_at v) ≡ true) X u c.0 m))
          (λ q. q)
          (h u (inr m))

      go : Mem s (t ∷ M)
          → Mem t (s ∷ L)
          → (((u : Slot P) → Mem u L → Mem u M) → ((u : Slot P) → Mem u M → Mem u L) → L ≡ M)
          → s ∷ L ≡ t ∷ M
      go (inl e) m rest =
          let q = rest (same_tail s t L M a e f) (same_tail t s M L b (sym e) g) in
          cc
      go (inr n) (inl e) rest =
          let q = rest (same_tail s t L M a (sym e) f) (same_tail t s M L b e g) in
          cc
      go (inr n) (inr m) rest =
          not_below_self s s refl
          (lower_chain (key_at s) (key_at t) (key_at s)
          (every_mem (λ v. lower (key_at s) (key_at v) ≡ true) L t a.0 m)
          (every_mem (λ v. lower (key_at t) (key_at v) ≡ true) M s b.0 n))

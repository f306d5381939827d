-- The frame: a lookup and a walk read no page that is not reached. Where two views, and for the walk the pages of the blocks too, agree on all that are, they answer alike.
-- Assumes nothing, not even that a walk passes.
use Prim.Native.Nat.{ℕ, zero, suc, ◌+◌}
use mathlib.Core.Path.{◌≡◌, refl, ap, ◌∙◌}
use mathlib.Core.List.{List, [], ◌∷◌, ◌++◌}
use mathlib.Core.Bool.{Bool, true, false, cond}
use mathlib.Core.Option.{Option, none}
use mathlib.Core.Logic.{◌⊎◌, inl, inr, ⊎_elim}
use Rattle.walk.specs.Tree.{Key, under, Item, View, bad, branch, leaf, keys, At, first_in, inside, Verdict, pass, fault, if_passed, first_out, unless_twice, unless_out, next, walk_all, walk_page, walk, Answer, refused, child_for, look_page, lookup, Below, here, down, Walker}
use Rattle.walk.proofs.KeyLaws.{under_some}
use Rattle.field.specs.declared.refusal.Refusal.TheVariants.{PageNumber}

-- the child for a key is a child, where there is one
pub child_at_lem : (cs : List (Item ℕ)) (key : Key) → (cs ≡ []) ⊎ ((i : ℕ) × (c : Item ℕ) × At cs i c × (child_for cs key ≡ c.value))
unfolding child_for
child_at_lem [] key = inl refl
child_at_lem (c ∷ cs) key = inr (go (under key (next cs none)) refl (child_at_lem cs key))
  where
    go : (b : Bool)
        → under key (next cs none) ≡ b
        → (cs ≡ []) ⊎ ((i : ℕ) × (d : Item ℕ) × At cs i d × (child_for cs key ≡ d.value))
        → (i : ℕ) × (d : Item ℕ) × At (c ∷ cs) i d × (cond b c.value (child_for cs key) ≡ d.value)
    go true e r = (0, c, refl, refl)
    go false e (inl q) = absurd (under_some key cs e q)
    go false e (inr x) = (suc x.0, x.1, x.2, x.3)

all_frame : (cs : List (Item ℕ)) (walker walker' : Walker)
    → ((i : ℕ) (c : Item ℕ) → At cs i c → (low : Key) (high : Option Key) (vs : List ℕ) → walker' c.value low high vs ≡ walker c.value low high vs)
    → (high : Option Key) (n : ℕ) (vs : List ℕ)
    → walk_all walker' cs high n vs ≡ walk_all walker cs high n vs
unfolding walk_all
all_frame [] walker walker' h high n vs = refl
all_frame (c ∷ cs) walker walker' h high n vs =
    ap (λ (v : Verdict). if_passed v (λ m ws. walk_all walker' cs high (n + m) ws)) (h 0 c refl c.key (next cs high) vs)
    ∙ go (walker c.value c.key (next cs high) vs) (λ m ws. all_frame cs walker walker' (λ i d. h (suc i) d) high (n + m) ws)
  where
    go : (v : Verdict)
        → ((m : ℕ) (ws : List ℕ) → walk_all walker' cs high (n + m) ws ≡ walk_all walker cs high (n + m) ws)
        → if_passed v (λ m ws. walk_all walker' cs high (n + m) ws) ≡ if_passed v (λ m ws. walk_all walker cs high (n + m) ws)
    go (pass m ws) r = r m ws
    go (fault r p e c) q = refl

module _ {P : Type 0} (view : ℕ → Bool → View P) where
  -- Q holds of each page reached from p, as it is viewed there
  abbrev Throughout : (ℕ → Bool → Type 0) → ℕ → Bool → Type 0
  Throughout Q p t = (l q : ℕ) (s : Bool) → Below view p t l q s → Q q s

  throughout_down : (Q : ℕ → Bool → Type 0) (p : ℕ) (t : Bool) (cs : List (Item ℕ)) (i : ℕ) (c : Item ℕ)
      → view p t ≡ branch cs
      → At cs i c
      → Throughout Q p t
      → Throughout Q c.value false
  throughout_down Q p t cs i c f a h l q s w = h (suc l) q s (down i c f a w)

module _ {P : Type 0} (N : ℕ) (view view' : ℕ → Bool → View P) where
  abbrev Agree : ℕ → Bool → Type 0
  Agree q s = view' q s ≡ view q s

  pub lookup_frame : (d : ℕ) (t : Bool) (p : ℕ) (key : Key) → Throughout view Agree p t → lookup N view' d t p key ≡ lookup N view d t p key
  unfolding lookup look_page child_for
  lookup_frame zero t p key h = refl
  lookup_frame (suc d) t p key h =
      ap (λ (a : Answer P). cond (inside N p) a (refused PageNumber p 0 0))
      (ap (λ (v : View P). look_page (λ q. lookup N view' d false q key) v p key) (h 1 p t here) ∙ go (view p t) refl (λ q g. lookup_frame d false q key g))
    where
      zeroth : (k : ℕ) → lookup N view' k false 0 key ≡ lookup N view k false 0 key
      zeroth zero = refl
      zeroth (suc k) = refl

      go : (v : View P)
          → view p t ≡ v
          → ((q : ℕ) → Throughout view Agree q false → lookup N view' d false q key ≡ lookup N view d false q key)
          → look_page (λ q. lookup N view' d false q key) v p key ≡ look_page (λ q. lookup N view d false q key) v p key
      go (bad r e c) f ih = refl
      go (leaf es) f ih = refl
      go (branch cs) f ih =
          ⊎_elim
          (λ e. rw e (zeroth d))
          (λ x. rw x.3 (ih x.1.value (throughout_down view Agree p t cs x.0 x.1 f x.2 h)))
          (child_at_lem cs key)

module _ {P : Type 0} (N : ℕ) (block block' : ℕ → List ℕ) (view view' : ℕ → Bool → View P) where
  abbrev AgreeAll : ℕ → Bool → Type 0
  AgreeAll q s = (view' q s ≡ view q s) × (block' q ≡ block q)

  pub walk_frame : (d : ℕ) (t : Bool) (p : ℕ) (low : Key) (high : Option Key) (vs : List ℕ)
      → Throughout view AgreeAll p t
      → walk N block' view' d t p low high vs ≡ walk N block view d t p low high vs
  unfolding walk walk_page
  walk_frame zero t p low high vs h = refl
  walk_frame (suc d) t p low high vs h =
      rw (h 1 p t here).1
      (ap (λ (v : Verdict). cond (inside N p) (unless_twice (first_in (block p) vs) v) (fault PageNumber p 0 0))
      (ap (λ (v : View P). walk_page (walk N block' view' d false) v p low high (block p ++ vs)) (h 1 p t here).0
      ∙ go (view p t) refl (λ q a b c g. walk_frame d false q a b c g)))
    where
      go : (v : View P)
          → view p t ≡ v
          → ((q : ℕ) (a : Key) (b : Option Key) (c : List ℕ)
          → Throughout view AgreeAll q false
          → walk N block' view' d false q a b c ≡ walk N block view d false q a b c)
          → walk_page (walk N block' view' d false) v p low high (block p ++ vs) ≡ walk_page (walk N block view d false) v p low high (block p ++ vs)
      go (bad r e c) f ih = refl
      go (leaf es) f ih = refl
      go (branch cs) f ih =
          ap (unless_out (first_out low high (keys cs) 0) p)
          (all_frame cs (walk N block view d false) (walk N block' view' d false)
          (λ i c a x y z. ih c.value x y z (throughout_down view AgreeAll p t cs i c f a h))
          high
          0
          (block p ++ vs))

-- `Walked`: how a walk that passes went, as a tree of its own, with the slots of all leaf entries in order. Where a walk passes there is one.
-- Assumes nothing.
use Prim.Native.Nat.{ℕ, zero, suc, ◌+◌}
use native.Mathlib.Omega.{arith}
use mathlib.Core.Path.{◌≡◌, refl, sym, ◌∙◌}
use mathlib.Core.List.{List, [], ◌∷◌, ◌++◌}
use mathlib.Core.Bool.{Bool, true, false, cond}
use mathlib.Core.Option.{Option, none, some}
use lib.ListN.{length, length-append}
use Rattle.walk.specs.Tree.{Key, Item, View, bad, branch, leaf, keys, first_in, inside, Verdict, pass, fault, if_passed, Stray, first_out, unless_twice, unless_out, next, walk_all, walk_page, walk}
use Rattle.walk.specs.Listing.{Slot}
use Rattle.walk.proofs.Slots.{slots, length_slots}
use Rattle.field.specs.declared.refusal.Refusal.TheVariants.{PageNumber}

module _ {P : Type 0} (N : ℕ) (block : ℕ → List ℕ) (view : ℕ → Bool → View P) where
  mutual
    pub data Walked : ℕ → Bool → ℕ → Key → Option Key → List ℕ → List (Slot P) → List ℕ → Type 0 where
      at_leaf : {d : ℕ} {t : Bool} {p : ℕ} {low : Key} {high : Option Key} {vs : List ℕ} {es : List (Item P)} {L : List (Slot P)} {ws : List ℕ}
          → inside N p ≡ true
          → first_in (block p) vs ≡ none
          → view p t ≡ leaf es
          → first_out low high (keys es) 0 ≡ none
          → L ≡ slots p 0 es
          → ws ≡ block p ++ vs
          → Walked (suc d) t p low high vs L ws
      at_branch : {d : ℕ} {t : Bool} {p : ℕ} {low : Key} {high : Option Key} {vs : List ℕ} {cs : List (Item ℕ)} {L : List (Slot P)} {ws : List ℕ}
          → inside N p ≡ true
          → first_in (block p) vs ≡ none
          → view p t ≡ branch cs
          → first_out low high (keys cs) 0 ≡ none
          → WalkedAll d cs high (block p ++ vs) L ws
          → Walked (suc d) t p low high vs L ws

    pub data WalkedAll : ℕ → List (Item ℕ) → Option Key → List ℕ → List (Slot P) → List ℕ → Type 0 where
      done : {d : ℕ} {high : Option Key} {vs : List ℕ} → WalkedAll d [] high vs [] vs
      more : {d : ℕ} {c : Item ℕ} {cs : List (Item ℕ)} {high : Option Key} {vs us ws : List ℕ} {L M K : List (Slot P)}
          → Walked d false c.value c.key (next cs high) vs L us
          → WalkedAll d cs high us M ws
          → K ≡ L ++ M
          → WalkedAll d (c ∷ cs) high vs K ws

  -- a walk that passes was walked
  abbrev Passed : ℕ → Bool → Type 0
  Passed d t =
      (p : ℕ) (low : Key) (high : Option Key) (vs : List ℕ) (n : ℕ) (ws : List ℕ)
      → walk N block view d t p low high vs ≡ pass n ws
      → (L : List (Slot P)) × Walked d t p low high vs L ws × (n ≡ length L)

  walked_all : (d : ℕ)
      → Passed d false
      → (cs : List (Item ℕ)) (high : Option Key) (m : ℕ) (vs : List ℕ) (n : ℕ) (ws : List ℕ)
      → walk_all (walk N block view d false) cs high m vs ≡ pass n ws
      → (L : List (Slot P)) × WalkedAll d cs high vs L ws × (n ≡ m + length L)
  unfolding walk_all
  walked_all d ih [] high m vs n ws e =
      let q : vs ≡ ws = cc in
      let r : m ≡ n = cc in
      ([], rw (← q) done, omega arith)
  walked_all d ih (c ∷ cs) high m vs n ws e =
      go (walk N block view d false c.value c.key (next cs high) vs) refl e (λ k us. walked_all d ih cs high (m + k) us n ws)
    where
      go : (v : Verdict)
          → walk N block view d false c.value c.key (next cs high) vs ≡ v
          → if_passed v (λ k us. walk_all (walk N block view d false) cs high (m + k) us) ≡ pass n ws
          → ((k : ℕ) (us : List ℕ)
          → walk_all (walk N block view d false) cs high (m + k) us ≡ pass n ws
          → (L : List (Slot P)) × WalkedAll d cs high us L ws × (n ≡ (m + k) + length L))
          → (L : List (Slot P)) × WalkedAll d (c ∷ cs) high vs L ws × (n ≡ m + length L)
      go (pass k us) f g rest =
          let a = ih c.value c.key (next cs high) vs k us f in
          let b = rest k us g in
          (a.0 ++ b.0, more a.1 b.1 refl, (let x = a.2 in let y = b.2 in omega (arith, length-append a.0 b.0)))
      go (fault r p i c) f g rest = absurd (let z : ◌≡◌ {A = ℕ} 0 1 = cc in omega arith)

  walked_page : (d : ℕ) (t : Bool)
      → Passed d false
      → (p : ℕ) (low : Key) (high : Option Key) (vs : List ℕ) (n : ℕ) (ws : List ℕ)
      → inside N p ≡ true
      → first_in (block p) vs ≡ none
      → (v : View P)
      → view p t ≡ v
      → walk_page (walk N block view d false) v p low high (block p ++ vs) ≡ pass n ws
      → (L : List (Slot P)) × Walked (suc d) t p low high vs L ws × (n ≡ length L)
  unfolding walk_page
  walked_page d t ih p low high vs n ws i m (bad r x c) f e = absurd (let z : ◌≡◌ {A = ℕ} 0 1 = cc in omega arith)
  walked_page d t ih p low high vs n ws i m (branch cs) f e = go (first_out low high (keys cs) 0) refl e
    where
      go : (o : Option Stray)
          → first_out low high (keys cs) 0 ≡ o
          → unless_out o p (walk_all (walk N block view d false) cs high 0 (block p ++ vs)) ≡ pass n ws
          → (L : List (Slot P)) × Walked (suc d) t p low high vs L ws × (n ≡ length L)
      go none o e =
          let a = walked_all d ih cs high 0 (block p ++ vs) n ws e in
          (a.0, at_branch i m f o a.1, (let x = a.2 in omega arith))
      go (some j) o e = absurd (let z : ◌≡◌ {A = ℕ} 0 1 = cc in omega arith)
  walked_page d t ih p low high vs n ws i m (leaf es) f e = go (first_out low high (keys es) 0) refl e
    where
      go : (o : Option Stray)
          → first_out low high (keys es) 0 ≡ o
          → unless_out o p (pass (length es) (block p ++ vs)) ≡ pass n ws
          → (L : List (Slot P)) × Walked (suc d) t p low high vs L ws × (n ≡ length L)
      go none o e =
          let q : block p ++ vs ≡ ws = cc in
          let r : length es ≡ n = cc in
          (slots p 0 es, at_leaf i m f o refl (sym q), sym r ∙ sym (length_slots p 0 es))
      go (some j) o e = absurd (let z : ◌≡◌ {A = ℕ} 0 1 = cc in omega arith)

  pub walked : (d : ℕ) (t : Bool) → Passed d t
  unfolding walk
  walked zero t p low high vs n ws e = absurd (let z : ◌≡◌ {A = ℕ} 0 1 = cc in omega arith)
  walked (suc d) t p low high vs n ws e = go (inside N p) refl (first_in (block p) vs) refl e (walked d false)
    where
      go : (b : Bool)
          → inside N p ≡ b
          → (u : Option ℕ)
          → first_in (block p) vs ≡ u
          → cond b (unless_twice u (walk_page (walk N block view d false) (view p t) p low high (block p ++ vs))) (fault PageNumber p 0 0) ≡ pass n ws
          → Passed d false
          → (L : List (Slot P)) × Walked (suc d) t p low high vs L ws × (n ≡ length L)
      go true i none m f ih = walked_page d t ih p low high vs n ws i m (view p t) refl f
      go true i (some k) m f ih = absurd (let z : ◌≡◌ {A = ℕ} 0 1 = cc in omega arith)
      go false i u m f ih = absurd (let z : ◌≡◌ {A = ℕ} 0 1 = cc in omega arith)

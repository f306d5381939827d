-- Lists of spots, each an entry with the path to it: the first and the last, those below a step, those from a key on, and chains, in which each spot's neighbours are the spots beside it.
-- Assumes nothing.
use Prim.Native.Nat.{ℕ}
use mathlib.Core.Path.{◌≡◌, refl, sym, ap, ◌∙◌}
use mathlib.Core.List.{List, [], ◌∷◌, ◌++◌}
use mathlib.Core.Bool.{Bool, true, false, cond}
use mathlib.Core.Logic.{inl, inr}
use Rattle.walk.specs.Tree.{Key, lower, Item, Every}
use Rattle.walk.specs.Listing.{Mem}
use Rattle.path.specs.declared.Direction.{Direction}
use Rattle.path.specs.declared.Direction.TheVariants.{Onward, Back}
use Rattle.path.specs.declared.Step.{Step}
use Rattle.path.specs.Path.{step, Move, at, end, refused, below, or_beside}
use Rattle.path.specs.Lists.{opposite}
use Rattle.field.specs.declared.refusal.Refusal.{Refusal}

-- an entry with the path to it
pub record Spot (P : Type 0) : Type 0 where
  pub path : List Step
  pub entry : Item P

module _ {P : Type 0} where
  abbrev pub spot : List Step → Item P → Spot P
  spot path e = record { path = path; entry = e }

  -- the move that comes to a spot
  abbrev pub to : Spot P → Move P
  to s = at s.path s.entry

  -- to the first spot, or where there is none, this move
  abbrev pub front : List (Spot P) → Move P → Move P
  front [] m = m
  front (s ∷ S) m = to s

  -- to the last
  abbrev pub back : List (Spot P) → Move P → Move P
  back [] m = m
  back (s ∷ S) m = back S (to s)

  abbrev pub items : List (Spot P) → List (Item P)
  items [] = []
  items (s ∷ S) = s.entry ∷ items S

  -- the spots, seen from the page above by a step
  abbrev pub beneath : Step → List (Spot P) → List (Spot P)
  beneath u [] = []
  beneath u (s ∷ S) = spot (u ∷ s.path) s.entry ∷ beneath u S

  -- from the first whose key is not below this one
  abbrev pub since : Key → List (Spot P) → List (Spot P)
  since key [] = []
  since key (s ∷ S) = cond (lower s.entry.key key) (since key S) (s ∷ S)

  -- ---- joined
  pub front-append : (S T : List (Spot P)) (m : Move P) → front (S ++ T) m ≡ front S (front T m)
  front-append [] T m = refl
  front-append (s ∷ S) T m = refl

  pub back_append : (S T : List (Spot P)) (m : Move P) → back (S ++ T) m ≡ back T (back S m)
  back_append [] T m = refl
  back_append (s ∷ S) T m = back_append S T (to s)

  pub items_append : (S T : List (Spot P)) → items (S ++ T) ≡ items S ++ items T
  items_append [] T = refl
  items_append (s ∷ S) T = ap (λ (es : List (Item P)). s.entry ∷ es) (items_append S T)

  -- the first that is not below a key, of two lists joined
  pub since_append : (key : Key) (S T : List (Spot P)) (m : Move P) → front (since key (S ++ T)) m ≡ front (since key S) (front (since key T) m)
  since_append key [] T m = refl
  since_append key (s ∷ S) T m = go (lower s.entry.key key) (since_append key S T m)
    where
      go : (b : Bool)
          → front (since key (S ++ T)) m ≡ front (since key S) (front (since key T) m)
          → front (cond b (since key (S ++ T)) (s ∷ (S ++ T))) m ≡ front (cond b (since key S) (s ∷ S)) (front (since key T) m)
      go true ih = ih
      go false ih = refl

  -- ---- from a key on, where it is above all or not above the first
  pub since_none : (key : Key) (S : List (Spot P)) → Every (λ e. lower e.key key ≡ true) (items S) → since key S ≡ []
  since_none key [] h = refl
  since_none key (s ∷ S) h = rw h.0 (since_none key S h.1)

  pub since_all : (key : Key) (S : List (Spot P)) → Every (λ e. lower e.key key ≡ false) (items S) → since key S ≡ S
  since_all key [] h = refl
  since_all key (s ∷ S) h = rw h.0

  -- ---- below a step
  pub items_beneath : (u : Step) (S : List (Spot P)) → items (beneath u S) ≡ items S
  items_beneath u [] = refl
  items_beneath u (s ∷ S) = ap (λ (es : List (Item P)). s.entry ∷ es) (items_beneath u S)

  pub since_beneath : (key : Key) (u : Step) (S : List (Spot P)) → since key (beneath u S) ≡ beneath u (since key S)
  since_beneath key u [] = refl
  since_beneath key u (s ∷ S) = go (lower s.entry.key key) (since_beneath key u S)
    where
      go : (b : Bool)
          → since key (beneath u S) ≡ beneath u (since key S)
          → cond b (since key (beneath u S)) (beneath u (s ∷ S)) ≡ beneath u (cond b (since key S) (s ∷ S))
      go true ih = ih
      go false ih = refl

  pub mem_beneath : (u : Step) (s : Spot P) (S : List (Spot P)) → Mem s S → Mem (spot (u ∷ s.path) s.entry) (beneath u S)
  mem_beneath u s [] m = absurd m
  mem_beneath u s (x ∷ S) (inl e) = inl (ap (λ (y : Spot P). spot (u ∷ y.path) y.entry) e)
  mem_beneath u s (x ∷ S) (inr m) = inr (mem_beneath u s S m)

  pub front_beneath : (u : Step) (S : List (Spot P)) (m : Move P) → (S ≡ [] → ⊥) → front (beneath u S) m ≡ below u (front S end)
  front_beneath u [] m f = absurd (f refl)
  front_beneath u (s ∷ S) m f = refl

  back_below : (u : Step) (S : List (Spot P)) (m : Move P) → back (beneath u S) (below u m) ≡ below u (back S m)
  back_below u [] m = refl
  back_below u (s ∷ S) m = back_below u S (to s)

  pub back_beneath : (u : Step) (S : List (Spot P)) (m : Move P) → (S ≡ [] → ⊥) → back (beneath u S) m ≡ below u (back S end)
  back_beneath u [] m f = absurd (f refl)
  back_beneath u (s ∷ S) m f = back_below u S (to s)

  -- ---- to the first or the last is no refusal
  pub front_not_refused : (S : List (Spot P)) (r : Refusal) (p i c : ℕ) → front S end ≡ refused r p i c → ⊥
  front_not_refused [] r p i c h = cc
  front_not_refused (s ∷ S) r p i c h = cc

  pub back_not_refused : (m : Move P) (S : List (Spot P)) (r : Refusal) (p i c : ℕ) → (m ≡ refused r p i c → ⊥) → back S m ≡ refused r p i c → ⊥
  back_not_refused m [] r p i c f h = f h
  back_not_refused m (s ∷ S) r p i c f h = back_not_refused (to s) S r p i c (λ q. cc) h

-- ---- chains: `stay` follows the path of each spot to it, and `go` moves from it to the spots beside it; before the first it comes to `b`, and after the last to `a`
module _ {P : Type 0} (stay : List Step → Move P) (go : Direction → List Step → Move P) where
  abbrev pub Chain : Move P → List (Spot P) → Move P → Type 0
  Chain b [] a = Unit
  Chain b (s ∷ S) a = (stay s.path ≡ to s) × (go Back s.path ≡ b) × (go Onward s.path ≡ front S a) × Chain (to s) S a

  pub chain_append : (b : Move P) (S T : List (Spot P)) (a : Move P) → Chain b S (front T a) → Chain (back S b) T a → Chain b (S ++ T) a
  chain_append b [] T a h k = k
  chain_append b (s ∷ S) T a h k = (h.0, h.1, h.2 ∙ sym (front-append S T a), chain_append (to s) S T a h.3 k)

  -- what comes beside a spot leads back to it, where that holds before the first
  pub chain_undoes : (b : Move P) (S : List (Spot P)) (s : Spot P) (way : Direction) (path : List Step) (e : Item P)
      → ((path : List Step) (e : Item P) → b ≡ at path e → go Onward path ≡ front S end)
      → Chain b S end
      → Mem s S
      → go way s.path ≡ at path e
      → go (opposite way) path ≡ to s
  chain_undoes b [] s way path e hb h m g = absurd m
  chain_undoes b (x ∷ S) s way path e hb h (inr m) g =
      chain_undoes (to x) S s way path e (λ path' e' q. let r : x.path ≡ path' = cc in rw (← r) h.2) h.3 m g
  chain_undoes b (x ∷ S) s Back path e hb h (inl m) g = rw m (hb path e (sym h.1 ∙ rw m at g))
  chain_undoes b (x ∷ []) s Onward path e hb h (inl m) g =
      absurd (let f = h.2 in let k = rw m at g in cc)
  chain_undoes b (x ∷ y ∷ S) s Onward path e hb h (inl m) g =
      let f = h.2 in
      let k = rw m at g in
      let r : y.path ≡ path = cc in
      rw (← r, m) h.3.1

  -- from a spot no move is refused, where none is before the first
  pub chain_not_refused : (b : Move P) (S : List (Spot P)) (s : Spot P) (way : Direction) (r : Refusal) (p i c : ℕ)
      → (b ≡ refused r p i c → ⊥)
      → Chain b S end
      → Mem s S
      → go way s.path ≡ refused r p i c
      → ⊥
  chain_not_refused b [] s way r p i c hb h m g = m
  chain_not_refused b (x ∷ S) s way r p i c hb h (inr m) g =
      chain_not_refused (to x) S s way r p i c (λ q. cc) h.3 m g
  chain_not_refused b (x ∷ S) s Back r p i c hb h (inl m) g = hb (sym h.1 ∙ rw m at g)
  chain_not_refused b (x ∷ S) s Onward r p i c hb h (inl m) g = front_not_refused S r p i c (sym h.2 ∙ rw m at g)

-- ---- a child's chain, seen from its branch on page q: before the child's first and after its last spot come those below the child beside it
module _ {P : Type 0} (out : Direction → ℕ → Move P) (q i : ℕ) (cs : List (Item ℕ)) where
  pub front_beside : (S : List (Spot P)) (m : Move P) → front (beneath (step q i) S) (or_beside Onward (out Onward) q cs i m) ≡ or_beside Onward (out Onward) q cs i (front S m)
  front_beside [] m = refl
  front_beside (s ∷ S) m = refl

  pub chain_beneath : (stay₀ stay : List Step → Move P) (go₀ go : Direction → List Step → Move P)
      → ((path : List Step) → stay (step q i ∷ path) ≡ below (step q i) (stay₀ path))
      → ((way : Direction) (path : List Step) → go way (step q i ∷ path) ≡ or_beside way (out way) q cs i (go₀ way path))
      → (b : Move P) (S : List (Spot P)) (a : Move P)
      → Chain stay₀ go₀ b S a
      → Chain stay go (or_beside Back (out Back) q cs i b) (beneath (step q i) S) (or_beside Onward (out Onward) q cs i a)
  chain_beneath stay₀ stay go₀ go stays goes b [] a h = tt
  chain_beneath stay₀ stay go₀ go stays goes b (s ∷ S) a h = (
    stays s.path ∙ ap (below (step q i)) h.0,
    goes Back s.path ∙ ap (or_beside Back (out Back) q cs i) h.1,
    goes Onward s.path ∙ ap (or_beside Onward (out Onward) q cs i) h.2 ∙ sym (front_beside S a),
    chain_beneath stay₀ stay go₀ go stays goes (to s) S a h.3,
  )

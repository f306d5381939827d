-- What a sound tree is, in words, with no walk: each page that is reached is few enough levels down, in bounds, not refused, and with all its keys within the range that it is reached with; and no page is one of two blocks reached, nor of one block reached by two ways.
use Rattle.std.specs.Prelude.{ℕ, zero, suc, ◌≤◌, ◌<◌, ◌≡◌, List, [], ◌∷◌, Bool, true, false, length}
use Rattle.std.proofs.Math.Option.{Option}
use Rattle.walk.specs.Tree.{Key, in_range, Item, View, bad, branch, leaf, keys, next, memb, Every}
use Rattle.field.specs.declared.refusal.Refusal.{Refusal}

-- c is child i of a branch, and its range ends so
abbrev pub ChildAt : List (Item ℕ) → Option Key → ℕ → Item ℕ → Option Key → Type 0
ChildAt [] high i c end = ⊥
ChildAt (x ∷ xs) high zero c end = (x ≡ c) × (next xs high ≡ end)
ChildAt (x ∷ xs) high (suc i) c end = ChildAt xs high i c end

abbrev pub keys_on : {P : Type 0} → View P → List Key
keys_on (bad r e c) = []
keys_on (branch cs) = keys cs
keys_on (leaf es) = keys es

module _ {P : Type 0} (view : ℕ → Bool → View P) where
  -- from page p with its range, the children of these indices lead to page q with its range
  pub data Way : ℕ → Bool → Key → Option Key → List ℕ → ℕ → Bool → Key → Option Key → Type 0 where
    stop : {p : ℕ} {t : Bool} {low : Key} {high : Option Key} → Way p t low high [] p t low high
    turn : {p : ℕ} {t : Bool} {low : Key} {high : Option Key} {cs : List (Item ℕ)} (i : ℕ) (c : Item ℕ) (end : Option Key) {is : List ℕ} {q : ℕ} {s : Bool} {lo : Key} {hi : Option Key}
        → view p t ≡ branch cs
        → ChildAt cs high i c end
        → Way c.value false c.key end is q s lo hi
        → Way p t low high (i ∷ is) q s lo hi

  pub record Fits (N d : ℕ) (is : List ℕ) (q : ℕ) (s : Bool) (low : Key) (high : Option Key) : Type 0 where
    pub depth : length is < d
    pub from2 : 2 ≤ q
    pub below_n : q < N
    pub seen : (r : Refusal) (e c : ℕ) → view q s ≡ bad r e c → ⊥
    pub ranged : Every (λ k. in_range low high k ≡ true) (keys_on (view q s))

  -- page p, with its range, is the root of a sound tree of at most d levels; `block` tells the pages of a page's block
  pub record Sound (block : ℕ → List ℕ) (N d p : ℕ) (t : Bool) (low : Key) (high : Option Key) : Type 0 where
    pub each : (is : List ℕ) (q : ℕ) (s : Bool) (lo : Key) (hi : Option Key) → Way p t low high is q s lo hi → Fits N d is q s lo hi
    pub once : (k : ℕ) (is : List ℕ) (q : ℕ) (s : Bool) (lo : Key) (hi : Option Key) (js : List ℕ) (r : ℕ) (u : Bool) (lo' : Key) (hi' : Option Key)
        → Way p t low high is q s lo hi
        → Way p t low high js r u lo' hi'
        → memb k (block q) ≡ true
        → memb k (block r) ≡ true
        → is ≡ js

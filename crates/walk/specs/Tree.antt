-- A tree of pages: what its judge `walk` says, what `lookup` answers, and which pages and entries are reached.
-- What stands on a page is given by a `view`, a parameter: this file knows nothing of bytes.
use Rattle.std.specs.Prelude.{ℕ, zero, suc, ◌+◌, ◌≡◌, List, [], ◌∷◌, ◌++◌, Bool, true, false, not, ◌&&◌, ◌||◌, cond, leb, ltb, eqb, length}
use Rattle.std.proofs.Math.Option.{Option, none, some}
use Rattle.field.specs.declared.refusal.Refusal.{Refusal}
use Rattle.field.specs.declared.refusal.Refusal.TheVariants.{PageNumber, KeyRange, UsedTwice, TooDeep}
use Rattle.field.specs.Order.{order_of, common_of}
use Rattle.std.specs.Ordering.{is_lt, is_eq}

-- ---- keys
abbrev pub Key : Type 0
Key = List ℕ

unfoldable pub lower : Key → Key → Bool
lower a b = is_lt (order_of a b)

unfoldable pub same : Key → Key → Bool
same a b = is_eq (order_of a b)

-- a key is below a range's high end, which may be missing
abbrev pub under : Key → Option Key → Bool
under k none = true
under k (some h) = lower k h

-- a key is in the range from low, included, up to high, not included
abbrev pub in_range : Key → Option Key → Key → Bool
in_range low high k = not (lower k low) && under k high

-- the length of the common beginning of a key and a range's high end, 0 where that is missing
abbrev pub common_with : Key → Option Key → ℕ
common_with k none = 0
common_with k (some h) = common_of k h

-- 02, order 2: the length of the common beginning of a key out of its range and the end that it crosses: the low end where it is below that, and else the high end
abbrev pub common_crossed : Key → Option Key → Key → ℕ
common_crossed low high k = cond (lower k low) (common_of k low) (common_with k high)

-- ---- what stands on a page
pub record Item (A : Type 0) : Type 0 where
  pub key : Key
  pub value : A

-- a page that is refused, with the cause, the element and the length of the common beginning; a branch's separators, each with the page of its child; a leaf's entries
pub data View (P : Type 0) : Type 0 where
  bad : Refusal → ℕ → ℕ → View P
  branch : List (Item ℕ) → View P
  leaf : List (Item P) → View P

abbrev pub keys : {A : Type 0} → List (Item A) → List Key
keys [] = []
keys (x ∷ xs) = x.key ∷ keys xs

-- x is element i of a list
abbrev pub At : {A : Type 0} → List A → ℕ → A → Type 0
At [] i x = ⊥
At (y ∷ ys) zero x = y ≡ x
At (y ∷ ys) (suc i) x = At ys i x

-- Q holds of each element of a list
abbrev pub Every : {A : Type 0} → (A → Type 0) → List A → Type 0
Every Q [] = Unit
Every Q (x ∷ xs) = Q x × Every Q xs

-- each key is below the next
abbrev pub Rising : List Key → Type 0
Rising [] = Unit
Rising (a ∷ []) = Unit
Rising (a ∷ b ∷ ks) = (lower a b ≡ true) × Rising (b ∷ ks)

-- ---- pages
abbrev pub memb : ℕ → List ℕ → Bool
memb p [] = false
memb p (q ∷ qs) = eqb p q || memb p qs

-- no page twice
abbrev pub Distinct : List ℕ → Type 0
Distinct [] = Unit
Distinct (p ∷ ps) = (memb p ps ≡ false) × Distinct ps

-- the first of these pages that is one of those
unfoldable pub first_in : List ℕ → List ℕ → Option ℕ
first_in [] vs = none
first_in (p ∷ ps) vs = cond (memb p vs) (some p) (first_in ps vs)

-- the pages of a file of N pages that can be in a tree: 2 to N - 1
abbrev pub inside : ℕ → ℕ → Bool
inside N p = leb 2 p && ltb p N

-- ---- the judge
-- how many entries and the pages of the blocks visited, or a breach's cause, page, element and length of the common beginning
pub data Verdict : Type 0 where
  pass : ℕ → List ℕ → Verdict
  fault : Refusal → ℕ → ℕ → ℕ → Verdict

abbrev pub if_passed : Verdict → (ℕ → List ℕ → Verdict) → Verdict
if_passed (pass n vs) k = k n vs
if_passed (fault r p e c) k = fault r p e c

-- a key out of range: its index, and the length of the common beginning of it and the end that it crosses
pub record Stray : Type 0 where
  pub index : ℕ
  pub common : ℕ

abbrev pub stray : ℕ → ℕ → Stray
stray index common = record { index = index; common = common }

-- the first key out of range, counted from i
unfoldable pub first_out : Key → Option Key → List Key → ℕ → Option Stray
first_out low high [] i = none
first_out low high (k ∷ ks) i = cond (in_range low high k) (first_out low high ks (suc i)) (some (stray i (common_crossed low high k)))

-- rule 3, which names the lowest page that was visited before, and then the verdict
abbrev pub unless_twice : Option ℕ → Verdict → Verdict
unless_twice none v = v
unless_twice (some page) v = fault UsedTwice page 0 0

-- rule 8, and then the verdict
abbrev pub unless_out : Option Stray → ℕ → Verdict → Verdict
unless_out none page v = v
unless_out (some x) page v = fault KeyRange page x.index x.common

-- a range's high end: the next child's separator, and for the last child the branch's own high end
abbrev pub next : List (Item ℕ) → Option Key → Option Key
next [] high = high
next (c ∷ cs) high = some c.key

-- how a page one level down is walked: by its number, its range, and the pages visited
abbrev pub Walker : Type 0
Walker = ℕ → Key → Option Key → List ℕ → Verdict

-- the children in order, after n entries
unfoldable pub walk_all : Walker → List (Item ℕ) → Option Key → ℕ → List ℕ → Verdict
walk_all go [] high n vs = pass n vs
walk_all go (c ∷ cs) high n vs = if_passed (go c.value c.key (next cs high) vs) (λ m ws. walk_all go cs high (n + m) ws)

unfoldable pub walk_page : {P : Type 0} → Walker → View P → ℕ → Key → Option Key → List ℕ → Verdict
walk_page go (bad r e c) page low high vs = fault r page e c
walk_page go (branch cs) page low high vs = unless_out (first_out low high (keys cs) 0) page (walk_all go cs high 0 vs)
walk_page go (leaf es) page low high vs = unless_out (first_out low high (keys es) 0) page (pass (length es) vs)

-- ---- the search
pub data Answer (P : Type 0) : Type 0 where
  refused : Refusal → ℕ → ℕ → ℕ → Answer P
  found : Item P → ℕ → ℕ → Answer P
  absent : Answer P

-- the child for a key: the first whose next separator is above the key, or which is the last
unfoldable pub child_for : List (Item ℕ) → Key → ℕ
child_for [] key = 0
child_for (c ∷ cs) key = cond (under key (next cs none)) c.value (child_for cs key)

-- the entry with this key, of those from index i on
unfoldable pub seek_from : {P : Type 0} → List (Item P) → Key → ℕ → ℕ → Answer P
seek_from [] key page i = absent
seek_from (e ∷ es) key page i = cond (same e.key key) (found e page i) (seek_from es key page (suc i))

unfoldable pub look_page : {P : Type 0} → (ℕ → Answer P) → View P → ℕ → Key → Answer P
look_page go (bad r e c) page key = refused r page e c
look_page go (branch cs) page key = go (child_for cs key)
look_page go (leaf es) page key = seek_from es key page 0

-- ---- the tree, by the number of pages, the pages of each one's block, rising, and the view of each, as the root's level or below
-- 01: rules 1 to 8 in this order; 02's order 3: rule 3 comes directly after rule 4 and marks every page of the block, and if any is marked already, `UsedTwice`, naming
-- the lowest. Rules 4 to 7 are the view's; a page that rule 4 refuses has no block, so rule 3 finds nothing there and the view refuses it
module _ {P : Type 0} (N : ℕ) (block : ℕ → List ℕ) (view : ℕ → Bool → View P) where
  unfoldable pub walk : ℕ → Bool → ℕ → Key → Option Key → List ℕ → Verdict
  walk zero top page low high vs = fault TooDeep page 0 0
  walk (suc d) top page low high vs =
      cond (inside N page)
      (unless_twice (first_in (block page) vs) (walk_page (walk d false) (view page top) page low high (block page ++ vs)))
      (fault PageNumber page 0 0)

module _ {P : Type 0} (N : ℕ) (view : ℕ → Bool → View P) where
  unfoldable pub lookup : ℕ → Bool → ℕ → Key → Answer P
  lookup zero top page key = refused TooDeep page 0 0
  lookup (suc d) top page key = cond (inside N page) (look_page (λ p. lookup d false p key) (view page top) page key) (refused PageNumber page 0 0)

module _ {P : Type 0} (view : ℕ → Bool → View P) where
  -- page q, viewed as the root or not, is on this level below page p, which is on level 1
  pub data Below : ℕ → Bool → ℕ → ℕ → Bool → Type 0 where
    here : {p : ℕ} {t : Bool} → Below p t 1 p t
    down : {p : ℕ} {t : Bool} {cs : List (Item ℕ)} (i : ℕ) (c : Item ℕ) {l q : ℕ} {s : Bool}
        → view p t ≡ branch cs
        → At cs i c
        → Below c.value false l q s
        → Below p t (suc l) q s

  -- a key leads from page p, which is on level 1, to page q on this level: at each branch to the child for the key
  pub data Leads (key : Key) : ℕ → Bool → ℕ → ℕ → Bool → Type 0 where
    ends : {p : ℕ} {t : Bool} → Leads key p t 1 p t
    goes : {p : ℕ} {t : Bool} {cs : List (Item ℕ)} {l q : ℕ} {s : Bool}
        → view p t ≡ branch cs
        → Leads key (child_for cs key) false l q s
        → Leads key p t (suc l) q s

  -- page q is reached from page p
  pub record Reached (p : ℕ) (t : Bool) (q : ℕ) : Type 0 where
    pub level : ℕ
    pub top : Bool
    pub way : Below p t level q top

  -- page k is one of a block that is reached from page p
  pub record Used (block : ℕ → List ℕ) (p : ℕ) (t : Bool) (k : ℕ) : Type 0 where
    pub page : ℕ
    pub reached : Reached p t page
    pub within : memb k (block page) ≡ true

  -- e is entry i of the leaf q, which is reached from page p
  pub record LeafEntry (p : ℕ) (t : Bool) (q i : ℕ) (e : Item P) : Type 0 where
    pub level : ℕ
    pub top : Bool
    pub entries : List (Item P)
    pub way : Below p t level q top
    pub is_leaf : view q top ≡ leaf entries
    pub entry_at : At entries i e

  -- what a page's own check has seen to
  pub record Checked : Type 0 where
    pub branches : (p : ℕ) (t : Bool) (cs : List (Item ℕ)) → view p t ≡ branch cs → (cs ≡ [] → ⊥) × Rising (keys cs)
    pub leaves : (p : ℕ) (t : Bool) (es : List (Item P)) → view p t ≡ leaf es → Rising (keys es)

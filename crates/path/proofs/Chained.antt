-- In a tree whose walk passes: below each page there is one chain of spots, whose entries are those of the walk in their order. `outer` comes to its first or last, `seek` to the
-- first that is not below the key, `neighbour` to the spot beside, and every path that is followed to an entry is one of the chain's.
-- Assumes what a page's own check has seen to, `Checked`, and that no leaf below the root is empty, `filled`.
use Prim.Native.Nat.{ℕ, zero, suc, ◌+◌}
use native.Mathlib.Omega.{arith}
use mathlib.Core.Path.{◌≡◌, refl, sym, ap, ap₂, subst, ◌∙◌}
use mathlib.Core.List.{List, [], ◌∷◌, ◌++◌}
use mathlib.Core.Bool.{Bool, true, false, cond}
use mathlib.Core.Option.{Option, none, some}
use mathlib.Core.Logic.{inl, inr}
use lib.ListN.{length}
use Rattle.walk.specs.Tree.{Key, lower, under, Item, View, branch, leaf, keys, Every, Rising, inside, next, Checked}
use Rattle.walk.specs.Listing.{Slot, key_at, Mem}
use Rattle.walk.proofs.KeyLaws.{high_chain, lower_one_way, range_low, range_high, under_next, under_past, under_some, rising_tail}
use Rattle.walk.proofs.Slots.{every_map, every_append, mem_left, mem_right, slots}
use Rattle.walk.proofs.Walked.{Walked, WalkedAll, at_leaf, at_branch, done, more}
use Rattle.walk.proofs.Search.{In, ranged}
use Rattle.path.specs.declared.Direction.{Direction}
use Rattle.path.specs.declared.Direction.TheVariants.{Onward, Back}
use Rattle.path.specs.declared.Step.{Step}
use Rattle.path.specs.Path.{step, placed, nth, beside, outermost, not_below, leading, Move, at, end, entry_at, below, child_at, or_beside, outer_page, seek_child, seek_page, met, outer, seek, follow, neighbour}
use Rattle.path.specs.Lists.{entries}
use Rattle.path.proofs.Elements.{Rest, rest_whole, rest_head, rest_tail, beside_end}
use Rattle.path.proofs.Stands.{follow_leaf_lem, follow_branch, neighbour_leaf, neighbour_branch, Followed, on_leaf, on_branch, followed, follow_same}
use Rattle.path.proofs.Spots.{Spot, spot, front, back, items, beneath, since, front-append, back_append, items_append, since_append, since_none, since_all, items_beneath, since_beneath, mem_beneath, front_beneath, back_beneath, Chain, chain_append, front_beside, chain_beneath}

-- ---- the entries of slots
module _ {P : Type 0} where
  pub entries_append : (L M : List (Slot P)) → entries (L ++ M) ≡ entries L ++ entries M
  unfolding entries
  entries_append [] M = refl
  entries_append (s ∷ L) M = ap (λ (es : List (Item P)). s.entry ∷ es) (entries_append L M)

  entries_slots : (p i : ℕ) (es : List (Item P)) → entries (slots p i es) ≡ es
  unfolding entries slots
  entries_slots p i [] = refl
  entries_slots p i (e ∷ es) = ap (λ (xs : List (Item P)). e ∷ xs) (entries_slots p (suc i) es)

  pub every_entry : (Q : Item P → Type 0) (L : List (Slot P)) → Every (λ s. Q s.entry) L → Every Q (entries L)
  unfolding entries
  every_entry Q [] h = tt
  every_entry Q (s ∷ L) h = (h.0, every_entry Q L h.1)

-- ---- the spots of a leaf
module _ {P : Type 0} where
  -- of a leaf's entries, from index k on
  abbrev leaf_spots : ℕ → ℕ → List (Item P) → List (Spot P)
  leaf_spots p k [] = []
  leaf_spots p k (e ∷ es) = spot (step p k ∷ []) e ∷ leaf_spots p (suc k) es

  leaf_items : (p k : ℕ) (es : List (Item P)) → items (leaf_spots p k es) ≡ es
  leaf_items p k [] = refl
  leaf_items p k (e ∷ es) = ap (λ (xs : List (Item P)). e ∷ xs) (leaf_items p (suc k) es)

  leaf_front : (p k : ℕ) (es : List (Item P)) → entry_at p (placed k (nth es 0)) ≡ front (leaf_spots p k es) end
  unfolding nth
  leaf_front p k [] = refl
  leaf_front p k (e ∷ es) = refl

  -- before the next entry comes this one
  leaf_turn : (p k : ℕ) (all : List (Item P)) (e : Item P) → nth all k ≡ some e → entry_at p (beside Back all (suc k)) ≡ at (step p k ∷ []) e
  unfolding beside
  leaf_turn p k all e n = rw n

  leaf_back : (p k : ℕ) (all es : List (Item P))
      → Rest all k es
      → length es + k ≡ length all
      → back (leaf_spots p k es) (entry_at p (beside Back all k)) ≡ entry_at p (beside Back all (length all))
  leaf_back p k all [] r l = let e : k ≡ length all = omega arith in rw e
  leaf_back p k all (e ∷ es) r l =
      ap (back (leaf_spots p (suc k) es)) (sym (leaf_turn p k all e (rest_head all k e es r)))
      ∙ leaf_back p (suc k) all es (rest_tail all k e es r) (omega arith)

  leaf_since : (key : Key) (p k : ℕ) (es : List (Item P)) → entry_at p (not_below es key k) ≡ front (since key (leaf_spots p k es)) end
  unfolding not_below
  leaf_since key p k [] = refl
  leaf_since key p k (e ∷ es) = go (lower e.key key) (leaf_since key p (suc k) es)
    where
      go : (b : Bool)
          → entry_at p (not_below es key (suc k)) ≡ front (since key (leaf_spots p (suc k) es)) end
          → entry_at p (cond b (not_below es key (suc k)) (placed k (some e))) ≡ front (cond b (since key (leaf_spots p (suc k) es)) (leaf_spots p k (e ∷ es))) end
      go true ih = ih
      go false ih = refl

  leaf_mem : (p k j : ℕ) (es : List (Item P)) (e : Item P) → nth es j ≡ some e → Mem (spot (step p (j + k) ∷ []) e) (leaf_spots p k es)
  unfolding nth
  leaf_mem p k j [] e n = absurd cc
  leaf_mem p k zero (x ∷ es) e n =
      let a : x ≡ e = cc in
      let z : zero + k ≡ k = omega arith in
      inl (ap₂ (λ (i : ℕ) (u : Item P). spot (step p i ∷ []) u) z (sym a))
  leaf_mem p k (suc j) (x ∷ es) e n =
      let z : suc j + k ≡ j + suc k = omega arith in
      inr (subst (λ (i : ℕ). Mem (spot (step p i ∷ []) e) (leaf_spots p (suc k) es)) (sym z) (leaf_mem p (suc k) j es e n))

module _ {P : Type 0} (N : ℕ) (view : ℕ → Bool → View P) where
  -- the moves from the spots below page p, of d levels
  abbrev pub ChainAt : ℕ → Bool → ℕ → Move P → List (Spot P) → Move P → Type 0
  ChainAt d t p = Chain (follow N view d t p) (λ way. neighbour N view way d t p)

  leaf_chain : (d : ℕ) (t : Bool) (p k : ℕ) (all es : List (Item P))
      → met N view p t ≡ leaf all
      → view p t ≡ leaf all
      → Rest all k es
      → ChainAt (suc d) t p (entry_at p (beside Back all k)) (leaf_spots p k es) end
  unfolding beside
  leaf_chain d t p k all [] m f r = tt
  leaf_chain d t p k all (e ∷ es) m f r =
      let n = rest_head all k e es r in
      let s = rest_tail all k e es r in
      let z : 0 + suc k ≡ suc k = omega arith in
      let o : nth all (suc k) ≡ nth es 0 = rw z at (s 0) in (
        follow_leaf_lem N view d t p k all e m n,
        neighbour_leaf N view Back d t p k all [] f,
        neighbour_leaf N view Onward d t p k all [] f ∙ ap (λ (x : Option (Item P)). entry_at p (placed (suc k) x)) o ∙ leaf_front p (suc k) es,
        rw (leaf_turn p k all e n) at (leaf_chain d t p (suc k) all es m f s),
      )

  outer_met : (way : Direction) (d : ℕ) (t : Bool) (p : ℕ) (v : View P) → met N view p t ≡ v → outer N view way (suc d) t p ≡ outer_page way (outer N view way d false) v p
  unfolding outer
  outer_met way d t p v m = rw m

  seek_met : (key : Key) (d : ℕ) (t : Bool) (p : ℕ) (v : View P)
      → met N view p t ≡ v
      → seek N view key (suc d) t p ≡ seek_page key (seek N view key d false) (outer N view Onward d false) v p
  unfolding seek
  seek_met key d t p v m = rw m

  -- ---- below a page, and below the children of a branch
  -- the chain below page p, of d levels, with the entries of these slots
  pub record Chained (d : ℕ) (t : Bool) (p : ℕ) (L : List (Slot P)) : Type 0 where
    pub spots : List (Spot P)
    pub listed : items spots ≡ entries L
    pub nonempty : t ≡ false → spots ≡ [] → ⊥
    pub chain : ChainAt d t p end spots end
    pub first : outer N view Onward d t p ≡ front spots end
    pub last : outer N view Back d t p ≡ back spots end
    pub sought : (key : Key) → seek N view key d t p ≡ front (since key spots) end
    pub only : (path : List Step) (e : Item P) → follow N view d t p path ≡ at path e → Mem (spot path e) spots

  -- the last spot before child k of the branch on page p
  abbrev before : ℕ → ℕ → List (Item ℕ) → ℕ → Move P
  before d p all k = child_at (outer N view Back d false) p (beside Back all k)

  -- the chain below page p, a branch, from child k on: below the children cs, each of d levels
  record Row (d : ℕ) (t : Bool) (p : ℕ) (all : List (Item ℕ)) (k : ℕ) (cs : List (Item ℕ)) (L : List (Slot P)) : Type 0 where
    spots : List (Spot P)
    listed : items spots ≡ entries L
    nonempty : (cs ≡ [] → ⊥) → spots ≡ [] → ⊥
    chain : ChainAt (suc d) t p (before d p all k) spots end
    first : child_at (outer N view Onward d false) p (placed k (nth cs 0)) ≡ front spots end
    last : back spots (before d p all k) ≡ before d p all (length all)
    sought : (key : Key) → (cs ≡ [] → ⊥) → seek_child (seek N view key d false) (outer N view Onward d false) p all (leading cs key k) ≡ front (since key spots) end
    only : (j : ℕ) (c : Item ℕ) (path : List Step) (e : Item P)
        → nth cs j ≡ some c
        → follow N view d false c.value path ≡ at path e
        → Mem (spot (step p (j + k) ∷ path) e) spots

  at_leaf_lem : (d : ℕ) (t : Bool) (p : ℕ) (es : List (Item P)) (L : List (Slot P))
      → (t ≡ false → es ≡ [] → ⊥)
      → inside N p ≡ true
      → view p t ≡ leaf es
      → L ≡ slots p 0 es
      → Chained (suc d) t p L
  unfolding beside outermost
  at_leaf_lem d t p es L filled i f q =
      let m : met N view p t ≡ leaf es = rw (i, f) in
      let z : length es + 0 ≡ length es = omega arith in
      record {
        spots = leaf_spots p 0 es;
        listed = rw q (leaf_items p 0 es ∙ sym (entries_slots p 0 es));
        nonempty = λ a b. filled a (sym (leaf_items p 0 es) ∙ ap items b);
        chain = leaf_chain d t p 0 es es m f (rest_whole es);
        first = outer_met Onward d t p (leaf es) m ∙ leaf_front p 0 es;
        last = outer_met Back d t p (leaf es) m ∙ ap (entry_at p) (sym (beside_end es)) ∙ sym (leaf_back p 0 es es (rest_whole es) z);
        sought = λ key. seek_met key d t p (leaf es) m ∙ leaf_since key p 0 es;
        only = λ path e h. in_leaf path e m (followed N view d t p path path e h);
      }
    where
      in_leaf : (path : List Step) (e : Item P) → met N view p t ≡ leaf es → Followed N view d t p path path e → Mem (spot path e) (leaf_spots p 0 es)
      in_leaf path e m (on_leaf i xs g n a b) =
          let x : xs ≡ es = cc in
          let z : i + 0 ≡ i = omega arith in
          rw a (rw z at (leaf_mem p 0 i es e (rw x at n)))
      in_leaf path e m (on_branch i cs c rest rest' g n k a b) = absurd cc

  no_row : (d : ℕ) (t : Bool) (p : ℕ) (all : List (Item ℕ)) (k : ℕ) → k ≡ length all → Row d t p all k [] []
  unfolding nth entries
  no_row d t p all k l =
      record {
        spots = [];
        listed = refl;
        nonempty = λ f e. f refl;
        chain = tt;
        first = refl;
        last = rw l;
        sought = λ key f. absurd (f refl);
        only = λ j c path e n h. absurd cc;
      }

  -- a child's chain before those of the children after it
  more_row : (d : ℕ) (t : Bool) (p : ℕ) (all : List (Item ℕ)) (k : ℕ) (c : Item ℕ) (cs : List (Item ℕ)) (high : Option Key) (L M K : List (Slot P))
      → met N view p t ≡ branch all
      → view p t ≡ branch all
      → Rest all k (c ∷ cs)
      → Every (λ s. In c.key (next cs high) (key_at s)) L
      → ((key : Key) → under key (next cs none) ≡ true → Every (λ s. lower (key_at s) key ≡ false) M)
      → Chained d false c.value L
      → Row d t p all (suc k) cs M
      → K ≡ L ++ M
      → Row d t p all k (c ∷ cs) K
  unfolding nth beside leading
  more_row d t p all k c cs high L M K m f r within after h rest q =
      record {
        spots = S ++ T;
        listed = rw q (items_append S T ∙ rw (own, rest.listed) (sym (entries_append L M)));
        nonempty = λ g. some_joined h.spots some_own;
        chain = chain_append (follow N view (suc d) t p) (λ way. neighbour N view way (suc d) t p) (before d p all k) S T end (rw following at own_chain) (rw turned rest.chain);
        first = ap (below u) h.first ∙ sym (front-append S T end ∙ front_beneath u h.spots (front T end) some_own);
        last = back_append S T (before d p all k) ∙ ap (back T) turned ∙ rest.last;
        sought = λ key g. sought_in key (under key (next cs none)) refl;
        only = only_in;
      }
    where
      u : Step
      u = step p k

      S : List (Spot P)
      S = beneath u h.spots

      T : List (Spot P)
      T = rest.spots

      own : items S ≡ entries L
      own = items_beneath u h.spots ∙ h.listed

      some_own : h.spots ≡ [] → ⊥
      some_own = h.nonempty refl

      some_joined : (R : List (Spot P)) → (R ≡ [] → ⊥) → beneath u R ++ T ≡ [] → ⊥
      some_joined [] g e = g refl
      some_joined (x ∷ R) g e = cc

      -- after this child's last spot comes the first of the rest
      following : child_at (outer N view Onward d false) p (beside Onward all k) ≡ front T end
      following =
          let z : 0 + suc k ≡ suc k = omega arith in
          let o : nth all (suc k) ≡ nth cs 0 = rw z at (rest_tail all k c cs r 0) in
          rw o rest.first

      -- and before the first of the rest this child's last
      turned : back S (before d p all k) ≡ before d p all (suc k)
      turned =
          back_beneath u h.spots (before d p all k) some_own
          ∙ ap (below u) (sym h.last)
          ∙ rw (rest_head all k c cs r) refl

      own_chain : ChainAt (suc d) t p (before d p all k) S (child_at (outer N view Onward d false) p (beside Onward all k))
      own_chain =
          let n = rest_head all k c cs r in
          chain_beneath (λ way. outer N view way d false) p k all (follow N view d false c.value) (follow N view (suc d) t p)
          (λ way. neighbour N view way d false c.value)
          (λ way. neighbour N view way (suc d) t p)
          (λ path. follow_branch N view d t p k all c path m n)
          (λ way path. neighbour_branch N view way d t p k all c path f n)
          end
          h.spots
          end
          h.chain

      sought_in : (key : Key) (b : Bool)
          → under key (next cs none) ≡ b
          → seek_child (seek N view key d false) (outer N view Onward d false) p all (cond b (placed k (some c)) (leading cs key (suc k)))
          ≡ front (since key (S ++ T)) end
      sought_in key true e =
          let late : Every (λ (x : Item P). lower x.key key ≡ false) (items T) =
          rw rest.listed (every_entry (λ x. lower x.key key ≡ false) M (after key e)) in
          ap (or_beside Onward (outer N view Onward d false) p all k) (h.sought key)
          ∙ sym (front_beside (λ way. outer N view way d false) p k all (since key h.spots) end)
          ∙ rw following
          (sym (since_append key S T end ∙ rw (since_all key T late, since_beneath key u h.spots)))
      sought_in key false e =
          let early : Every (λ (x : Item P). lower x.key key ≡ true) (items S) =
          rw own
          (every_entry (λ x. lower x.key key ≡ true) L
          (every_map
          (λ s. In c.key (next cs high) (key_at s))
          (λ s. lower (key_at s) key ≡ true)
          (λ s x. under_past (key_at s) key high cs (range_high c.key (next cs high) (key_at s) x) e)
          L
          within)) in
          rest.sought key (under_some key cs e) ∙ sym (since_append key S T end ∙ rw (since_none key S early))

      only_in : (j : ℕ) (x : Item ℕ) (path : List Step) (e : Item P)
          → nth (c ∷ cs) j ≡ some x
          → follow N view d false x.value path ≡ at path e
          → Mem (spot (step p (j + k) ∷ path) e) (S ++ T)
      only_in zero x path e n g =
          let a : c ≡ x = cc in
          let z : zero + k ≡ k = omega arith in
          rw z (mem_left (spot (u ∷ path) e) S T (mem_beneath u (spot path e) h.spots (h.only path e (rw a g))))
      only_in (suc j) x path e n g =
          let z : suc j + k ≡ j + suc k = omega arith in
          rw z (mem_right (spot (step p (j + suc k) ∷ path) e) S T (rest.only j x path e n g))

  at_branch_lem : (d : ℕ) (t : Bool) (p : ℕ) (all : List (Item ℕ)) (L : List (Slot P))
      → (all ≡ [] → ⊥)
      → met N view p t ≡ branch all
      → Row d t p all 0 all L
      → Chained (suc d) t p L
  unfolding beside outermost
  at_branch_lem d t p all L some-child m row =
      record {
        spots = row.spots;
        listed = row.listed;
        nonempty = λ a. row.nonempty some-child;
        chain = row.chain;
        first = outer_met Onward d t p (branch all) m ∙ row.first;
        last = outer_met Back d t p (branch all) m ∙ ap (child_at (outer N view Back d false) p) (sym (beside_end all)) ∙ sym row.last;
        sought = λ key. seek_met key d t p (branch all) m ∙ row.sought key some-child;
        only = λ path e h. in_child path e (followed N view d t p path path e h);
      }
    where
      in_child : (path : List Step) (e : Item P) → Followed N view d t p path path e → Mem (spot path e) row.spots
      in_child path e (on_leaf i es g n a b) = absurd cc
      in_child path e (on_branch i cs c rest rest' g n k a b) =
          let x : cs ≡ all = cc in
          let z : i + 0 ≡ i = omega arith in
          let s = follow_same N view d false c.value rest rest' e k in
          rw a (rw z at (row.only i c rest e (rw x at n) (rw s at k)))

-- ---- the tree
module _ {P : Type 0} (N : ℕ) (block : ℕ → List ℕ) (view : ℕ → Bool → View P) where
  -- a key below the first separator is above no leaf key
  ahead : {d : ℕ} {cs : List (Item ℕ)} {high : Option Key} {vs : List ℕ} {L : List (Slot P)} {ws : List ℕ} (key : Key)
      → Rising (keys cs)
      → under key (next cs none) ≡ true
      → WalkedAll N block view d cs high vs L ws
      → Every (λ s. lower (key_at s) key ≡ false) L
  ahead key r h done = tt
  ahead key r h (more {c = c} {cs = cs} {high = high} {L = L} {M = M} w ws q) =
      rw q
      (every_append (λ s. lower (key_at s) key ≡ false) L M
      (every_map
      (λ s. In c.key (next cs high) (key_at s))
      (λ s. lower (key_at s) key ≡ false)
      (λ s e. lower_one_way key (key_at s) (high_chain key c.key (key_at s) h (range_low c.key (next cs high) (key_at s) e)))
      L
      (ranged N block view w))
      (ahead key (rising_tail c.key (keys cs) r) (under_next key c cs r h) ws))

  module _ (checked : Checked view) (filled : (p : ℕ) (es : List (Item P)) → view p false ≡ leaf es → es ≡ [] → ⊥) where
    mutual
      pub chained : {d : ℕ} {t : Bool} {p : ℕ} {low : Key} {high : Option Key} {vs : List ℕ} {L : List (Slot P)} {ws : List ℕ}
          → Walked N block view d t p low high vs L ws
          → Chained N view d t p L
      chained (at_leaf {d = d} {t = t} {p = p} {es = es} {L = L} i m f o q g) = at_leaf_lem N view d t p es L (λ a. filled p es (rw a at f)) i f q
      chained (at_branch {d = d} {t = t} {p = p} {cs = cs} {L = L} i m f o w) =
          at_branch_lem N view d t p cs L (checked.branches p t cs f).0 (rw (i, f))
          (rowed t p cs 0 (rw (i, f)) f (rest_whole cs) (omega arith) (checked.branches p t cs f).1 w)

      rowed : {d : ℕ} {cs : List (Item ℕ)} {high : Option Key} {vs : List ℕ} {L : List (Slot P)} {ws : List ℕ} (t : Bool) (p : ℕ) (all : List (Item ℕ)) (k : ℕ)
          → met N view p t ≡ branch all
          → view p t ≡ branch all
          → Rest all k cs
          → length cs + k ≡ length all
          → Rising (keys cs)
          → WalkedAll N block view d cs high vs L ws
          → Row N view d t p all k cs L
      rowed t p all k m f r l s (done {d = d}) = no_row N view d t p all k (omega arith)
      rowed t p all k m f r l s (more {d = d} {c = c} {cs = cs} {high = high} {L = L} {M = M} {K = K} w ws q) =
          let s' = rising_tail c.key (keys cs) s in
          more_row N view d t p all k c cs high L M K m f r (ranged N block view w) (λ key e. ahead key s' e ws) (chained w)
          (rowed t p all (suc k) m f (rest_tail all k c cs r) (omega arith) s' ws)
          q

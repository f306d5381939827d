-- What moves along a chain list: its entries from a key on, up to a key, or in falling order.
-- Assumes nothing.
use Prim.Native.Nat.{ℕ}
use mathlib.Core.Path.{◌≡◌, refl, ap, ◌∙◌}
use mathlib.Core.List.{List, [], ◌∷◌}
use mathlib.Core.Bool.{Bool, true, false, cond}
use Rattle.field.specs.Order.{order_of}
use Rattle.walk.specs.Tree.{Key, lower, Item, View, Every}
use Rattle.walk.specs.Listing.{Slot, key_at, Sorted}
use Rattle.walk.proofs.KeyLaws.{low_chain, lower_one_way}
use Rattle.walk.proofs.Slots.{every_map}
use Rattle.path.specs.declared.Direction.{Direction}
use Rattle.path.specs.declared.Direction.TheVariants.{Onward, Back}
use Rattle.path.specs.declared.Step.{Step}
use Rattle.path.specs.Path.{Move, at, end, follow, neighbour, move}
use Rattle.path.specs.Lists.{Lists, stops, goes, entries, from, up_to, reversed, until}
use Rattle.path.proofs.Spots.{Spot, to, front, back, items, since, Chain}
use Rattle.path.proofs.Chained.{every_entry, ChainAt}

-- ---- entries whose keys rise
-- a key that is not above one is not above those that this one is below
not_above_lem : (a b c : Key) → lower b a ≡ false → lower b c ≡ true → lower c a ≡ false
not_above_lem a b c h k = lower_one_way a c (low_chain a b c h k)

module _ {P : Type 0} where
  abbrev pub Ascending : List (Item P) → Type 0
  Ascending [] = Unit
  Ascending (e ∷ es) = Every (λ x. lower e.key x.key ≡ true) es × Ascending es

  pub ascending_entries : (L : List (Slot P)) → Sorted L → Ascending (entries L)
  unfolding entries
  ascending_entries [] h = tt
  ascending_entries (s ∷ L) h = (every_entry (λ x. lower (key_at s) x.key ≡ true) L h.0, ascending_entries L h.1)

  -- all that come after an entry which is not below a key
  not-below : (key : Key) (e : Item P) (es : List (Item P))
      → lower e.key key ≡ false
      → Every (λ x. lower e.key x.key ≡ true) es
      → Every (λ x. lower x.key key ≡ false) es
  not-below key e es h =
      every_map (λ x. lower e.key x.key ≡ true) (λ x. lower x.key key ≡ false) (λ x. not_above_lem key e.key x.key h) es

  from_all : (key : Key) (es : List (Item P)) → Every (λ x. lower x.key key ≡ false) es → from key es ≡ es
  unfolding from
  from_all key [] h = refl
  from_all key (e ∷ es) h = rw h.0 (ap (λ (xs : List (Item P)). e ∷ xs) (from_all key es h.1))

  up_to_none : (key : Key) (es : List (Item P)) → Every (λ x. lower x.key key ≡ false) es → up_to key es ≡ []
  unfolding up_to
  up_to_none key [] h = refl
  up_to_none key (e ∷ es) h = rw h.0 (up_to_none key es h.1)

  -- no key is below the empty one
  pub from_lowest : (es : List (Item P)) → from [] es ≡ es
  unfolding lower order_of
  from_lowest es = from_all [] es (each es)
    where
      lowest : (key : Key) → lower key [] ≡ false
      lowest [] = refl
      lowest (x ∷ key) = refl

      each : (es : List (Item P)) → Every (λ x. lower x.key [] ≡ false) es
      each [] = tt
      each (e ∷ es) = (lowest e.key, each es)

  pub from_since : (key : Key) (S : List (Spot P)) → Ascending (items S) → items (since key S) ≡ from key (items S)
  unfolding from
  from_since key [] h = refl
  from_since key (s ∷ S) h = go (lower s.entry.key key) refl (from_since key S h.1)
    where
      go : (b : Bool)
          → lower s.entry.key key ≡ b
          → items (since key S) ≡ from key (items S)
          → items (cond b (since key S) (s ∷ S)) ≡ cond b (from key (items S)) (s.entry ∷ from key (items S))
      go true e ih = ih
      go false e ih = rw (from_all key (items S) (not-below key s.entry (items S) e h.0))

  pub ascending_since : (key : Key) (S : List (Spot P)) → Ascending (items S) → Ascending (items (since key S))
  ascending_since key [] h = tt
  ascending_since key (s ∷ S) h = go (lower s.entry.key key) (ascending_since key S h.1)
    where
      go : (b : Bool) → Ascending (items (since key S)) → Ascending (items (cond b (since key S) (s ∷ S)))
      go true ih = ih
      go false ih = h

  -- from a key on a chain is a chain
  pub chain_since : (stay : List Step → Move P) (go : Direction → List Step → Move P) (key : Key) (b : Move P) (S : List (Spot P)) (a : Move P)
      → Chain stay go b S a
      → (b' : Move P) × Chain stay go b' (since key S) a
  chain_since stay go key b [] a h = (b, tt)
  chain_since stay go key b (s ∷ S) a h = pick (lower s.entry.key key) (chain_since stay go key (to s) S a h.3)
    where
      pick : (t : Bool) → (b' : Move P) × Chain stay go b' (since key S) a → (b' : Move P) × Chain stay go b' (cond t (since key S) (s ∷ S)) a
      pick true ih = ih
      pick false ih = (b, h)

-- ---- moves along a chain
module _ {P : Type 0} (N : ℕ) (view : ℕ → Bool → View P) (d : ℕ) (t : Bool) (p : ℕ) where
  pub move_beside : (way : Direction) (path path' : List Step) (e : Item P) → follow N view d t p path ≡ at path' e → move N view way d t p path ≡ neighbour N view way d t p path
  unfolding move
  move_beside way path path' e h = rw h

  pub chain_onward : (b : Move P) (S : List (Spot P)) → ChainAt N view d t p b S end → Lists (move N view Onward d t p) (front S end) (items S)
  chain_onward b [] h = stops
  chain_onward b (s ∷ S) h =
      let m = move_beside Onward s.path s.path s.entry h.0 ∙ h.2 in
      goes {path = s.path} {es = items S} (rw m (chain_onward (to s) S h.3))

  pub chain_back : (b : Move P) (S : List (Spot P)) (a : Move P) (done : List (Item P))
      → ChainAt N view d t p b S a
      → Lists (move N view Back d t p) b done
      → Lists (move N view Back d t p) (back S b) (reversed (items S) done)
  unfolding reversed
  chain_back b [] a done h l = l
  chain_back b (s ∷ S) a done h l =
      let m = move_beside Back s.path s.path s.entry h.0 ∙ h.1 in
      chain_back (to s) S a (s.entry ∷ done) h.3 (goes (rw m l))

  pub chain_until : (high : Key) (b : Move P) (S : List (Spot P))
      → Ascending (items S)
      → ChainAt N view d t p b S end
      → Lists (λ path. until high (move N view Onward d t p path)) (until high (front S end)) (up_to high (items S))
  unfolding up_to
  chain_until high b [] o h = stops
  chain_until high b (s ∷ S) o h = go (lower s.entry.key high) refl (chain_until high (to s) S o.1 h.3)
    where
      go : (c : Bool)
          → lower s.entry.key high ≡ c
          → Lists (λ path. until high (move N view Onward d t p path)) (until high (front S end)) (up_to high (items S))
          → Lists (λ path. until high (move N view Onward d t p path)) (cond c (to s) end) (cond c (s.entry ∷ up_to high (items S)) (up_to high (items S)))
      go true e ih =
          let m = move_beside Onward s.path s.path s.entry h.0 ∙ h.2 in
          goes {path = s.path} {es = up_to high (items S)} (rw m ih)
      go false e ih = rw (up_to_none high (items S) (not-below high s.entry (items S) e o.0)) stops

-- What holds of a cursor's moves: in a tree whose walk passes they list all entries in order, from a key on, up to a key, or back, undo each other, and are never refused. In any tree
-- a path that was come to stands where it says, and no page is looked at that is not reached.
-- Assumes, where the walk passes, what a page's own check has seen to: `Checked`, and that no leaf below the root is empty, `filled`.
use Prim.Native.Nat.{ℕ, ◌≤◌}
use mathlib.Core.Path.{◌≡◌, sym, ap, ◌∙◌}
use mathlib.Core.List.{List, []}
use mathlib.Core.Bool.{Bool, true, false}
use mathlib.Core.Option.{none}
use lib.ListN.{length}
use Rattle.walk.specs.Tree.{Key, Item, View, leaf, Checked, pass, walk, Reached}
use Rattle.walk.specs.Listing.{Slot}
use Rattle.walk.proofs.Walked.{Walked, walked}
use Rattle.walk.proofs.Search.{sorted}
use Rattle.walk.proofs.Reach.{entered, listed}
use Rattle.walk.proofs.Count.{sorted_unique}
use Rattle.walk.proofs.Theorems.{listing}
use Rattle.path.specs.declared.Direction.{Direction}
use Rattle.path.specs.declared.Direction.TheVariants.{Onward, Back}
use Rattle.path.specs.declared.Step.{Step}
use Rattle.path.specs.Path.{Move, at, end, refused, outer, seek, follow, neighbour, move}
use Rattle.path.specs.Lists.{Lists, stops, entries, from, up_to, reversed, until, opposite, Made, by_seek, by_outer, by_move}
use Rattle.path.proofs.Stands.{then_at, follow_same, follow_length, seek_stands, outer_stands, neighbour_stands, move_stands}
use Rattle.path.proofs.Frame.{Agree, outer_frame, seek_frame, follow_frame, move_frame}
use Rattle.path.proofs.Spots.{spot, items, since, front_not_refused, back_not_refused, chain_undoes, chain_not_refused}
use Rattle.path.proofs.Chained.{Chained, chained}
use Rattle.path.proofs.Listed.{Ascending, ascending_entries, from_lowest, from_since, ascending_since, chain_since, move_beside, chain_onward, chain_back, chain_until}
use Rattle.field.specs.declared.refusal.Refusal.{Refusal}

-- a path that a call came to stands where it says, whether or not a walk passes: the pages met were judged
module _ {P : Type 0} (N : ℕ) (view : ℕ → Bool → View P) (root : ℕ) where
  pub made_stands : (path : List Step) → Made N view root path → (e : Item P) × (follow N view 16 true root path ≡ at path e)
  made_stands path (by_seek key e h) = (e, seek_stands N view key 16 true root path e h)
  made_stands path (by_outer way e h) = (e, outer_stands N view way 16 true root path e h)
  made_stands path (by_move way before e h) = (e, move_stands N view way 16 true root before path e h)

  pub made_length : (path : List Step) → Made N view root path → (1 ≤ length path) × (length path ≤ 16)
  made_length path m = let x = made_stands path m in follow_length N view 16 true root path path x.0 x.1

-- where the walk passes
module _ {P : Type 0}
    (N : ℕ)
    (block : ℕ → List ℕ)
    (view : ℕ → Bool → View P)
    (checked : Checked view)
    (filled : (p : ℕ) (es : List (Item P)) → view p false ≡ leaf es → es ≡ [] → ⊥)
    (root n : ℕ)
    (vs : List ℕ)
    (passes : walk N block view 16 true root [] none [] ≡ pass n vs)
  where
    abbrev pub all : List (Item P)
    all = entries (listing N block view checked root n vs passes).all

    abbrev pub moved : Direction → List Step → Move P
    moved way path = move N view way 16 true root path

    how : (L : List (Slot P)) × Walked N block view 16 true root [] none [] L vs × (n ≡ length L)
    how = walked N block view 16 true root [] none [] n vs passes

    -- the slots of the walk are those of the listing
    same_slots : how.0 ≡ (listing N block view checked root n vs passes).all
    same_slots =
        let l = listing N block view checked root n vs passes in
        sorted_unique how.0 l.all (sorted N block view checked how.1) l.rising
        (λ s m. (l.exact s).1 (entered N block view s how.1 m))
        (λ s m. listed N block view s.page s.index s.entry how.1 ((l.exact s).0 m))

    tree : Chained N view 16 true root (listing N block view checked root n vs passes).all
    tree = rw same_slots at (chained N block view checked filled how.1)

    rising : Ascending (items tree.spots)
    rising = let l = listing N block view checked root n vs passes in rw tree.listed (ascending_entries l.all l.rising)

    -- from a key on, next lists every entry not below it, each once and in rising order, and stops
    pub seek_lists : (key : Key) → Lists (moved Onward) (seek N view key 16 true root) (from key all)
    seek_lists key =
        let e : items (since key tree.spots) ≡ from key all = from_since key tree.spots rising ∙ ap (from key) tree.listed in
        let c = chain_since (follow N view 16 true root) (λ way. neighbour N view way 16 true root) key end tree.spots end tree.chain in
        rw (tree.sought key, ← e) (chain_onward N view 16 true root c.0 (since key tree.spots) c.1)

    -- from the empty key, which is the lowest: all
    pub all_listed : Lists (moved Onward) (seek N view [] 16 true root) all
    all_listed = rw (from_lowest all) at (seek_lists [])

    -- from the last entry, previous lists all of them in falling order, and stops
    pub back_lists : Lists (moved Back) (outer N view Back 16 true root) (reversed all [])
    back_lists = rw (tree.last, ← tree.listed) (chain_back N view 16 true root end tree.spots end [] tree.chain stops)

    -- a range lists exactly the entries from `low` up to, not including, `high`
    pub range_lists : (low high : Key) → Lists (λ path. until high (moved Onward path)) (until high (seek N view low 16 true root)) (up_to high (from low all))
    range_lists low high =
        let e : items (since low tree.spots) ≡ from low all = from_since low tree.spots rising ∙ ap (from low) tree.listed in
        let c = chain_since (follow N view 16 true root) (λ way. neighbour N view way 16 true root) low end tree.spots end tree.chain in
        rw (tree.sought low, ← e)
        (chain_until N view 16 true root high c.0 (since low tree.spots) (ascending_since low tree.spots rising) c.1)

    -- previous undoes next, and next previous
    pub undoes : (way : Direction) (path path' : List Step) (e : Item P) → moved way path ≡ at path' e → (e' : Item P) × (moved (opposite way) path' ≡ at path e')
    unfolding move
    undoes way path path' e h =
        let x = then_at (follow N view 16 true root path) (neighbour N view way 16 true root path) path' e h in
        let s = follow_same N view 16 true root path x.0 x.1 x.2 in
        let stood : follow N view 16 true root path ≡ at path x.1 = rw s at x.2 in
        let stands = neighbour_stands N view way 16 true root path path x.1 path' e stood x.3 in
        let u =
        chain_undoes (follow N view 16 true root) (λ way. neighbour N view way 16 true root) end tree.spots (spot path x.1) way path' e
        (λ p y q. absurd cc)
        tree.chain
        (tree.only path x.1 stood)
        x.3
        in
        (x.1, move_beside N view 16 true root (opposite way) path' path' e stands ∙ u)

    -- nothing is refused
    pub seek_never_refused : (key : Key) (r : Refusal) (p e c : ℕ) → seek N view key 16 true root ≡ refused r p e c → ⊥
    seek_never_refused key r p e c h = front_not_refused (since key tree.spots) r p e c (sym (tree.sought key) ∙ h)

    pub outer_never_refused : (way : Direction) (r : Refusal) (p e c : ℕ) → outer N view way 16 true root ≡ refused r p e c → ⊥
    outer_never_refused Onward r p e c h = front_not_refused tree.spots r p e c (sym tree.first ∙ h)
    outer_never_refused Back r p e c h =
        back_not_refused end tree.spots r p e c (λ q. cc) (sym tree.last ∙ h)

    pub made_never_refused : (path : List Step) → Made N view root path → (way : Direction) (r : Refusal) (p e c : ℕ) → moved way path ≡ refused r p e c → ⊥
    made_never_refused path m way r p e c h =
        let x = made_stands N view root path m in
        chain_not_refused (follow N view 16 true root) (λ way. neighbour N view way 16 true root) end tree.spots (spot path x.0) way r p e c
        (λ q. cc)
        tree.chain
        (tree.only path x.0 x.1)
        (sym (move_beside N view 16 true root way path path x.0 x.1) ∙ h)

-- no page is looked at that is not reached from the root, whether or not a walk passes: another view that agrees on those has the same moves
module _ {P : Type 0}
    (N : ℕ)
    (view view' : ℕ → Bool → View P)
    (root : ℕ)
    (agrees : (q : ℕ) (s : Bool) → Reached view root true q → view' q s ≡ view q s)
  where
    agree : Agree N view view' root true
    agree l q s w = agrees q s (record { level = l; top = s; way = w })

    pub seek_framed : (key : Key) → seek N view' key 16 true root ≡ seek N view key 16 true root
    seek_framed key = seek_frame N view view' key 16 true root agree

    pub outer_framed : (way : Direction) → outer N view' way 16 true root ≡ outer N view way 16 true root
    outer_framed way = outer_frame N view view' way 16 true root agree

    pub follow_framed : (path : List Step) → follow N view' 16 true root path ≡ follow N view 16 true root path
    follow_framed path = follow_frame N view view' 16 true root path agree

    pub move_framed : (way : Direction) (path : List Step) → move N view' way 16 true root path ≡ move N view way 16 true root path
    move_framed way path = move_frame N view view' way 16 true root path agree

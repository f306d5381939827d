-- What a walk that passes says of a tree: no lookup is refused, each finds exactly what is there, no key is there twice, and the walk has counted all entries and all pages of the blocks. Passing or not, a lookup and a walk go by the pages reached alone.
-- Assumes what a page's own check has seen to, `Checked`.
use Prim.Native.Nat.{ℕ}
use native.Mathlib.Omega.{arith}
use mathlib.Core.Path.{◌≡◌, refl, sym, ap, ◌∙◌}
use mathlib.Core.List.{List, []}
use mathlib.Core.Bool.{Bool, true}
use mathlib.Core.Option.{none}
use mathlib.Core.Logic.{◌↔◌, ⊎_elim}
use lib.ListN.{length}
use Rattle.walk.specs.Tree.{Key, Item, View, memb, Distinct, pass, walk, Answer, refused, found, absent, lookup, Reached, Used, LeafEntry, Checked}
use Rattle.walk.specs.Listing.{Slot, Listing}
use Rattle.walk.proofs.Slots.{seek, Sought, hit, miss, sought, sorted_one}
use Rattle.walk.proofs.Walked.{Walked, walked}
use Rattle.walk.proofs.Search.{sorted, searched}
use Rattle.walk.proofs.Count.{no_longer, sorted_unique}
use Rattle.walk.proofs.Depth.{Landed, landed}
use Rattle.walk.proofs.Frame.{lookup_frame, walk_frame}
use Rattle.walk.proofs.Reach.{entered, listed, visited, only, distinct}
use Rattle.field.specs.declared.refusal.Refusal.{Refusal}

module _ {P : Type 0}
    (N : ℕ)
    (block : ℕ → List ℕ)
    (view : ℕ → Bool → View P)
    (checked : Checked view)
    (root n : ℕ)
    (vs : List ℕ)
    (passes : walk N block view 16 true root [] none [] ≡ pass n vs)
  where
    how : (L : List (Slot P)) × Walked N block view 16 true root [] none [] L vs × (n ≡ length L)
    how = walked N block view 16 true root [] none [] n vs passes

    pub listing : Listing view root n
    listing =
        let h = how in
        record {
          all = h.0;
          counted = h.2;
          rising = sorted N block view checked h.1;
          exact = λ s. (λ m. entered N block view s h.1 m, λ x. listed N block view s.page s.index s.entry h.1 x);
        }

    -- a lookup is a search of all entries from the front
    pub lookup_searches : (key : Key) → lookup N view 16 true root key ≡ seek listing.all key
    unfolding listing
    lookup_searches key = searched N block view checked key how.1

    answer : (key : Key) → Sought listing.all key (lookup N view 16 true root key)
    answer key = rw (lookup_searches key) (sought listing.all key)

    -- a lookup comes to a leaf that is reached, by level 16
    pub lands : (key : Key) → Landed N view key 16 true root
    lands key = landed N block view checked key how.1

    -- T1
    pub never_refused_lem : (key : Key) (r : Refusal) (p e c : ℕ) → lookup N view 16 true root key ≡ refused r p e c → ⊥
    never_refused_lem key r p e c = go (lookup N view 16 true root key) (answer key)
      where
        go : (a : Answer P) → Sought listing.all key a → a ≡ refused r p e c → ⊥
        go a (hit s m k) q = let z : ◌≡◌ {A = ℕ} 0 1 = cc in omega arith
        go a (miss f) q = let z : ◌≡◌ {A = ℕ} 0 1 = cc in omega arith

    -- T2
    pub found_iff_lem : (key : Key) (e : Item P) (p i : ℕ)
        → (lookup N view 16 true root key ≡ found e p i) ↔ (LeafEntry view root true p i e × (e.key ≡ key))
    found_iff_lem key e p i =
        (go (lookup N view 16 true root key) (answer key), λ x. back (lookup N view 16 true root key) (answer key) x.0 x.1)
      where
        go : (a : Answer P) → Sought listing.all key a → a ≡ found e p i → LeafEntry view root true p i e × (e.key ≡ key)
        go a (hit s m k) q =
            let x = (listing.exact s).0 m in
            let a : s.entry ≡ e = cc in
            let b : s.page ≡ p = cc in
            let c : s.index ≡ i = cc in
            (rw (a, b, c) at x, rw a at k)
        go a (miss f) q = absurd (let z : ◌≡◌ {A = ℕ} 0 1 = cc in omega arith)

        back : (a : Answer P) → Sought listing.all key a → LeafEntry view root true p i e → e.key ≡ key → a ≡ found e p i
        back a (hit s m k) x q =
            let u : Slot P = record { page = p; index = i; entry = e } in
            let o = sorted_one listing.all s u listing.rising m ((listing.exact u).1 x) (k ∙ sym q) in
            ap (λ (v : Slot P). found v.entry v.page v.index) o
        back a (miss f) x q =
            let u : Slot P = record { page = p; index = i; entry = e } in
            absurd (f u ((listing.exact u).1 x) q)

    pub absent_iff_lem : (key : Key)
        → (lookup N view 16 true root key ≡ absent) ↔ ((p i : ℕ) (e : Item P) → LeafEntry view root true p i e → e.key ≡ key → ⊥)
    absent_iff_lem key = (go (lookup N view 16 true root key) (answer key), back (lookup N view 16 true root key) (answer key))
      where
        go : (a : Answer P) → Sought listing.all key a → a ≡ absent → (p i : ℕ) (e : Item P) → LeafEntry view root true p i e → e.key ≡ key → ⊥
        go a (hit s m k) q p i e x h = let z : ◌≡◌ {A = ℕ} 0 1 = cc in omega arith
        go a (miss f) q p i e x h =
            let u : Slot P = record { page = p; index = i; entry = e } in
            f u ((listing.exact u).1 x) h

        back : (a : Answer P) → Sought listing.all key a → ((p i : ℕ) (e : Item P) → LeafEntry view root true p i e → e.key ≡ key → ⊥) → a ≡ absent
        back a (hit s m k) f = absurd (f s.page s.index s.entry ((listing.exact s).0 m) k)
        back a (miss g) f = refl

    -- T3
    pub one_place : (p i : ℕ) (e : Item P) (q j : ℕ) (f : Item P)
        → LeafEntry view root true p i e
        → LeafEntry view root true q j f
        → e.key ≡ f.key
        → (p ≡ q) × (i ≡ j) × (e ≡ f)
    one_place p i e q j f x y k =
        let u : Slot P = record { page = p; index = i; entry = e } in
        let v : Slot P = record { page = q; index = j; entry = f } in
        let o = sorted_one listing.all u v listing.rising ((listing.exact u).1 x) ((listing.exact v).1 y) k in
        (ap (λ (s : Slot P). s.page) o, ap (λ (s : Slot P). s.index) o, ap (λ (s : Slot P). s.entry) o)

    -- T4, with `listing` for the entries
    pub each_once : ((q : ℕ) → Distinct (block q)) → Distinct vs
    each_once blocks = distinct N block view blocks how.1 tt

    pub pages_exact : (k : ℕ) → (memb k vs ≡ true) ↔ Used view block root true k
    pages_exact k = (
      λ e. ⊎_elim (λ x. x) (λ h. absurd (let z : ◌≡◌ {A = ℕ} 0 1 = cc in omega arith)) (only N block view k how.1 e),
      λ x. visited N block view k how.1 x.reached.way x.within,
    )

    -- so n and the length of vs are the numbers of the entries and of the pages of the blocks reached: any sorted listing of just these entries has n, and any list of just these pages, each once, is as long as vs
    pub entries_counted : (m : ℕ) → Listing view root m → m ≡ n
    entries_counted m l =
        let e =
        sorted_unique l.all listing.all l.rising listing.rising
        (λ s x. (listing.exact s).1 ((l.exact s).0 x))
        (λ s x. (l.exact s).1 ((listing.exact s).0 x))
        in
        l.counted ∙ ap length e ∙ sym listing.counted

    pub pages_counted : ((q : ℕ) → Distinct (block q))
        → (ps : List ℕ)
        → Distinct ps
        → ((k : ℕ) → (memb k ps ≡ true) ↔ Used view block root true k)
        → length ps ≡ length vs
    pages_counted blocks ps d h =
        let a = no_longer ps vs d (λ k e. (pages_exact k).1 ((h k).0 e)) in
        let b = no_longer vs ps (each_once blocks) (λ k e. (h k).1 ((pages_exact k).0 e)) in
        omega arith

-- T5, by the pages reached, whether or not the walk passes: another view that agrees on these has the same answers, and where the blocks agree too the same verdict
module _ {P : Type 0}
    (N : ℕ)
    (view view' : ℕ → Bool → View P)
    (root : ℕ)
    (agrees : (q : ℕ) (s : Bool) → Reached view root true q → view' q s ≡ view q s)
  where
    pub lookup_framed : (key : Key) → lookup N view' 16 true root key ≡ lookup N view 16 true root key
    lookup_framed key = lookup_frame N view view' 16 true root key (λ l q s w. agrees q s (record { level = l; top = s; way = w }))

    pub walk_framed : (block block' : ℕ → List ℕ)
        → ((q : ℕ) → Reached view root true q → block' q ≡ block q)
        → walk N block' view' 16 true root [] none [] ≡ walk N block view 16 true root [] none []
    walk_framed block block' same =
        walk_frame N block block' view view' 16 true root [] none []
        (λ l q s w. let r : Reached view root true q = record { level = l; top = s; way = w } in (agrees q s r, same q r))

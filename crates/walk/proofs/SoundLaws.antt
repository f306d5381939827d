-- A walk passes exactly where the tree is sound.
-- Assumes nothing.
use Prim.Native.Nat.{ℕ, zero, suc, ◌+◌, ◌≤◌, ◌<◌}
use native.Mathlib.Omega.{arith}
use mathlib.Core.Path.{◌≡◌, refl, sym, ap, ◌∙◌}
use mathlib.Core.List.{List, [], ◌∷◌, ◌++◌}
use mathlib.Core.Bool.{Bool, true, false}
use mathlib.Core.Option.{Option, none}
use mathlib.Core.Logic.{⊎_elim, ◌↔◌}
use lib.Dec.{leb, ltb}
use lib.ListN.{length}
use borrow.Author.Tests.{leb-true, ltb-true, le-leb, lt-ltb}
use Rattle.walk.specs.Tree.{Every, Key, in_range, Item, View, bad, branch, leaf, keys, At, memb, inside, pass, first_out, next, walk_all, walk_page, walk, Below, here, down}
use Rattle.walk.proofs.KeyLaws.{and_left, and_right}
use Rattle.walk.specs.Listing.{Slot}
use Rattle.walk.proofs.Walked.{Walked, WalkedAll, at_leaf, at_branch, done, more, walked}
use Rattle.walk.proofs.Search.{all_in}
use Rattle.walk.proofs.Pages.{memb_left, memb_right, memb_neither, first-none, none_first}
use Rattle.walk.proofs.Reach.{at_leaf_lem, at_branch_lem, kept, visited, only}
use Rattle.walk.specs.Sound.{ChildAt, Way, stop, turn, Fits, Sound}

-- ---- children
child_is : (cs : List (Item ℕ)) (high : Option Key) (i : ℕ) (c : Item ℕ) (end : Option Key) → ChildAt cs high i c end → At cs i c
child_is [] high i c end x = x
child_is (y ∷ ys) high zero c end x = x.0
child_is (y ∷ ys) high (suc i) c end x = child_is ys high i c end x

child_end : (cs : List (Item ℕ)) (high : Option Key) (i : ℕ) (c : Item ℕ) → At cs i c → (end : Option Key) × ChildAt cs high i c end
child_end [] high i c a = absurd a
child_end (y ∷ ys) high zero c a = (next ys high, (a, refl))
child_end (y ∷ ys) high (suc i) c a = child_end ys high i c a

child_one : (cs : List (Item ℕ)) (high : Option Key) (i : ℕ) (c d : Item ℕ) (end end' : Option Key)
    → ChildAt cs high i c end
    → ChildAt cs high i d end'
    → (d ≡ c) × (end' ≡ end)
child_one [] high i c d end end' x y = absurd x
child_one (z ∷ zs) high zero c d end end' x y = (sym y.0 ∙ x.0, sym y.1 ∙ x.1)
child_one (z ∷ zs) high (suc i) c d end end' x y = child_one zs high i c d end end' x y

-- ---- tests
refute : (b : Bool) → (b ≡ true → ⊥) → b ≡ false
refute true f = absurd (f refl)
refute false f = refl

clash : {A : Type 0} (b : Bool) → b ≡ true → b ≡ false → A
clash b e f = absurd (let z : ◌≡◌ {A = ℕ} 0 1 = cc in omega arith)

module _ {P : Type 0} (view : ℕ → Bool → View P) where
  -- ---- ways
  pub way_below : {p : ℕ} {t : Bool} {low : Key} {high : Option Key} {is : List ℕ} {q : ℕ} {s : Bool} {lo : Key} {hi : Option Key}
      → Way view p t low high is q s lo hi
      → Below view p t (suc (length is)) q s
  way_below stop = here
  way_below (turn {high = high} {cs = cs} i c end f x w) = down i c f (child_is cs high i c end x) (way_below w)

  pub below_way : {p : ℕ} {t : Bool} {l q : ℕ} {s : Bool} (low : Key) (high : Option Key)
      → Below view p t l q s
      → (is : List ℕ) × (lo : Key) × (hi : Option Key) × Way view p t low high is q s lo hi
  below_way low high here = ([], low, high, stop)
  below_way low high (down {cs = cs} i c f a w) =
      let e = child_end cs high i c a in
      let r = below_way c.key e.0 w in
      (i ∷ r.0, r.1, r.2, turn i c e.0 f e.1 r.3)

  -- a way stops at once or takes a turn
  way_cases : {p : ℕ} {t : Bool} {low : Key} {high : Option Key} {is : List ℕ} {q : ℕ} {s : Bool} {lo : Key} {hi : Option Key} (Q : List ℕ → ℕ → Bool → Key → Option Key → Type 0)
      → Way view p t low high is q s lo hi
      → Q [] p t low high
      → ((cs : List (Item ℕ)) (i : ℕ) (c : Item ℕ) (end : Option Key) (js : List ℕ)
      → view p t ≡ branch cs
      → ChildAt cs high i c end
      → Way view c.value false c.key end js q s lo hi
      → Q (i ∷ js) q s lo hi)
      → Q is q s lo hi
  way_cases Q stop a b = a
  way_cases Q (turn {cs = cs} i c end {is = js} f x w) a b = b cs i c end js f x w

  -- the same turns lead to the same page
  pub way_one : {p : ℕ} {t : Bool} {low : Key} {high : Option Key} {is : List ℕ} {q r : ℕ} {s u : Bool} {lo lo' : Key} {hi hi' : Option Key}
      → Way view p t low high is q s lo hi
      → Way view p t low high is r u lo' hi'
      → q ≡ r
  way_one {p = p} stop v =
      way_cases (λ js r u lo hi. js ≡ [] → p ≡ r) v (λ e. refl) (λ cs i c end js f x w e. absurd (let z : ◌≡◌ {A = ℕ} 0 1 = cc in omega arith)) refl
  way_one {high = high} (turn {cs = cs} i c end {is = is} {q = q} f x w) v =
      way_cases (λ js r u lo hi. js ≡ i ∷ is → q ≡ r) v (λ e. absurd (let z : ◌≡◌ {A = ℕ} 0 1 = cc in omega arith))
      (λ ds j d end' js g y k e.
      let a : ds ≡ cs = cc in
      let b : j ≡ i = cc in
      let h : js ≡ is = cc in
      let o = child_one cs high i c d end end' x (rw (a, b) at y) in
      way_one w (rw (o.0, o.1, h) at k))
      refl

  way_leaf : {p : ℕ} {t : Bool} {low : Key} {high : Option Key} {is : List ℕ} {q : ℕ} {s : Bool} {lo : Key} {hi : Option Key} {es : List (Item P)} (Q : List ℕ → ℕ → Bool → Key → Option Key → Type 0)
      → view p t ≡ leaf es
      → Way view p t low high is q s lo hi
      → Q [] p t low high
      → Q is q s lo hi
  way_leaf {p} {t} {es = es} Q f w a = way_cases Q w a (λ cs i c end js g x v. absurd (let z : ◌≡◌ {A = ℕ} 0 1 = cc in omega arith))

  way_branch : {p : ℕ} {t : Bool} {low : Key} {high : Option Key} {is : List ℕ} {q : ℕ} {s : Bool} {lo : Key} {hi : Option Key} {cs : List (Item ℕ)} (Q : List ℕ → ℕ → Bool → Key → Option Key → Type 0)
      → view p t ≡ branch cs
      → Way view p t low high is q s lo hi
      → Q [] p t low high
      → ((i : ℕ) (c : Item ℕ) (end : Option Key) (js : List ℕ)
      → ChildAt cs high i c end
      → Way view c.value false c.key end js q s lo hi
      → Q (i ∷ js) q s lo hi)
      → Q is q s lo hi
  way_branch {p} {t} {cs = cs} Q f w a b = way_cases Q w a (λ ds i c end js g x v. let e : ds ≡ cs = cc in b i c end js (rw e at x) v)

module _ {P : Type 0} (N : ℕ) (block : ℕ → List ℕ) (view : ℕ → Bool → View P) where
  inside_from : (p : ℕ) → inside N p ≡ true → 2 ≤ p
  inside_from p e = leb-true 2 p (and_left (leb 2 p) (ltb p N) e)

  inside_below : (p : ℕ) → inside N p ≡ true → p < N
  inside_below p e = ltb-true p N (and_right (leb 2 p) (ltb p N) e)

  -- ---- each page of a tree whose walk passes fits
  mutual
    fits : {d : ℕ} {t : Bool} {p : ℕ} {low : Key} {high : Option Key} {vs : List ℕ} {L : List (Slot P)} {ws : List ℕ} {is : List ℕ} {q : ℕ} {s : Bool} {lo : Key} {hi : Option Key}
        → Walked N block view d t p low high vs L ws
        → Way view p t low high is q s lo hi
        → Fits view N d is q s lo hi
    fits (at_leaf {d = d} {t = t} {p = p} {low = low} {high = high} {es = es} i m f o q g) w =
        way_leaf view (λ is q s lo hi. Fits view N (suc d) is q s lo hi) f w
        (record {
          depth = omega arith;
          from2 = inside_from p i;
          below_n = inside_below p i;
          seen = λ r e c h. let z : ◌≡◌ {A = ℕ} 0 1 = cc in omega arith;
          ranged = rw f (all_in low high (keys es) 0 o);
        })
    fits (at_branch {d = d} {t = t} {p = p} {low = low} {high = high} {cs = cs} i m f o g) w =
        way_branch view (λ is q s lo hi. Fits view N (suc d) is q s lo hi) f w
        (record {
          depth = omega arith;
          from2 = inside_from p i;
          below_n = inside_below p i;
          seen = λ r e c h. let z : ◌≡◌ {A = ℕ} 0 1 = cc in omega arith;
          ranged = rw f (all_in low high (keys cs) 0 o);
        })
        (λ k c end js x v. let y = fits_all k c end g x v in
        record { depth = (let h = y.depth in omega arith); from2 = y.from2; below_n = y.below_n; seen = y.seen; ranged = y.ranged })

    fits_all : {d : ℕ} {cs : List (Item ℕ)} {high : Option Key} {vs : List ℕ} {L : List (Slot P)} {ws : List ℕ} {is : List ℕ} {q : ℕ} {s : Bool} {lo : Key} {hi : Option Key} (i : ℕ) (c : Item ℕ) (end : Option Key)
        → WalkedAll N block view d cs high vs L ws
        → ChildAt cs high i c end
        → Way view c.value false c.key end is q s lo hi
        → Fits view N d is q s lo hi
    fits_all i c end done x v = absurd x
    fits_all zero c end (more w ws g) x v = fits w (rw (← x.0, ← x.1) at v)
    fits_all (suc i) c end (more w ws g) x v = fits_all i c end ws x v

  -- ---- no page of a block that is reached was visited before
  mutual
    fresh : {d : ℕ} {t : Bool} {p : ℕ} {low : Key} {high : Option Key} {vs : List ℕ} {L : List (Slot P)} {ws : List ℕ} {l r : ℕ} {s : Bool} (k : ℕ)
        → Walked N block view d t p low high vs L ws
        → Below view p t l r s
        → memb k (block r) ≡ true
        → memb k vs ≡ false
    fresh k (at_leaf {p = p} {vs = vs} i m f o q g) b e = first-none (block p) vs m k (rw (at_leaf_lem view f b).0 at e)
    fresh k (at_branch {p = p} {vs = vs} i m f o g) b e =
        ⊎_elim
        (λ y. first-none (block p) vs m k (rw y.0 at e))
        (λ y. refute (memb k vs) (λ h. clash (memb k (block p ++ vs)) (memb_right k (block p) vs h) (fresh_all k y.0 y.1 g y.3 y.4 e)))
        (at_branch_lem view f b)

    fresh_all : {d : ℕ} {cs : List (Item ℕ)} {high : Option Key} {vs : List ℕ} {L : List (Slot P)} {ws : List ℕ} {l r : ℕ} {s : Bool} (k i : ℕ) (c : Item ℕ)
        → WalkedAll N block view d cs high vs L ws
        → At cs i c
        → Below view c.value false l r s
        → memb k (block r) ≡ true
        → memb k vs ≡ false
    fresh_all k i c done a b e = absurd a
    fresh_all k zero c (more w ws g) a b e = fresh k w (rw (← a) at b) e
    fresh_all k (suc i) c (more {vs = vs} {us = us} w ws g) a b e =
        refute (memb k vs) (λ h. clash (memb k us) (kept N block view k w h) (fresh_all k i c ws a b e))

  -- ---- and no two ways lead to blocks that share a page
  mutual
    once : {d : ℕ} {t : Bool} {p : ℕ} {low : Key} {high : Option Key} {vs : List ℕ} {L : List (Slot P)} {ws : List ℕ} {is : List ℕ} {q : ℕ} {s : Bool} {lo : Key} {hi : Option Key} {js : List ℕ} {r : ℕ} {u : Bool} {lo' : Key} {hi' : Option Key} (k : ℕ)
        → Walked N block view d t p low high vs L ws
        → Way view p t low high is q s lo hi
        → Way view p t low high js r u lo' hi'
        → memb k (block q) ≡ true
        → memb k (block r) ≡ true
        → is ≡ js
    once {js = js} k (at_leaf i m f o h g) w v a b =
        way_leaf view (λ is q s lo hi. is ≡ js) f w (way_leaf view (λ js r u lo hi. [] ≡ js) f v refl)
    once {p = p} {high = high} {js = js} k (at_branch {vs = vs} {cs = cs} i m f o g) w v a b =
        way_branch view (λ is q s lo hi. memb k (block q) ≡ true → is ≡ js) f w
        (λ a.
        way_branch view (λ js r u lo hi. memb k (block r) ≡ true → [] ≡ js) f v
        (λ b. refl)
        (λ j c end js x y b. clash (memb k (block p ++ vs)) (memb_left k (block p) vs a) (fresh_all k j c g (child_is cs high j c end x) (way_below view y) b))
        b)
        (λ j c end is x y a.
        way_branch view (λ js r u lo hi. memb k (block r) ≡ true → j ∷ is ≡ js) f v
        (λ b. clash (memb k (block p ++ vs)) (memb_left k (block p) vs b) (fresh_all k j c g (child_is cs high j c end x) (way_below view y) a))
        (λ j' c' end' js x' y' b. once_all k j c end j' c' end' g x y x' y' a b)
        b)
        a

    once_all : {d : ℕ} {cs : List (Item ℕ)} {high : Option Key} {vs : List ℕ} {L : List (Slot P)} {ws : List ℕ} {is : List ℕ} {q : ℕ} {s : Bool} {lo : Key} {hi : Option Key} {js : List ℕ} {r : ℕ} {u : Bool} {lo' : Key} {hi' : Option Key} (k i : ℕ) (c : Item ℕ) (end : Option Key) (j : ℕ) (c' : Item ℕ) (end' : Option Key)
        → WalkedAll N block view d cs high vs L ws
        → ChildAt cs high i c end
        → Way view c.value false c.key end is q s lo hi
        → ChildAt cs high j c' end'
        → Way view c'.value false c'.key end' js r u lo' hi'
        → memb k (block q) ≡ true
        → memb k (block r) ≡ true
        → i ∷ is ≡ j ∷ js
    once_all k i c end j c' end' done x w y v a b = absurd x
    once_all k zero c end zero c' end' (more h hs g) x w y v a b =
        ap (λ (l : List ℕ). 0 ∷ l) (once k h (rw (← x.0, ← x.1) at w) (rw (← y.0, ← y.1) at v) a b)
    once_all k zero c end (suc j) c' end' (more {cs = cs} {high = high} {us = us} h hs g) x w y v a b =
        clash (memb k us) (visited N block view k h (way_below view (rw (← x.0, ← x.1) at w)) a) (fresh_all k j c' hs (child_is cs high j c' end' y) (way_below view v) b)
    once_all k (suc i) c end zero c' end' (more {cs = cs} {high = high} {us = us} h hs g) x w y v a b =
        clash (memb k us) (visited N block view k h (way_below view (rw (← y.0, ← y.1) at v)) b) (fresh_all k i c hs (child_is cs high i c end x) (way_below view w) a)
    once_all k (suc i) c end (suc j) c' end' (more h hs g) x w y v a b = let e = once_all k i c end j c' end' hs x w y v a b in cc

  pub passed_sound : (d : ℕ) (t : Bool) (p : ℕ) (low : Key) (high : Option Key) (vs : List ℕ) (n : ℕ) (ws : List ℕ)
      → walk N block view d t p low high vs ≡ pass n ws
      → Sound view block N d p t low high
  passed_sound d t p low high vs n ws e =
      let h = walked N block view d t p low high vs n ws e in
      record { each = λ is q s lo hi w. fits h.1 w; once = λ k is q s lo hi js r u lo' hi' w v a b. once k h.1 w v a b }

  -- ---- a sound tree's walk passes
  -- none of these is a page of a block that is reached
  abbrev Avoids : ℕ → Bool → Key → Option Key → List ℕ → Type 0
  Avoids p t low high vs =
      (k : ℕ) (is : List ℕ) (q : ℕ) (s : Bool) (lo : Key) (hi : Option Key)
      → Way view p t low high is q s lo hi
      → memb k (block q) ≡ true
      → memb k vs ≡ false

  none_out : (low : Key) (high : Option Key) (ks : List Key) (i : ℕ) → Every (λ k. in_range low high k ≡ true) ks → first_out low high ks i ≡ none
  unfolding first_out
  none_out low high [] i h = refl
  none_out low high (k ∷ ks) i h = rw h.0 (none_out low high ks (suc i) h.1)

  abbrev Goes : ℕ → Bool → ℕ → Key → Option Key → List ℕ → Type 0
  Goes d t p low high vs = (n : ℕ) × (ws : List ℕ) × (walk N block view d t p low high vs ≡ pass n ws)

  goes_all : (d : ℕ)
      → ((p : ℕ) (low : Key) (high : Option Key) (vs : List ℕ) → Sound view block N d p false low high → Avoids p false low high vs → Goes d false p low high vs)
      → (cs : List (Item ℕ)) (high : Option Key) (m : ℕ) (vs : List ℕ)
      → ((i : ℕ) (c : Item ℕ) (end : Option Key) → ChildAt cs high i c end → Sound view block N d c.value false c.key end)
      → ((i : ℕ) (c : Item ℕ) (end : Option Key) → ChildAt cs high i c end → Avoids c.value false c.key end vs)
      → ((i : ℕ) (c : Item ℕ) (end : Option Key) (j : ℕ) (c' : Item ℕ) (end' : Option Key) (is js : List ℕ) (k q r : ℕ) (s u : Bool) (lo lo' : Key) (hi hi' : Option Key)
      → ChildAt cs high i c end
      → ChildAt cs high j c' end'
      → Way view c.value false c.key end is q s lo hi
      → Way view c'.value false c'.key end' js r u lo' hi'
      → memb k (block q) ≡ true
      → memb k (block r) ≡ true
      → i ≡ j)
      → (n : ℕ) × (ws : List ℕ) × (walk_all (walk N block view d false) cs high m vs ≡ pass n ws)
  unfolding walk_all
  goes_all d ih [] high m vs each avoids apart = (m, vs, refl)
  goes_all d ih (c ∷ cs) high m vs each avoids apart =
      let this = ih c.value c.key (next cs high) vs (each 0 c (next cs high) (refl, refl)) (avoids 0 c (next cs high) (refl, refl)) in
      go this.0 this.1 this.2
      (λ k us av.
      goes_all d ih cs high k us
      (λ i e end x. each (suc i) e end x)
      av
      (λ i e end j e' end' is js k q r s u lo lo' hi hi' x y w v a b.
      let z = apart (suc i) e end (suc j) e' end' is js k q r s u lo lo' hi hi' x y w v a b in
      omega arith))
    where
      -- what has been visited by now: what was, and the blocks that the first child reaches
      avoid : (us : List ℕ) (L : List (Slot P))
          → Walked N block view d false c.value c.key (next cs high) vs L us
          → (i : ℕ) (e : Item ℕ) (end : Option Key)
          → ChildAt cs high i e end
          → Avoids e.value false e.key end us
      avoid us L w i e end x k is q s lo hi v b =
          refute (memb k us)
          (λ f.
          ⊎_elim
          (λ u.
          let y = below_way view c.key (next cs high) u.reached.way in
          let z = apart 0 c (next cs high) (suc i) e end y.0 is k u.page q u.reached.top s y.1 lo y.2 hi (refl, refl) x y.3 v u.within b in
          omega arith)
          (λ g. clash (memb k vs) g (avoids (suc i) e end x k is q s lo hi v b))
          (only N block view k w f))

      go : (k : ℕ) (us : List ℕ)
          → walk N block view d false c.value c.key (next cs high) vs ≡ pass k us
          → ((l : ℕ) (us : List ℕ)
          → ((i : ℕ) (e : Item ℕ) (end : Option Key) → ChildAt cs high i e end → Avoids e.value false e.key end us)
          → (n : ℕ) × (ws : List ℕ) × (walk_all (walk N block view d false) cs high l us ≡ pass n ws))
          → (n : ℕ) × (ws : List ℕ) × (walk_all (walk N block view d false) (c ∷ cs) high m vs ≡ pass n ws)
      go k us f rest =
          let w = walked N block view d false c.value c.key (next cs high) vs k us f in
          let r = rest (m + k) us (avoid us w.0 w.1) in
          (r.0, r.1, rw f r.2)

  goes_page : (d : ℕ) (t : Bool) (p : ℕ) (low : Key) (high : Option Key) (vs : List ℕ)
      → ((p : ℕ) (low : Key) (high : Option Key) (vs : List ℕ) → Sound view block N d p false low high → Avoids p false low high vs → Goes d false p low high vs)
      → Sound view block N (suc d) p t low high
      → Avoids p t low high vs
      → (v : View P)
      → view p t ≡ v
      → (n : ℕ) × (ws : List ℕ) × (walk_page (walk N block view d false) v p low high (block p ++ vs) ≡ pass n ws)
  unfolding walk_page
  goes_page d t p low high vs ih sound avoids (bad r e c) f = absurd ((sound.each [] p t low high stop).seen r e c f)
  goes_page d t p low high vs ih sound avoids (leaf es) f =
      let o = none_out low high (keys es) 0 (rw f at (sound.each [] p t low high stop).ranged) in
      (length es, block p ++ vs, rw o)
  goes_page d t p low high vs ih sound avoids (branch cs) f =
      let o = none_out low high (keys cs) 0 (rw f at (sound.each [] p t low high stop).ranged) in
      let r =
      goes_all d ih cs high 0 (block p ++ vs)
      (λ i c end x.
      record {
        each = λ is q s lo hi w. let y = sound.each (i ∷ is) q s lo hi (turn i c end f x w) in
            record { depth = (let h = y.depth in omega arith); from2 = y.from2; below_n = y.below_n; seen = y.seen; ranged = y.ranged };
        once = λ k is q s lo hi js r u lo' hi' w v a b. let y = sound.once k (i ∷ is) q s lo hi (i ∷ js) r u lo' hi' (turn i c end f x w) (turn i c end f x v) a b in cc;
      })
      (λ i c end x k is q s lo hi w b.
      let v = turn {low = low} i c end f x w in
      memb_neither k (block p) vs
      (refute (memb k (block p))
      (λ a. let z = sound.once k [] p t low high (i ∷ is) q s lo hi stop v a b in let y : ◌≡◌ {A = ℕ} 0 1 = cc in omega arith))
      (avoids k (i ∷ is) q s lo hi v b))
      (λ i c end j c' end' is js k q r s u lo lo' hi hi' x y w v a b.
      let z = sound.once k (i ∷ is) q s lo hi (j ∷ js) r u lo' hi' (turn i c end f x w) (turn j c' end' f y v) a b in cc)
      in
      (r.0, r.1, rw o r.2)

  goes : (d : ℕ) (t : Bool) (p : ℕ) (low : Key) (high : Option Key) (vs : List ℕ)
      → Sound view block N d p t low high
      → Avoids p t low high vs
      → Goes d t p low high vs
  unfolding walk
  goes zero t p low high vs sound avoids = absurd (let h = (sound.each [] p t low high stop).depth in omega arith)
  goes (suc d) t p low high vs sound avoids =
      let h = sound.each [] p t low high stop in
      let a = le-leb 2 p h.from2 in
      let b = lt-ltb p N h.below_n in
      let m = none_first (block p) vs (λ k e. avoids k [] p t low high stop e) in
      let r = goes_page d t p low high vs (λ p low high vs s a. goes d false p low high vs s a) sound avoids (view p t) refl in
      (r.0, r.1, rw (a, b, m) r.2)

  -- T6
  pub passes_iff_sound : (root : ℕ)
      → ((n : ℕ) × (vs : List ℕ) × (walk N block view 16 true root [] none [] ≡ pass n vs)) ↔ Sound view block N 16 root true [] none
  passes_iff_sound root = (
    λ x. passed_sound 16 true root [] none [] x.0 x.1 x.2,
    λ s. goes 16 true root [] none [] s (λ k is q s lo hi w e. refl),
  )

-- In a tree whose walk passes a key leads to a leaf that is reached, within the walk's levels, and a lookup answers by that leaf's entries.
-- Assumes what a page's own check has seen to, `Checked`.
use Prim.Native.Nat.{ℕ, zero, suc, ◌≤◌}
use native.Mathlib.Omega.{arith}
use mathlib.Core.Path.{◌≡◌, sym, ap, ◌∙◌}
use mathlib.Core.List.{List}
use mathlib.Core.Bool.{Bool, false}
use mathlib.Core.Option.{Option}
use mathlib.Core.Logic.{⊎_elim}
use Rattle.walk.specs.Tree.{Key, Item, View, branch, leaf, At, lookup, look_page, child_for, seek_from, Below, here, down, Leads, ends, goes, Checked}
use Rattle.walk.specs.Listing.{Slot}
use Rattle.walk.proofs.Walked.{Walked, at_leaf, at_branch, WalkedAll, done, more}
use Rattle.walk.proofs.Search.{lookup_at}
use Rattle.walk.proofs.Frame.{child_at_lem}

-- the leaf that a lookup from page p comes to
pub record Landed {P : Type 0} (N : ℕ) (view : ℕ → Bool → View P) (key : Key) (d : ℕ) (t : Bool) (p : ℕ) : Type 0 where
  pub level : ℕ
  pub page : ℕ
  pub top : Bool
  pub entries : List (Item P)
  pub way : Below view p t level page top
  pub leads : Leads view key p t level page top
  pub is_leaf : view page top ≡ leaf entries
  pub within : level ≤ d
  pub answers : lookup N view d t p key ≡ seek_from entries key page 0

module _ {P : Type 0} (N : ℕ) (block : ℕ → List ℕ) (view : ℕ → Bool → View P) (checked : Checked view) (key : Key) where
  step : (d : ℕ) (t : Bool) (p : ℕ) (cs : List (Item ℕ)) (i : ℕ) (c : Item ℕ)
      → view p t ≡ branch cs
      → At cs i c
      → child_for cs key ≡ c.value
      → lookup N view (suc d) t p key ≡ lookup N view d false c.value key
      → Landed N view key d false c.value
      → Landed N view key (suc d) t p
  step d t p cs i c f a k e h =
      let w = h.within in
      record {
        level = suc h.level;
        page = h.page;
        top = h.top;
        entries = h.entries;
        way = down i c f a h.way;
        leads = goes {l = h.level} {q = h.page} {s = h.top} f (rw k h.leads);
        is_leaf = h.is_leaf;
        within = omega arith;
        answers = e ∙ h.answers;
      }

  mutual
    unfolding look_page

    pub landed : {d : ℕ} {t : Bool} {p : ℕ} {low : Key} {high : Option Key} {vs : List ℕ} {L : List (Slot P)} {ws : List ℕ}
        → Walked N block view d t p low high vs L ws
        → Landed N view key d t p
    landed (at_leaf {d = d} {t = t} {p = p} {es = es} i m f o q g) =
        record {
          level = 1;
          page = p;
          top = t;
          entries = es;
          way = here;
          leads = ends;
          is_leaf = f;
          within = omega arith;
          answers = lookup_at N view d t p key (leaf es) i f;
        }
    landed (at_branch {d = d} {t = t} {p = p} {cs = cs} i m f o w) =
        ⊎_elim
        (λ e. absurd ((checked.branches p t cs f).0 e))
        (λ x.
        step d t p cs x.0 x.1 f x.2 x.3
        (lookup_at N view d t p key (branch cs) i f ∙ ap (λ (q : ℕ). lookup N view d false q key) x.3)
        (landed_child x.0 x.1 w x.2))
        (child_at_lem cs key)

    landed_child : {d : ℕ} {cs : List (Item ℕ)} {high : Option Key} {vs : List ℕ} {L : List (Slot P)} {ws : List ℕ} (i : ℕ) (c : Item ℕ)
        → WalkedAll N block view d cs high vs L ws
        → At cs i c
        → Landed N view key d false c.value
    landed_child i c done a = absurd a
    landed_child {d = d} zero c (more w ws q) a = rw (ap (λ (x : Item ℕ). x.value) (sym a)) (landed w)
    landed_child (suc i) c (more w ws q) a = landed_child i c ws a

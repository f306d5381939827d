-- Theorem: on an image that the judge passes, the quick lookup is the full one (`quick_is_lookup`), and so meets demand 3 (`quick_demand3`).
-- The second comes from one law: a lookup that answers as another does wherever that one does not refuse meets demand 3 where the other meets it (`demand3_same`).
-- Assumes nothing.
use mathlib.Core.Path.{◌≡◌, sym, ◌∙◌}
use mathlib.Core.List.{List}
use Prim.Native.Nat.{ℕ}
use Rattle.std.specs.Prelude.{Err}
use Rattle.walk.specs.Tree.{Key}
use Rattle.view.specs.declared.Fault.{Fault}
use Rattle.lookup.specs.Descent.{Looked}
use Rattle.lookup.specs.Lookup.{lookup_of}
use Rattle.quick.specs.Quick.{quick_of}
use Rattle.quick.proofs.Agrees.{quick_agrees}
use Rattle.judge.specs.Judge.{Passes}
use Rattle.tree.specs.Outside.{SameWithin}
use Rattle.tree.specs.Demand3.{Demand3, Demand3In}
use Rattle.tree.proofs.Demand3.{demand3}

module _ {Lent : Type 0} (look look' : Lent → Key → Looked) (image_of : Lent → List ℕ) (Same : Lent → Lent → Type 0) (P N root : ℕ) (lent : Lent)
    (agrees : (l : Lent) (key : Key) → ((x : Fault) → look l key ≡ Err x → ⊥) → look' l key ≡ look l key)
    (d : Demand3 look image_of Same P N root lent)
  where
    -- no key is refused by the one, so the other answers all keys the same
    same : (key : Key) → look' lent key ≡ look lent key
    same key = agrees lent key (d.never_refused key)

    -- the other meets demand 3 as well
    pub demand3_same : Demand3 look' image_of Same P N root lent
    demand3_same =
        record {
          never_refused = λ key x e. d.never_refused key x (sym (same key) ∙ e);
          reaches_a_leaf = λ key. rw (same key) (d.reaches_a_leaf key);
          found_iff = λ key v. rw (same key) (d.found_iff key v);
          value_shown = λ key page i h. rw (same key) (d.value_shown key page i h);
          absent_iff = λ key. rw (same key) (d.absent_iff key);
          one_entry = d.one_entry;
          outside_free = λ lent' s key.
              let o = d.outside_free lent' s key in
              let e : look' lent' key ≡ look lent' key = agrees lent' key (λ x h. d.never_refused key x (sym o.0 ∙ h)) in
              rw (e, same key) o;
        }

module _ (image : List ℕ) (P N root f : ℕ) (passes : Passes image P N root f) where
  -- every key has the answer of the full lookup
  pub quick_is_lookup : (key : Key) → quick_of image P N root key ≡ lookup_of image P N root key
  quick_is_lookup key = quick_agrees image P N root key ((demand3 image P N root f passes).never_refused key)

  -- and the quick lookup meets demand 3
  pub quick_demand3 : Demand3In (λ s. quick_of s P N root) image P N root
  quick_demand3 =
      demand3_same (λ s. lookup_of s P N root) (λ s. quick_of s P N root) (λ s. s) (λ s s'. SameWithin s s' P N root) P N root image
      (λ s. quick_agrees s P N root) (demand3 image P N root f passes)

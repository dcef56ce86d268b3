-- Each change, from what rolling back gives before it to what it gives after it.
use Rattle.std.proofs.Common.{◌≡◌, ℕ, Bool, true, false, cond, not, List, [], ◌∷◌, refl, ap, subst, inl, inr}
use Rattle.std.specs.Prelude.{◌⊎◌, ◌≤◌, Some}
use Rattle.std.proofs.lemmas.Bool.{cases_Bool}
use Rattle.xf_def_forest.specs.declared.content.Content.{Content}
use Rattle.xf_def_forest.specs.declared.content.Kind.{Kind}
use Rattle.xf_def_forest.specs.declared.content.Kind.TheVariants as kind
use Rattle.xf_def_forest.specs.Visit.{has, numbers}
use Rattle.xf_def_forest.specs.Forest.{is_root, is_element, is_attribute, kind_at, tree_of}
use Rattle.xf_def_forest.specs.Changes.{placed, detached, standing}
use Rattle.xf_def_forest.specs.Texts.{Keeping, element_texts, attribute_text, texts_in, value_in, is_attribute_at, before_of, given_up, put_back}
use Rattle.xf_def_forest.specs.Needs.{IsSettable, MayAttach, MayDetach, goes_below}
use Rattle.xf_def_forest.specs.WellFormed.{AreTrees}
use Rattle.xf_def_forest.specs.Undo.{of_text, Ledger, with_note, with_set, is_known, text_filled}
use Rattle.xf_def_forest.specs.Undo as undo
use Rattle.xf_law_forests.specs.Rollback.Made.{with_new_text}
use Rattle.xf_law_forests.proofs.RollbackLemmas.Trees.{Trees, onto, times}
use Rattle.xf_law_forests.proofs.RollbackLemmas.TreeShape.{Sound}
use Rattle.xf_law_forests.proofs.RollbackLemmas.TreeMoved.{element-no_attribute}
use Rattle.xf_law_forests.proofs.RollbackLemmas.TreeFacts.{is_at}
use Rattle.xf_law_forests.proofs.RollbackLemmas.KeepingTrees.{Stands, kind-any, attribute-test}
use Rattle.xf_law_forests.proofs.RollbackLemmas.TreeTops.{RootsFirst}
use Rattle.xf_law_forests.proofs.RollbackLemmas.Alike.{Alike, Back}
use Rattle.xf_law_forests.proofs.RollbackLemmas.TextSteps.{element-known, element-may, element-alike}
use Rattle.xf_law_forests.proofs.RollbackLemmas.ValueSteps.{attribute-known, attribute-may, attribute-alike}
use Rattle.xf_law_forests.proofs.RollbackLemmas.JoinSteps.{Moves, element-moves, attribute-moves, joins, joined-below, joined-kind, joined-alike}
use Rattle.xf_law_forests.proofs.RollbackLemmas.BearLemmas.{Bears, element-bears, root-bears}
use Rattle.xf_law_forests.proofs.RollbackLemmas.TreeRanks.{is_child}
use Rattle.xf_law_forests.proofs.RollbackLemmas.CutFacts.{Passes, as_child, as_attribute}
use Rattle.xf_law_forests.proofs.RollbackLemmas.CutSteps.{child-parent, attribute-parent, is-plain, cut-may, cut-alike}
use Rattle.xf_law_forests.proofs.RollbackLemmas.KnownLemmas.{without_number, cut_known, has-not, has-less}

-- ---- a text

-- what is to be shown of a ledger and a forest
abbrev pub Goal : Keeping → List ℕ → Ledger × Keeping → Type 0
Goal start ns p = (t : Trees) → p.1.forest.nodes ≡ onto 0 t [] → Sound false t → ((n : ℕ) → times n t ≤ 1) → (k2 : Keeping) → Alike ns t p.1 k2 → Back start p.0 k2

module _ (start : Keeping) (l : Ledger) (k : Keeping) (number more n : ℕ) (text : List ℕ) (sound : AreTrees k) (able : IsSettable n k.forest) (ns : List ℕ)
    (found : is_known n (with_new_text number more n text k) l.entries ≡ true → has n ns ≡ true) (s : Stands k) (back : (k2 : Keeping) → Alike ns s.trees k k2 → Back start l k2) where
  abbrev after : Keeping
  after = with_new_text number more n text k

  element-case : is_attribute_at n k.forest.nodes ≡ false → Goal start (n ∷ ns) (with_set n (element_texts (numbers (texts_in (tree_of n k.forest.nodes)))) l.entries l.next after)
  element-case other = by (is_known n after l.entries) found
    where
      by : (known : Bool) → (known ≡ true → has n ns ≡ true)
          → Goal start (n ∷ ns) (cond known (record { entries = l.entries; next = l.next }, given_up (element_texts (numbers (texts_in (tree_of n k.forest.nodes)))) after)
          (record { entries = undo.set n (element_texts (numbers (texts_in (tree_of n k.forest.nodes)))) ∷ l.entries; next = l.next }, after))
      by true h t nodes whole once k2 a = back k2 (element-known number more n text k sound able s other t nodes whole (once n) ns (h refl) k2 a)
      by false h t nodes whole once k2 a =
          let r = back (put_back n (element_texts (numbers (texts_in (tree_of n k.forest.nodes)))) k2) (element-alike number more n text k sound able s other t nodes whole (once n) ns k2 a) in
          record { changes = (element-may number more n text k sound able s other t nodes whole (once n) ns k2 a, r.changes); rest = r.rest; same = r.same }

  attribute-case : is_attribute_at n k.forest.nodes ≡ true → Goal start (n ∷ ns) (with_set n (attribute_text (value_in (tree_of n k.forest.nodes))) l.entries l.next after)
  attribute-case is = by (is_known n after l.entries) found
    where
      by : (known : Bool) → (known ≡ true → has n ns ≡ true)
          → Goal start (n ∷ ns) (cond known (record { entries = l.entries; next = l.next }, given_up (attribute_text (value_in (tree_of n k.forest.nodes))) after)
          (record { entries = undo.set n (attribute_text (value_in (tree_of n k.forest.nodes))) ∷ l.entries; next = l.next }, after))
      by true h t nodes whole once k2 a = back k2 (attribute-known number more n text k sound able s is t nodes whole (once n) ns k2 a (h refl))
      by false h t nodes whole once k2 a =
          let r = back (put_back n (attribute_text (value_in (tree_of n k.forest.nodes))) k2) (attribute-alike number more n text k sound able s is t nodes whole (once n) ns k2 a) in
          record { changes = (attribute-may number more n text k sound able s is t nodes whole (once n) ns k2 a, r.changes); rest = r.rest; same = r.same }

  set-case : Goal start (n ∷ ns) (with_set n (before_of n k.forest.nodes) l.entries l.next after)
  set-case =
      elim (cases_Bool (is_attribute_at n k.forest.nodes)) [
        | inl e ↦ subst (λ b. Goal start (n ∷ ns) (with_set n b l.entries l.next after)) (had_text e) (attribute-case e)
        | inr e ↦ subst (λ b. Goal start (n ∷ ns) (with_set n b l.entries l.next after)) (had_texts e) (element-case e)
      ]
    where
      had_text : is_attribute_at n k.forest.nodes ≡ true → attribute_text (value_in (tree_of n k.forest.nodes)) ≡ before_of n k.forest.nodes
      had_text e = rw e refl

      had_texts : is_attribute_at n k.forest.nodes ≡ false → element_texts (numbers (texts_in (tree_of n k.forest.nodes))) ≡ before_of n k.forest.nodes
      had_texts e = rw e refl

  pub text-case : Goal start (n ∷ ns) (text_filled (before_of n k.forest.nodes) (with_note (of_text n) l) after)
  text-case = set-case

-- ---- a tree that was attached

-- it stands at this place, which an attribute has by its name
pub join-case : (start : Keeping) (l : Ledger) (k : Keeping) (n parent given place : ℕ) → MayAttach n parent given k.forest → (ns : List ℕ) (s : Stands k) → RootsFirst s.trees
    → ((k2 : Keeping) → Alike ns s.trees k k2 → Back start l k2)
    → (t : Trees) → (placed n parent place k.forest).nodes ≡ onto 0 t [] → Sound false t → times n t ≤ 1 → (k2 : Keeping) → Alike ns t (record k { forest = placed n parent place k.forest }) k2
    → Back start (record l { entries = undo.joined n ∷ l.entries }) k2
join-case start l k n parent given place may ns s rooted back t nodes whole once k2 a =
    let j = joins n parent given k.forest may.stands in
    let r = back (record k2 { forest = detached n k2.forest }) (joined-alike n parent given place k may s j rooted t nodes whole once ns k2 a) in
    record {
      changes = (
        record {
          below = joined-below n parent given place k may s j rooted t nodes whole once ns k2 a;
          kind = j.either k2.forest.nodes (joined-kind n parent given place k may s j rooted t nodes whole once ns k2 a);
        },
        r.changes,
      );
      rest = r.rest;
      same = r.same;
    }

-- ---- a tree that was cut off

-- after an attribute the same texts count as before, and after an element those of its parent do too
pub cut-case : (start : Keeping) (l : Ledger) (k : Keeping) (n parent place : ℕ) → AreTrees k → MayDetach n k.forest → standing n k.forest.nodes ≡ Some (parent, place) → (ms : List ℕ)
    → (s : Stands k) → ((k2 : Keeping) → Alike ms s.trees k k2 → Back start l k2)
    → (t : Trees) → (detached n k.forest).nodes ≡ onto 0 t [] → Sound false t → times n t ≤ 1
    → (k2 : Keeping) → Alike (cut_known (is_attribute_at n k.forest.nodes) parent ms) t (record k { forest = detached n k.forest }) k2
    → Back start (record l { entries = undo.cut n parent place ∷ l.entries }) k2
cut-case start l k n parent place sound may stood ms s back t nodes whole once k2 = by may.kind
  where
    step : (kn : Kind) (qn : Content → Bool) (moves : Moves kn qn) → kind_at n k.forest.nodes ≡ Some kn → (ns : List ℕ) → Passes ns parent qn → ((m : ℕ) → has m ns ≡ true → has m ms ≡ true)
        → (kp : Kind) (q : Content → Bool) → Bears kp q → is_at q parent s.trees ≡ true → goes_below (Some kn) (Some kp) ≡ true
        → Alike ns t (record k { forest = detached n k.forest }) k2 → Back start (record l { entries = undo.cut n parent place ∷ l.entries }) k2
    step kn qn moves is ns passes more kp q bears above goes a =
        let r = back (record k2 { forest = placed n parent place k2.forest }) (cut-alike n parent place k sound kn qn moves is stood s ns passes kp q bears above goes t nodes whole once k2 a ms more) in
        record {
          changes = (cut-may n parent place k sound kn qn moves is stood s ns passes kp q bears above goes t nodes whole once k2 a, r.changes);
          rest = r.rest;
          same = r.same;
        }

    plain : (c : Content) → is_element c ≡ true → is_child c ≡ true
    plain c e = ap not (element-no_attribute c e)

    as_element : kind_at n k.forest.nodes ≡ Some kind.Element → Alike (without_number parent ms) t (record k { forest = detached n k.forest }) k2 → Back start (record l { entries = undo.cut n parent place ∷ l.entries }) k2
    as_element is a =
        let move = step kind.Element is_element element-moves is (without_number parent ms) (as_child (has-not parent ms) plain) (λ m h. has-less m parent ms h) in
        end move (child-parent n parent place k sound kind.Element is_element element-moves is stood s plain)
      where
        end : ((kp : Kind) (q : Content → Bool) → Bears kp q → is_at q parent s.trees ≡ true → goes_below (Some kind.Element) (Some kp) ≡ true
            → Alike (without_number parent ms) t (record k { forest = detached n k.forest }) k2 → Back start (record l { entries = undo.cut n parent place ∷ l.entries }) k2)
            → (is_at is_element parent s.trees ≡ true) ⊎ (is_at is_root parent s.trees ≡ true) → Back start (record l { entries = undo.cut n parent place ∷ l.entries }) k2
        end move (inl above) = move kind.Element is_element element-bears above refl a
        end move (inr above) = move kind.Root is_root root-bears above refl a

    by : (kind_at n k.forest.nodes ≡ Some kind.Element) ⊎ (kind_at n k.forest.nodes ≡ Some kind.Attribute)
        → Alike (cut_known (is_attribute_at n k.forest.nodes) parent ms) t (record k { forest = detached n k.forest }) k2 → Back start (record l { entries = undo.cut n parent place ∷ l.entries }) k2
    by (inl is) a = as_element is (subst (λ b. Alike (cut_known b parent ms) t (record k { forest = detached n k.forest }) k2) (is-plain n parent place k sound kind.Element is_element element-moves is stood s plain) a)
    by (inr is) a =
        step kind.Attribute is_attribute attribute-moves is ms (as_attribute (λ c e. e)) (λ m h. h) kind.Element is_element element-bears
        (attribute-parent n parent place k sound kind.Attribute is_attribute attribute-moves is stood s (λ c e. e)) refl
        (subst (λ b. Alike (cut_known b parent ms) t (record k { forest = detached n k.forest }) k2) (kind-any kind.Attribute is_attribute attribute-test n k.forest.nodes is) a)

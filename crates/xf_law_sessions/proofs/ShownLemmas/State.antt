-- What surrounds the expressions of a state, and the properties of its nodes, are told by its instances; so is the list of its controls.
use Rattle.std.proofs.Common.{◌≡◌, ℕ, zero, suc, ◌==◌, Bool, true, false, not, cond, ◌&&◌, List, [], ◌∷◌, ◌++◌, map, get_or, slice_get, find, nat_lt, bytes_eq, Option, Some, None, option_map, Ok, refl, sym, ap, ◌∙◌, subst}
use Rattle.std.specs.List.{list_any, list_all, flat_map}
use Rattle.xf_def_syntax.specs.declared.form.Instance.{Instance}
use Rattle.xf_def_syntax.specs.Ordered.{numbered_from}
use Rattle.xf_def_forest.specs.declared.content.Node.{Node}
use Rattle.xf_def_forest.specs.Changes.{in_instances, root_of}
use Rattle.xf_def_forest.specs.Forest.{is_root, is_attribute}
use Rattle.xf_def_forest.specs.Visit.{Visit, has, is_first, first_of, children_of, ancestors_of, numbers}
use Rattle.xf_def_forest.specs.WellFormed.{HasTrees}
use Rattle.xf_law_forests.specs.Root.Roots.{AreAhead}
use Rattle.xf_law_forests.proofs.RootLemmas.Stays.{root_at_place, roots_stay_dropped}
use Rattle.xf_def_xpath.specs.Binding.{as_list}
use Rattle.xf_def_xpath.specs.Given.{Document, document_of, first_document}
use Rattle.xf_def_xpath.proofs.VisitFacts.{none-some, some-same, or-left, or-right, self-same}
use Rattle.xf_def_xpath.proofs.ForestVisits.{Each}
use Rattle.xf_law_recalculation.proofs.MarksLemmas.Standing.{numbers-visits}
use Rattle.xf_def_model.specs.declared.property.Property.TheVariants.{Relevant}
use Rattle.xf_def_model.specs.Nested.{nested, begun}
use Rattle.xf_def_model.specs.Properties.{own, own_readonly, is_required}
use Rattle.xf_def_model.specs.Rules.{scope_of_bind, chains}
use Rattle.xf_def_ui.specs.declared.marks.Marks.{Marks}
use Rattle.xf_def_ui.specs.Around.{Around}
use Rattle.xf_def_ui.specs.Copies.{Copy, copies, copy_count}
use Rattle.xf_def_machine.specs.declared.limit.LimitWord.{LimitWord}
use Rattle.xf_def_machine.specs.declared.limit.LimitWord.TheVariants.{Controls}
use Rattle.xf_def_machine.specs.Flow.{◌>>=◌}
use Rattle.xf_def_machine.specs.Profile.{Profile}
use Rattle.xf_def_machine.specs.Properties.{values_in, valid_in, marks_in}
use Rattle.xf_def_machine.specs.Refusal.{or_long, unless_passed, if_over}
use Rattle.xf_def_machine.specs.State.{State}
use Rattle.xf_def_machine.specs.Surround.{all_in, interface, instances_in, document_under, document_at, document_in, documents, given, bind_scope, quiet}
use Rattle.xf_def_machine.specs.Update.{within_controls}
use Rattle.xf_law_sessions.specs.Same.Controls.{HasForm}
use Rattle.xf_law_recalculation.specs.Within.Within.{Whole, kept}
use Rattle.xf_law_recalculation.proofs.WithinLemmas.Told.{Agree}
use Rattle.xf_law_recalculation.proofs.WithinLemmas.Within.{In, filter-kept, in-filter, above-same}
use Rattle.xf_law_recalculation.proofs.PartLemmas.Binds.{HasPlaces, reached-ok}
use Rattle.xf_law_sessions.specs.Shown.Shown.{dropped, ShownOfInstances}
use Rattle.xf_law_sessions.proofs.ShownLemmas.AroundPart.{IsSeen, over, OneIn, first-in, children-each}
use Rattle.xf_law_sessions.proofs.ShownLemmas.CopiesPart.{copies-same}
use Rattle.xf_law_sessions.proofs.ShownLemmas.ElementsPart.{elements-keep, chain-known}
use Rattle.xf_law_sessions.proofs.ShownLemmas.Front.{is_in, all-whole, front-kept}

-- a root has one of the numbers
root-has : (place : ℕ) (nodes : List Node) (r : ℕ) → root_of place nodes ≡ Some r → has r (numbers nodes) ≡ true
root-has place [] r e = none-some e
root-has zero (x ∷ xs) r e = by (is_root x.content) e (root-has zero xs r)
  where
    by : (b : Bool) → cond b (Some x.number) (root_of zero xs) ≡ Some r → (root_of zero xs ≡ Some r → has r (numbers xs) ≡ true) → has r (numbers (x ∷ xs)) ≡ true
    by true i f = or-left (r == x.number) (has r (numbers xs)) (ap (λ n. r == n) (some-same i) ∙ self-same r)
    by false i f = or-right (r == x.number) (has r (numbers xs)) (f i)
root-has (suc place) (x ∷ xs) r e = by (is_root x.content) e (root-has place xs r) (root-has (suc place) xs r)
  where
    by : (b : Bool) → cond b (root_of place xs) (root_of (suc place) xs) ≡ Some r → (root_of place xs ≡ Some r → has r (numbers xs) ≡ true) → (root_of (suc place) xs ≡ Some r → has r (numbers xs) ≡ true) → has r (numbers (x ∷ xs)) ≡ true
    by true i f g = or-right (r == x.number) (has r (numbers xs)) (f i)
    by false i f g = or-right (r == x.number) (has r (numbers xs)) (g i)

-- what is found in a list of document elements that are in the part is in it
named-in : (q : ℕ → Bool) (test : Document → Bool) (ds : List Document) (n : ℕ) → Each (λ (x : Document). q x.element ≡ true) ds → option_map (λ (x : Document). x.element) (find test ds) ≡ Some n → q n ≡ true
named-in q test [] n e i = none-some i
named-in q test (x ∷ xs) n e i = by (test x) i (named-in q test xs n e.1)
  where
    by : (b : Bool) → option_map (λ (y : Document). y.element) (cond b (Some x) (find test xs)) ≡ Some n → (option_map (λ (y : Document). y.element) (find test xs) ≡ Some n → q n ≡ true) → q n ≡ true
    by true j f = ap q (sym (some-same j)) ∙ e.0
    by false j f = f j

documents-append : (q : ℕ → Bool) (xs ys : List Document) → Each (λ (x : Document). q x.element ≡ true) xs → Each (λ (x : Document). q x.element ≡ true) ys → Each (λ (x : Document). q x.element ≡ true) (xs ++ ys)
documents-append q [] ys i j = j
documents-append q (x ∷ xs) ys i j = (i.0, documents-append q xs ys i.1 j)

module _ (s : State) (trees : HasTrees s.forest) (ahead : AreAhead s.forest.nodes) where
  abbrev d : State
  d = dropped s

  -- whether a node stands in an instance
  abbrev pub q : ℕ → Bool
  q = is_in s.forest trees

  pub whole : Each (Whole q) (all_in s)
  whole = all-whole s.forest trees

  pub kept-is : kept q (all_in s) ≡ all_in d
  kept-is = front-kept s.forest trees

  -- ---- document elements

  root-same : (place : ℕ) → root_of place (in_instances s.forest.nodes) ≡ root_of place s.forest.nodes
  root-same place =
      root_at_place place (in_instances s.forest.nodes) ∙ ap (λ rs. slice_get rs place) (roots_stay_dropped s.forest.nodes ahead).same ∙ sym (root_at_place place s.forest.nodes)

  root-in : (place r : ℕ) → root_of place s.forest.nodes ≡ Some r → q r ≡ true
  root-in place r e = ap (has r) (numbers-visits [] (in_instances s.forest.nodes)) ∙ root-has place (in_instances s.forest.nodes) r (root-same place ∙ e)

  abbrev IsChild : ℕ → Visit → Bool
  IsChild r x = is_first r x.above && not (is_attribute x.content)

  under-same : (o : Option ℕ) → ((r : ℕ) → o ≡ Some r → q r ≡ true) → (document_under d o ≡ document_under s o) × OneIn q (document_under s o)
  under-same None h = (refl, tt)
  under-same (Some r) h =
      let inner = children-each q (all_in s) whole r (h r refl) in (
        ap (λ all. first_of (children_of r all)) (sym kept-is) ∙ ap (λ xs. first_of (map (λ (x : Visit). x.number) xs)) (filter-kept q (IsChild r) (all_in s) inner),
        first-in q (children_of r (all_in s)) (in-filter q (IsChild r) (all_in s) inner),
      )

  at-same : (place : ℕ) → (document_at d place ≡ document_at s place) × OneIn q (document_at s place)
  at-same place =
      let u = under-same (root_of place s.forest.nodes) (root-in place) in (ap (document_under d) (root-same place) ∙ u.0, u.1)

  abbrev DocumentsIn : List Document → Type 0
  DocumentsIn ds = Each (λ (x : Document). q x.element ≡ true) ds

  one-in : (i : Instance) (o : Option ℕ) → OneIn q o → DocumentsIn (document_in i o)
  one-in i None h = tt
  one-in i (Some n) h = (h, tt)

  all-same : (is : List (ℕ × Instance)) → (flat_map (λ i. document_in i.1 (document_at d i.0)) is ≡ flat_map (λ i. document_in i.1 (document_at s i.0)) is)
      × DocumentsIn (flat_map (λ i. document_in i.1 (document_at s i.0)) is)
  all-same [] = (refl, tt)
  all-same (i ∷ is) =
      let rest = all-same is in
      let one = at-same i.0 in (
        ap (λ o. document_in i.1 o ++ flat_map (λ (j : ℕ × Instance). document_in j.1 (document_at d j.0)) is) one.0 ∙ ap (λ l. document_in i.1 (document_at s i.0) ++ l) rest.0,
        documents-append q (document_in i.1 (document_at s i.0)) (flat_map (λ (j : ℕ × Instance). document_in j.1 (document_at s j.0)) is) (one-in i.1 (document_at s i.0) one.1) rest.1,
      )

  pub documents-same : documents d ≡ documents s
  documents-same = (all-same (numbered_from 0 (instances_in s))).0

  inside : (model : ℕ) (id : List ℕ) (n : ℕ) → document_of model id (documents s) ≡ Some n → q n ≡ true
  inside model [] n e = named-in q (λ x. x.model == model) (documents s) n (all-same (numbered_from 0 (instances_in s))).1 e
  inside model (c ∷ cs) n e = named-in q (λ x. (x.model == model) && bytes_eq x.id (c ∷ cs)) (documents s) n (all-same (numbered_from 0 (instances_in s))).1 e

  -- ---- the properties of nodes

  above-is : (n : ℕ) → q n ≡ true → ancestors_of n (all_in d) ≡ ancestors_of n (all_in s)
  above-is n i = ap (ancestors_of n) (sym kept-is) ∙ above-same q (all_in s) whole n i

  pub marks-same : (n : ℕ) → q n ≡ true → marks_in d n ≡ marks_in s n
  marks-same n i =
      ap {A = List ℕ} {B = Marks}
      (λ l. record {
        relevant = list_all (own (values_in s) Relevant true) (n ∷ l);
        readonly = list_any (own_readonly (values_in s)) (n ∷ l);
        required = is_required (values_in s) n;
        valid = valid_in s n;
      })
      (above-is n i)

  -- ---- what surrounds expressions

  module _ (p : Profile) (h : HasForm s.form) where
    abbrev most : Option ℕ
    most = Some p.bounds.string

    -- what binds select over the instances
    abbrev pub small : ℕ → Option (List ℕ)
    small k = nested most (bind_scope p d 0) (all_in d) k

    begun-in : (model : ℕ) → In q (as_list (first_document model (documents s)))
    begun-in model = by (first_document model (documents s)) refl
      where
        by : (o : Option ℕ) → first_document model (documents s) ≡ o → In q (as_list o)
        by None e = tt
        by (Some n) e = (inside model [] n e, tt)

    bound-agrees : (k : ℕ) → Agree (In q) (small k) (nested most (bind_scope p s 0) (all_in s) k)
    bound-agrees k =
        let scope = scope_of_bind (bind_scope p s 0) k in
        let places : HasPlaces q scope (documents s) = record { same = λ id. refl; inside = inside scope.model; quiet = refl } in
        let a = reached-ok q scope (documents s) places (all_in s) whole most (get_or (chains scope) k []) (chain-known q s.form.rules h.form.tables h.rules k) (begun scope) (begun-in scope.model) in
        record {
          same = ap {A = List Document} (λ ds. nested most (record (bind_scope p s 0) { given = record (bind_scope p s 0).given { documents = ds } }) (all_in d) k) documents-same
              ∙ ap (λ all. nested most (bind_scope p s 0) all k) (sym kept-is) ∙ a.same;
          told = a.told;
        }

    pub is-seen : IsSeen q (quiet p s) small
    is-seen = record { whole = whole; inside = inside; quiet = refl; bound = bound-agrees }

    pub around-is : quiet p d ≡ over q (quiet p s) small
    around-is =
        ap {A = List Document} {B = Around} (λ ds. record { functions = p.functions; most = most; given = record (given s None) { documents = ds }; all = all_in d; bound = small }) documents-same
        ∙ ap {A = List Visit} {B = Around} (λ all. record { functions = p.functions; most = most; given = given s None; all = all; bound = small }) (sym kept-is)

    -- ---- the list of the controls

    copies-are : copies (interface s) (quiet p d) (marks_in d) s.cases s.indexes ≡ copies (interface s) (quiet p s) (marks_in s) s.cases s.indexes
    copies-are =
        ap (λ x. copies (interface s) x (marks_in d) s.cases s.indexes) around-is
        ∙ copies-same q (interface s) (elements-keep q s h) (quiet p s) small is-seen (marks_in s) (marks_in d) marks-same s.cases s.indexes

passed-too : (s t : State) (words : List LimitWord) (l list : List Copy) → unless_passed s words l ≡ Ok list → unless_passed t words l ≡ Ok list
passed-too s t [] l list e = e
passed-too s t (word ∷ words) l list e = cc e

pub list-too : (p : Profile) (s t : State) (o : Option (List Copy)) (list : List Copy) → (or_long s o >>= λ l. within_controls p l s) ≡ Ok list → (or_long t o >>= λ l. within_controls p l t) ≡ Ok list
list-too p s t None list e = cc e
list-too p s t (Some l) list e = passed-too s t (if_over (nat_lt p.controls (copy_count l)) Controls) l list e

pub shown_law : ShownOfInstances
shown_law p s list h trees ahead e =
    subst (λ o. (or_long (dropped s) o >>= λ l. within_controls p l (dropped s)) ≡ Ok list) (sym (copies-are s trees ahead p h))
    (list-too p s (dropped s) (copies (interface s) (quiet p s) (marks_in s) s.cases s.indexes) list e)

-- What stands of a model over the whole data and over its part.
use Rattle.std.proofs.Common.{◌≡◌, ℕ, ◌==◌, Bool, true, false, not, cond, ◌&&◌, List, [], ◌∷◌, map, Option, Some, None, sym, ap, ◌∙◌, subst}
use Rattle.std.specs.Prelude.{Ok, suc, filter, if◌then◌else◌}
use Rattle.std.specs.List.{list_all}
use Rattle.xf_def_syntax.specs.declared.form.Instance.{Instance}
use Rattle.xf_def_syntax.specs.declared.form.Tables.{Tables}
use Rattle.xf_def_forest.specs.declared.content.Node.{Node}
use Rattle.xf_def_forest.specs.Forest.{Forest, is_root, is_attribute}
use Rattle.xf_def_forest.specs.Visit.{Visit, visits, has, is_first, first_of, children_of, ancestors_of}
use Rattle.xf_def_forest.specs.Shape.{text_number, shape, shape_of}
use Rattle.xf_def_forest.specs.Changes.{in_instances, in_detached}
use Rattle.xf_def_forest.specs.WellFormed.{HasTrees}
use Rattle.xf_def_values.specs.Functions.{Functions}
use Rattle.xf_def_xpath.specs.Given.{Document, Given, document_of}
use Rattle.xf_def_xpath.specs.Asked.{found}
use Rattle.xf_def_xpath.specs.Agree.{numbers_of}
use Rattle.xf_def_xpath.proofs.VisitFacts.{some-same, none-some, or-left, or-right, self-same, found-number, present}
use Rattle.xf_def_xpath.proofs.ForestVisits.{Each, each-found}
use Rattle.xf_graph.specs.Cycle.{IsAcyclic}
use Rattle.xf_def_model.specs.Rules.{Rule, Scope, scope_of}
use Rattle.xf_def_model.specs.Applied.{Entry, Exception, entries_by, entries_from, all_entries, exception_from, unless, applied}
use Rattle.xf_def_model.specs.Circular.{graph_over}
use Rattle.xf_def_model.specs.Entries.{reads_of, looks_of, edge_count}
use Rattle.xf_def_model.specs.Settled.{computed_over, settled, Bounds, settled_contents, settled_values, values_over}
use Rattle.xf_def_model.specs.Pertinent.{AllOf, Changes, pertinent}
use Rattle.xf_law_recalculation.specs.Agree.Settles.{AreHung, IsSolid}
use Rattle.xf_law_recalculation.specs.Agree.FormSettles.{Applies}
use Rattle.xf_law_recalculation.specs.Marks.Binds.{HasInstances}
use Rattle.xf_law_forests.specs.Root.Roots.{roots_in}
use Rattle.xf_law_recalculation.specs.Change.Documents.{IsRootOf}
use Rattle.xf_law_recalculation.proofs.ChangeLemmas.RootsStay.{root_stands}
use Rattle.xf_law_recalculation.proofs.BindLemmas.Led.{forest-led}
use Rattle.xf_law_recalculation.proofs.BindLemmas.FormChains.{all-append}
use Rattle.xf_law_recalculation.proofs.BindLemmas.SolidEntries.{entries-solid}
use Rattle.xf_law_recalculation.proofs.DocumentLemmas.Elements.{first-below}
use Rattle.xf_law_recalculation.specs.Part.Whole.{ComputedOfPart, LongOfPart, LongTextOfPart, long_entries, has_long_text, with_documents, StandsFor, Asks, PartHasInstances, AppliedOfPart, AppliedStandsInPart, AsksOfPart, CountOfPart, GraphOfPart, OrderOfPart, SettledOfPart, ValuesOfPart, SettledValuesOfPart, PertinentOfPart}
use Rattle.xf_law_recalculation.proofs.ElsewhereLemmas.Own.{root-there}
use Rattle.xf_law_recalculation.specs.Within.Within.{Whole, kept}
use Rattle.xf_law_recalculation.proofs.WithinLemmas.Within.{found-kept}
use Rattle.xf_law_recalculation.proofs.HeldLemmas.Named.{tops_of, top-root, named, is_own, whole-trees, texts-own, kept-is, shape-is, shape-trees, part_has_trees}
use Rattle.xf_law_recalculation.proofs.HeldLemmas.Seats.{own_numbers, own-below}
use Rattle.xf_law_recalculation.proofs.PartLemmas.Binds.{HasPlaces, applied-same, entries-inside}
use Rattle.xf_law_recalculation.proofs.PartLemmas.Graphs.{asks-ok, count-ok, graph-ok}
use Rattle.xf_law_recalculation.proofs.PartLemmas.Settling.{computed-ok, settled_long-ok, settled_text-ok, values-ok, settled-ok, settled_values-ok}
use Rattle.xf_law_recalculation.proofs.HeldLemmas.Forests.{roots-told, part-attached}
use Rattle.xf_law_recalculation.proofs.HeldLemmas.Documents.{own_instances, IsChild, named-child}
use Rattle.xf_law_recalculation.proofs.PartLemmas.Pertinence.{pertinent-same}

unless-ok : {X : Type 0} (o : Option Exception) (x y : X) → unless o x ≡ Ok y → x ≡ y
unless-ok None x y h = cc h
unless-ok (Some o) x y h = cc h

-- ---- what stands for the whole

module _ (instances : List Instance) (model : ℕ) (given : Given) (documents : List Document) (part whole : Forest) (s : StandsFor instances model given documents part whole) where
  abbrev tops : List ℕ
  tops = tops_of instances model whole.nodes

  abbrev V : List Visit
  V = visits whole.nodes

  abbrev p : ℕ → Bool
  p k = is_own instances model part whole s.is_part s.present.trees s.present.below k

  is-whole : Each (Whole p) V
  is-whole = whole-trees instances model part whole s.is_part s.present.trees s.present.below

  texted : Each (λ v. p (text_number v.number) ≡ p v.number) V
  texted = texts-own instances model part whole s.is_part s.present.trees s.present.below

  visits-are : kept p V ≡ visits part.nodes
  visits-are = kept-is instances model part whole s.is_part s.present.trees s.present.below

  shapes-are : kept p (shape V) ≡ shape_of part.nodes
  shapes-are = shape-is instances model part whole s.is_part s.present.trees s.present.below

  shape-wholes : Each (Whole p) (shape V)
  shape-wholes = shape-trees instances model part whole s.is_part s.present.trees s.present.below

  -- ---- document elements

  told : (id : List ℕ) (n : ℕ) → document_of model id given.documents ≡ Some n → IsChild (visits part.nodes) (roots_in part.nodes) n
  told id n e =
      named-child model (own_instances model instances) (roots_in part.nodes) (visits part.nodes) id n
      (sym (named instances model part whole s.present.trees s.is_part id) ∙ sym (s.present.documents id) ∙ e)

  first-number : (n : ℕ) (all : List Visit) (root : ℕ) → first_of (children_of root all) ≡ Some n → has n (numbers_of all) ≡ true
  first-number n all root e = by all e
    where
      test : Visit → Bool
      test y = is_first root y.above && not (is_attribute y.content)

      by : (ys : List Visit) → first_of (map (λ (y : Visit). y.number) (filter test ys)) ≡ Some n → has n (numbers_of ys) ≡ true
      by [] i = none-some i
      by (y ∷ ys) i = of (test y) i (by ys)
        where
          of : (b : Bool) → first_of (map (λ (z : Visit). z.number) (cond b (y ∷ filter test ys) (filter test ys))) ≡ Some n →
              (first_of (map (λ (z : Visit). z.number) (filter test ys)) ≡ Some n → has n (numbers_of ys) ≡ true) → has n (numbers_of (y ∷ ys)) ≡ true
          of true j f = or-left (n == y.number) (has n (numbers_of ys)) (ap (λ k. n == k) (some-same j) ∙ self-same n)
          of false j f = or-right (n == y.number) (has n (numbers_of ys)) (f j)

  in-numbers : (n : ℕ) → has n (numbers_of (visits part.nodes)) ≡ true → p n ≡ true
  in-numbers n h = or-left (has n (own_numbers whole s.present.trees tops)) _ (ap (λ nodes. has n (numbers_of (visits nodes))) (sym s.is_part.nodes) ∙ h)

  module _ (functions : Functions) (tables : Tables) where
    abbrev large : Scope
    large = scope_of functions given tables model

    abbrev over_part : Scope
    over_part = scope_of functions (with_documents documents given) tables model

    has-places : HasPlaces p (scope_of functions given tables model) documents
    has-places = record {
      same = s.same;
      inside = λ id n e. let c = told id n e in in-numbers n (first-number n (visits part.nodes) c.root c.child);
      quiet = s.present.quiet;
    }

    pub applied-is : applied large whole.nodes ≡ applied over_part part.nodes
    applied-is = sym (applied-same p functions given tables model documents has-places (shape V) shape-wholes) ∙ ap (λ l. unless (exception_from l [] (all_entries over_part l)) (all_entries over_part l)) shapes-are

    module _ (entries : List Entry) (applies : Applies functions (with_documents documents given) tables model part entries) where
      abbrev InPart : Entry → Type 0
      InPart e = p e.node ≡ true

      inside : Each InPart entries
      inside = subst (Each InPart) (unless-ok (exception_from (shape V) [] (all_entries large (shape V))) (all_entries large (shape V)) entries (applied-is ∙ applies))
          (entries-inside p functions given tables model documents has-places (shape V) shape-wholes)

      -- whatever is made of what is asked
      pub any-asks : {X : Type 0} (ask : Entry → List ℕ → List ℕ → List ℕ → X) →
          map (λ e. ask e (reads_of large (shape_of whole.nodes) e) (looks_of large (shape_of whole.nodes) e) (ancestors_of e.node (shape_of whole.nodes))) entries
          ≡ map (λ e. ask e (reads_of over_part (shape_of part.nodes) e) (looks_of over_part (shape_of part.nodes) e) (ancestors_of e.node (shape_of part.nodes))) entries
      any-asks ask =
          sym (asks-ok p functions given tables model documents has-places (shape V) shape-wholes ask entries inside)
          ∙ ap (λ l. map (λ e. ask e (reads_of over_part l e) (looks_of over_part l e) (ancestors_of e.node l)) entries) shapes-are

      pub count-is : edge_count large (shape_of whole.nodes) entries ≡ edge_count over_part (shape_of part.nodes) entries
      count-is = sym (count-ok p functions given tables model documents has-places (shape V) shape-wholes entries inside) ∙ ap (λ l. edge_count over_part l entries) shapes-are

      pub graph-is : graph_over large (shape_of whole.nodes) entries ≡ graph_over over_part (shape_of part.nodes) entries
      graph-is = sym (graph-ok p functions given tables model documents has-places (shape V) shape-wholes entries inside) ∙ ap (λ l. graph_over over_part l entries) shapes-are

      pub settled-is : (b : Bounds) → settled_contents b large entries V ≡ settled_contents b over_part entries (visits part.nodes)
      settled-is b =
          sym (settled-ok p functions given tables model documents has-places b entries inside V is-whole texted (forest-led whole.nodes s.present.trees.first)) ∙ ap (settled_contents b over_part entries) visits-are

      pub computed-is : (b : Bounds) → computed_over b large entries V ≡ computed_over b over_part entries (visits part.nodes)
      computed-is b = sym (computed-ok p functions given tables model documents has-places b entries inside V is-whole) ∙ ap (computed_over b over_part entries) visits-are

      pub long-is : (b : Bounds) → long_entries b large entries (settled b large entries V) ≡ long_entries b over_part entries (settled b over_part entries (visits part.nodes))
      long-is b =
          sym (settled_long-ok p functions given tables model documents has-places b entries inside V is-whole texted (forest-led whole.nodes s.present.trees.first))
          ∙ ap (λ l. long_entries b over_part entries (settled b over_part entries l)) visits-are

      pub long_text-is : (b : Bounds) → has_long_text b large entries (settled b large entries V) ≡ has_long_text b over_part entries (settled b over_part entries (visits part.nodes))
      long_text-is b =
          sym (settled_text-ok p functions given tables model documents has-places b entries inside V is-whole texted (forest-led whole.nodes s.present.trees.first))
          ∙ ap (λ l. has_long_text b over_part entries (settled b over_part entries l)) visits-are

      pub values-is : (b : Bounds) → values_over b large entries V ≡ values_over b over_part entries (visits part.nodes)
      values-is b = sym (values-ok p functions given tables model documents has-places b entries inside V is-whole) ∙ ap (values_over b over_part entries) visits-are

      pub settled_values-is : (b : Bounds) → settled_values b large entries V ≡ settled_values b over_part entries (visits part.nodes)
      settled_values-is b =
          sym (settled_values-ok p functions given tables model documents has-places b entries inside V is-whole texted (forest-led whole.nodes s.present.trees.first)) ∙ ap (settled_values b over_part entries) visits-are

      pub pertinent-is : (changes : Changes) → pertinent large (shape_of whole.nodes) entries changes ≡ pertinent over_part (shape_of part.nodes) entries changes
      pertinent-is changes =
          sym (pertinent-same p (shape V) shape-wholes functions given tables model documents has-places entries changes inside) ∙ ap (λ l. pertinent over_part l entries changes) shapes-are

    -- ---- a forest of its own

    abbrev own : Forest
    own = record part { next = whole.next }

    own-trees : HasTrees own
    own-trees = part_has_trees instances model part whole s.present.trees s.is_part

    attached : (in_instances part.nodes ≡ part.nodes) × (in_detached part.nodes ≡ [])
    attached =
        subst (λ nodes. (in_instances nodes ≡ nodes) × (in_detached nodes ≡ [])) (sym s.is_part.nodes)
        (part-attached tops false whole.nodes (roots-told tops whole.nodes s.present.trees.apart (λ n i j. top-root instances model whole.nodes n j)))

    own-hung : AreHung (visits part.nodes)
    own-hung k x e t =
        let out = from (visits part.nodes) visits-are k x e in
        let q = s.present.hung k x out.1 t in
        let up : p q.0 ≡ true = each-found (Whole p) k V x is-whole out.1 q.0 (ap (has q.0) q.4 ∙ or-left (q.0 == q.0) _ (self-same q.0)) ∙ ap p (found-number k V x out.1) ∙ out.0 in
        (q.0, q.1, ap (found q.0) (sym visits-are) ∙ found-kept p q.0 V up ∙ q.2, q.3, q.4)
      where
        from : (all : List Visit) → kept p V ≡ all → (m : ℕ) (y : Visit) → found m all ≡ Some y → (p m ≡ true) × (found m V ≡ Some y)
        from all i m y j =
            let there : p m ≡ true = in-numbers m (present m (visits part.nodes) y (ap (found m) (sym visits-are ∙ i) ∙ j)) in
            (there, sym (found-kept p m V there) ∙ ap (found m) i ∙ j)

    root-of : (root : ℕ) → has root (roots_in part.nodes) ≡ true → IsRootOf root own
    root-of root h = root_stands root own own-trees own-hung (ap (list_all (λ (y : Node). not (is_root y.content))) attached.1) (sym (root-there root part.nodes) ∙ h)

    pub has-instances : HasInstances over_part own
    has-instances = record {
      trees = own-trees;
      below = λ k h. own-below whole s.present.trees tops s.present.below k (ap (λ nodes. has k (numbers_of (visits nodes))) (sym s.is_part.nodes) ∙ h);
      hung = own-hung;
      documents = λ id n e.
          let c = told id n (sym (s.same id) ∙ e) in
          let b = first-below c.root own (root-of c.root c.is_root) n c.child in
          (b.visit, b.solid);
    }

    abbrev Solid : Entry → Type 0
    Solid e = IsSolid (visits part.nodes) e.node

    solid-from : (k : ℕ) (rs : List Rule) → AllOf Solid (entries_from over_part (shape_of part.nodes) k rs)
    solid-from k [] = tt
    solid-from k (r ∷ rs) = all-append Solid (if r.model == model then entries_by over_part (shape_of part.nodes) k r else []) (entries_from over_part (shape_of part.nodes) (suc k) rs) (by (r.model == model)) (solid-from (suc k) rs)
      where
        by : (b : Bool) → AllOf Solid (if b then entries_by over_part (shape_of part.nodes) k r else [])
        by true = subst (λ nodes. AllOf (λ e. IsSolid (visits nodes) e.node) (entries_by over_part (shape_of nodes) k r)) attached.0 (entries-solid over_part own has-instances k r)
        by false = tt

    pub stands-in : (entries : List Entry) → Applies functions (with_documents documents given) tables model part entries → AllOf Solid entries
    stands-in entries applies =
        subst (AllOf Solid) (unless-ok (exception_from (shape_of part.nodes) [] (all_entries over_part (shape_of part.nodes))) (all_entries over_part (shape_of part.nodes)) entries applies) (solid-from 0 over_part.rules)

-- ---- the laws

pub applied_of_part : AppliedOfPart
applied_of_part functions given documents tables instances model part whole s = applied-is instances model given documents part whole s functions tables

pub applied_stands_in_part : AppliedStandsInPart
applied_stands_in_part functions given documents tables instances model part whole entries s applies = stands-in instances model given documents part whole s functions tables entries applies

pub part_has_instances : PartHasInstances
part_has_instances functions given documents tables instances model part whole s = has-instances instances model given documents part whole s functions tables

-- as a record of the caller's own
pub any_asks_of_part : {X : Type 0} (ask : Entry → List ℕ → List ℕ → List ℕ → X) (functions : Functions) (given : Given) (documents : List Document) (tables : Tables) (instances : List Instance) (model : ℕ) (part whole : Forest) (entries : List Entry) →
    StandsFor instances model given documents part whole → Applies functions (with_documents documents given) tables model part entries →
    map (λ e. ask e (reads_of (scope_of functions given tables model) (shape_of whole.nodes) e) (looks_of (scope_of functions given tables model) (shape_of whole.nodes) e) (ancestors_of e.node (shape_of whole.nodes))) entries
    ≡ map (λ e. ask e (reads_of (scope_of functions (with_documents documents given) tables model) (shape_of part.nodes) e) (looks_of (scope_of functions (with_documents documents given) tables model) (shape_of part.nodes) e) (ancestors_of e.node (shape_of part.nodes))) entries
any_asks_of_part ask functions given documents tables instances model part whole entries s applies = any-asks instances model given documents part whole s functions tables entries applies ask

pub asks_of_part : AsksOfPart
asks_of_part functions given documents tables instances model part whole entries s applies =
    any_asks_of_part (λ e reads looks above. made reads looks above) functions given documents tables instances model part whole entries s applies
  where
    made : List ℕ → List ℕ → List ℕ → Asks
    made reads looks above = record { reads = reads; looks = looks; above = above }

pub count_of_part : CountOfPart
count_of_part functions given documents tables instances model part whole entries s applies = count-is instances model given documents part whole s functions tables entries applies

pub graph_of_part : GraphOfPart
graph_of_part functions given documents tables instances model part whole entries s applies = graph-is instances model given documents part whole s functions tables entries applies

pub order_of_part : OrderOfPart
order_of_part functions given documents tables instances model part whole entries s applies =
    let same = graph_of_part functions given documents tables instances model part whole entries s applies in
    (λ h. subst IsAcyclic same h, λ h. subst IsAcyclic (sym same) h)

pub settled_of_part : SettledOfPart
settled_of_part b functions given documents tables instances model part whole entries s applies = settled-is instances model given documents part whole s functions tables entries applies b

pub values_of_part : ValuesOfPart
values_of_part b functions given documents tables instances model part whole entries s applies = values-is instances model given documents part whole s functions tables entries applies b

pub settled_values_of_part : SettledValuesOfPart
settled_values_of_part b functions given documents tables instances model part whole entries s applies = settled_values-is instances model given documents part whole s functions tables entries applies b

pub pertinent_of_part : PertinentOfPart
pertinent_of_part functions given documents tables instances model part whole entries changes s applies = pertinent-is instances model given documents part whole s functions tables entries applies changes

pub computed_of_part : ComputedOfPart
computed_of_part b functions given documents tables instances model part whole entries s applies = computed-is instances model given documents part whole s functions tables entries applies b

pub long_of_part : LongOfPart
long_of_part b functions given documents tables instances model part whole entries s applies = long-is instances model given documents part whole s functions tables entries applies b

pub long_text_of_part : LongTextOfPart
long_text_of_part b functions given documents tables instances model part whole entries s applies = long_text-is instances model given documents part whole s functions tables entries applies b

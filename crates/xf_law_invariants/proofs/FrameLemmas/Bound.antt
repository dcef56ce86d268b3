-- What a binding gives: elements and attributes that stand.
use Rattle.std.proofs.Common.{ℕ, zero, suc, ◌≡◌, Bool, true, false, not, ◌&&◌, ◌||◌, ◌==◌, List, [], ◌∷◌, ◌++◌, map, filter, find, get_or, Option, Some, None, option_map, option_and_then, Result, Ok, Err, refl, sym, ap, ◌∙◌, subst, inl, inr, arith}
use Rattle.std.specs.Prelude.{if◌then◌else◌}
use Rattle.std.specs.List.{list_any, flat_map}
use Rattle.std.proofs.lemmas.Bool.Decides.{nat_tests}
use Rattle.xf_def_syntax.specs.declared.form.Submission.{Submission}
use Rattle.xf_def_syntax.specs.declared.form.Instance.{Instance}
use Rattle.xf_def_syntax.specs.declared.expr.Expr.{Expr}
use Rattle.xf_def_syntax.specs.Ordered.{numbered_from}
use Rattle.xf_def_forest.specs.declared.content.Content.{Content}
use Rattle.xf_def_forest.specs.declared.content.Content.TheVariants as content
use Rattle.xf_def_forest.specs.declared.content.Kind.{Kind}
use Rattle.xf_def_forest.specs.declared.content.Kind.TheVariants as kind
use Rattle.xf_def_forest.specs.declared.content.Node.{Node}
use Rattle.xf_def_forest.specs.declared.content.Kind.TheVariants.{Element}
use Rattle.xf_def_forest.specs.Changes.{root_of}
use Rattle.xf_def_forest.specs.Forest.{Forest, is_attribute, is_element, is_root, is_text, kind_at, kind_of}
use Rattle.xf_def_forest.specs.Needs.{IsSettable}
use Rattle.xf_def_forest.specs.Shape.{has_elements}
use Rattle.xf_def_forest.specs.Visit.{Visit, children_of, first_of, is_first, visits}
use Rattle.xf_def_forest.specs.WellFormed.{HasTrees}
use Rattle.xf_def_forest.proofs.BackLaws.{and-true, not-true}
use Rattle.xf_def_forest.proofs.OrderLaws.{visits-different}
use Rattle.xf_law_forests.specs.Root.Roots.{IsNoRoot}
use Rattle.xf_def_values.specs.Bounded as bounded
use Rattle.xf_def_xpath.specs.declared.value.Value.{Value}
use Rattle.xf_def_xpath.specs.Asked.{Trace, found}
use Rattle.xf_def_xpath.specs.Binding.{as_list, bound_nodes, stand_in, stand_ins}
use Rattle.xf_def_xpath.specs.Binding as binding
use Rattle.xf_def_xpath.specs.Conversions.{nodes_of}
use Rattle.xf_def_xpath.specs.Given.{Document, first_document}
use Rattle.xf_def_xpath.specs.Reads.{trace}
use Rattle.xf_def_xpath.specs.Setting.{Focus, each, in_order, joined}
use Rattle.xf_def_xpath.proofs.ForestVisits.{Each, each-found, each-map, self-found}
use Rattle.xf_def_xpath.proofs.VisitFacts.{found-number}
use Rattle.xf_law_recalculation.specs.Agree.Settles.{AreHung}
use Rattle.xf_law_recalculation.proofs.AgreeLemmas.HeldShape.{IsTop, tops-from}
use Rattle.xf_law_recalculation.proofs.AgreeLemmas.HungLaws.{hung_forest}
use Rattle.xf_law_recalculation.proofs.WithinLemmas.Within.{In, in-append, in-filter, ordered-in}
use Rattle.xf_def_model.specs.Nested.{alone, begun, nested, reached_through, set_from, setting_for}
use Rattle.xf_def_model.specs.Places.{is_in}
use Rattle.xf_def_model.specs.Pertinent.{AllOf}
use Rattle.xf_def_model.specs.Rules.{Scope, chains, scope_of_bind}
use Rattle.xf_def_model.specs.Submitted.{by_expression, first_from, first_in}
use Rattle.xf_def_ui.specs.Around.{all_bound, first_bound, first_stand, selected_by}
use Rattle.xf_def_ui.specs.Copies.{Copy}
use Rattle.xf_def_ui.specs.Interface.{Bound, unbound, nodes, by_bind}
use Rattle.xf_law_invariants.proofs.PlannedLemmas.Planned.{content-kind, in-kind, root-test, visits-any}
use Rattle.xf_law_forests.proofs.RollbackLemmas.KeepingTrees.{attribute-test, element-test, kind-any}
use Rattle.xf_def_machine.specs.Flow.{◌>>=◌}
use Rattle.xf_def_machine.specs.Profile.{Profile}
use Rattle.xf_def_machine.specs.Refusal.{Refused, or_long}
use Rattle.xf_def_machine.specs.State.{State}
use Rattle.xf_def_machine.specs.Submit.{is_element_in, takes_tree, target_by}
use Rattle.xf_def_machine.specs.Properties.{readonly_in}
use Rattle.xf_def_machine.specs.Surround.{Told, around, bind_scope, document_at, document_in, document_under, documents, instance_holding, instances_in, interface, quiet, scope}
use Rattle.xf_def_machine.specs.Targets.{copy_named, is_copy_at, or_no_target}
use Rattle.xf_def_ui.specs.Named.{named_rows}
use Rattle.xf_law_machine.proofs.RestLemmas.Holds.{Held}
use Rattle.xf_law_invariants.specs.Frame.Base.{AreBound, IsBase}

-- by what came first
pub held-on : {X Y : Type 0} (Q : Y → Type 0) (r : Result X Refused) (next : X → Result Y Refused) → ((x : X) → r ≡ Ok x → Held Q (next x)) → Held Q (r >>= next)
held-on Q (Err refusal) next k = tt
held-on Q (Ok x) next k = k x refl

pub long-some : {X : Type 0} (s : State) (o : Option X) (x : X) → or_long s o ≡ Ok x → o ≡ Some x
long-some s None x e = cc e
long-some s (Some y) x e = cc e

pub settable-by : (n : ℕ) (forest : Forest) → IsNoRoot n forest → has_elements (visits forest.nodes) n ≡ false → IsSettable n forest
settable-by n forest (inl e) f = record { kind = inr e; childless = f }
settable-by n forest (inr e) f = record { kind = inl e; childless = f }

-- ---- over data

module _ (forest : Forest) (trees : HasTrees forest) (hung : AreHung (visits forest.nodes)) where
  abbrev pub all : List Visit
  all = visits forest.nodes

  -- an element or attribute stands there
  abbrev pub stands : ℕ → Bool
  stands n = list_any (λ (x : Visit). (x.number == n) && (is_element x.content || is_attribute x.content)) all

  kind-found : (n : ℕ) (x : Visit) → found n all ≡ Some x → kind_at n forest.nodes ≡ Some (kind_of x.content)
  kind-found n x e = content-kind forest trees n x.content (ap (option_map (λ (y : Visit). y.content)) e)

  one-some : {X : Type 0} {x y : X} → ◌≡◌ {A = Option X} (Some x) (Some y) → x ≡ y
  one-some e = cc e

  stands-of : (n : ℕ) (x : Visit) → found n all ≡ Some x → (is_element x.content || is_attribute x.content) ≡ true → stands n ≡ true
  stands-of n x e f = by all x e f
    where
      by : (xs : List Visit) (y : Visit) → found n xs ≡ Some y → (is_element y.content || is_attribute y.content) ≡ true → list_any (λ (z : Visit). (z.number == n) && (is_element z.content || is_attribute z.content)) xs ≡ true
      by [] y q g = cc q
      by (z ∷ zs) y q g = at (z.number == n) q (by zs y)
        where
          or-right : (a b : Bool) → b ≡ true → (a || b) ≡ true
          or-right true b i = refl
          or-right false b i = i

          at : (b : Bool) → (if b then Some z else found n zs) ≡ Some y
              → (found n zs ≡ Some y → (is_element y.content || is_attribute y.content) ≡ true → list_any (λ (w : Visit). (w.number == n) && (is_element w.content || is_attribute w.content)) zs ≡ true)
              → ((b && (is_element z.content || is_attribute z.content)) || list_any (λ (w : Visit). (w.number == n) && (is_element w.content || is_attribute w.content)) zs) ≡ true
          at true i rest = let same : z ≡ y = one-some i in rw (ap (λ (w : Visit). is_element w.content || is_attribute w.content) same ∙ g) refl
          at false i rest = rest i g

  pub stands-kind : (n : ℕ) → stands n ≡ true → IsNoRoot n forest
  stands-kind n e = split (is_in is_element all n) (is_in is_attribute all n) refl refl (parted all ∙ e)
    where
      parted : (xs : List Visit)
          → (list_any (λ (x : Visit). (x.number == n) && is_element x.content) xs || list_any (λ (x : Visit). (x.number == n) && is_attribute x.content) xs)
          ≡ list_any (λ (x : Visit). (x.number == n) && (is_element x.content || is_attribute x.content)) xs
      parted [] = refl
      parted (x ∷ xs) = mixed (x.number == n) (is_element x.content) (is_attribute x.content) (list_any (λ (y : Visit). (y.number == n) && is_element y.content) xs) (list_any (λ (y : Visit). (y.number == n) && is_attribute y.content) xs)
          ∙ ap (λ b. ((x.number == n) && (is_element x.content || is_attribute x.content)) || b) (parted xs)
        where
          mixed : (a b c d g : Bool) → (((a && b) || d) || ((a && c) || g)) ≡ ((a && (b || c)) || (d || g))
          mixed true true c d g = refl
          mixed true false true true g = refl
          mixed true false true false g = refl
          mixed true false false d g = refl
          mixed false b c d g = refl

      split : (a b : Bool) → is_in is_element all n ≡ a → is_in is_attribute all n ≡ b → (a || b) ≡ true → IsNoRoot n forest
      split true b f g h = inl (in-kind forest trees kind.Element is_element element-test n f)
      split false true f g h = inr (in-kind forest trees kind.Attribute is_attribute attribute-test n g)
      split false false f g h = cc h

  -- ---- what stands for a node

  -- a child of a root is an element
  child-stands : (r : ℕ) → kind_at r forest.nodes ≡ Some kind.Root → (y : Visit) → found y.number all ≡ Some y → (is_first r y.above && not (is_attribute y.content)) ≡ true → (kind_at y.number forest.nodes ≡ Some kind.Element) × (stands y.number ≡ true)
  child-stands r root y e f = by y.content refl
    where
      first : is_first r y.above ≡ true
      first = (and-true (is_first r y.above) (not (is_attribute y.content)) f).0

      plain : is_attribute y.content ≡ false
      plain = not-true (is_attribute y.content) (and-true (is_first r y.above) (not (is_attribute y.content)) f).1

      same-number : (a b : ℕ) → (a == b) ≡ true → a ≡ b
      same-number a b q = grind (arith, nat_tests, q)

      by : (c : Content) → y.content ≡ c → (kind_at y.number forest.nodes ≡ Some kind.Element) × (stands y.number ≡ true)
      by content.Root q =
          let top : y.above ≡ [] = each-found IsTop y.number all y (tops-from [] forest.nodes trees.tops) e (ap is_root q) in
          cc (sym first ∙ ap (is_first r) top)
      by (content.Element name) q = (kind-found y.number y e ∙ ap (λ c. Some (kind_of c)) q, stands-of y.number y e (ap (λ c. is_element c || is_attribute c) q))
      by (content.Attribute name text) q = cc (sym plain ∙ ap is_attribute q)
      by (content.Text text) q =
          let z = hung y.number y e (ap is_text q) in
          let same : r ≡ z.0 = same-number r z.0 (sym (ap (is_first r) z.4) ∙ first) in
          let above : kind_at z.0 forest.nodes ≡ Some (kind_of z.1.content) = kind-found z.0 z.1 z.2 in
          element-root z.1.content z.3 (sym above ∙ ap (λ k. kind_at k forest.nodes) (sym same) ∙ root)
        where
          element-root : (c : Content) → is_element c ≡ true → ◌≡◌ {A = Option Kind} (Some (kind_of c)) (Some kind.Root) → (kind_at y.number forest.nodes ≡ Some kind.Element) × (stands y.number ≡ true)
          element-root content.Root i j = cc i
          element-root (content.Element name) i j = cc j
          element-root (content.Attribute name more) i j = cc i
          element-root (content.Text more) i j = cc i

  every : Each (λ v. found v.number all ≡ Some v) all
  every = self-found all (visits-different forest trees)

  children-stand : (r : ℕ) → kind_at r forest.nodes ≡ Some kind.Root → In stands (children_of r all)
  children-stand r root =
      in-filter stands (λ y. is_first r y.above && not (is_attribute y.content)) all
      (each-map (λ v. found v.number all ≡ Some v) (λ y. (is_first r y.above && not (is_attribute y.content)) ≡ true → stands y.number ≡ true) all (λ y e f. (child-stands r root y e f).1) every)

  stand-in-stands : (x : Visit) → found x.number all ≡ Some x → (c : Content) → x.content ≡ c → In stands (stand_in all x c)
  stand-in-stands x e content.Root q = children-stand x.number (kind-found x.number x e ∙ ap (λ c. Some (kind_of c)) q)
  stand-in-stands x e (content.Element name) q = (stands-of x.number x e (ap (λ c. is_element c || is_attribute c) q), tt)
  stand-in-stands x e (content.Attribute name text) q = (stands-of x.number x e (ap (λ c. is_element c || is_attribute c) q), tt)
  stand-in-stands x e (content.Text text) q =
      let z = hung x.number x e (ap is_text q) in
      subst (λ (ns : List ℕ). In stands (as_list (first_of ns))) (sym z.4) (stands-of z.0 z.1 z.2 (rw z.3 refl), tt)

  stand-ins-stand : (n : ℕ) → In stands (stand_ins all (found n all))
  stand-ins-stand n = by (found n all) refl
    where
      by : (o : Option Visit) → found n all ≡ o → In stands (stand_ins all o)
      by None e = tt
      by (Some x) e = stand-in-stands x (ap (λ k. found k all) (found-number n all x e) ∙ e) x.content refl

  flat-stands : (f : ℕ → List ℕ) (ns : List ℕ) → ((n : ℕ) → In stands (f n)) → In stands (flat_map f ns)
  flat-stands f [] k = tt
  flat-stands f (n ∷ ns) k = in-append stands (f n) (flat_map f ns) (k n) (flat-stands f ns k)

  bound-stand : (ns : List ℕ) → In stands (bound_nodes all ns)
  bound-stand ns = ordered-in stands all (flat_map (λ n. stand_ins all (found n all)) ns) (flat-stands (λ n. stand_ins all (found n all)) ns stand-ins-stand)

  one-stand : (ns : List ℕ) (n : ℕ) → In stands ns → first_of ns ≡ Some n → stands n ≡ true
  one-stand [] n h e = cc e
  one-stand (m ∷ ms) n h e = let same : m ≡ n = one-some e in subst (λ k. stands k ≡ true) same h.0

  -- ---- the nodes of binds

  joined-stand : (sets : List (List ℕ)) → Each (In stands) sets → In stands (joined sets)
  joined-stand [] e = tt
  joined-stand (ns ∷ sets) e = in-append stands ns (joined sets) e.0 (joined-stand sets e.1)

  each-stand : (f : ℕ → Option (List ℕ)) → ((n : ℕ) (ns : List ℕ) → f n ≡ Some ns → In stands ns) → (ns : List ℕ) (sets : List (List ℕ)) → each f ns ≡ Some sets → Each (In stands) sets
  each-stand f k [] sets e = let same : [] ≡ sets = one-some e in subst (Each (In stands)) same tt
  each-stand f k (n ∷ ns) sets e = by (f n) refl (each f ns) refl e (each-stand f k ns)
    where
      by : (o : Option (List ℕ)) → f n ≡ o → (q : Option (List (List ℕ))) → each f ns ≡ q → bounded.◌>>=◌ o (λ y. bounded.◌>>=◌ q (λ ys. Some (y ∷ ys))) ≡ Some sets → ((zs : List (List ℕ)) → each f ns ≡ Some zs → Each (In stands) zs) → Each (In stands) sets
      by None g q h i rest = cc i
      by (Some y) g None h i rest = cc i
      by (Some y) g (Some ys) h i rest = let same : (y ∷ ys) ≡ sets = one-some i in subst (Each (In stands)) same (k n y g, rest ys h)

  set-stands : (most : Option ℕ) (scope : Scope) (t : Trace) (n : ℕ) (ns : List ℕ) → set_from most scope all t n ≡ Some ns → In stands ns
  set-stands most scope t n ns e = by (t.meaning (setting_for most scope all n) (alone n)) e
    where
      by : (o : Option Value) → option_map (λ v. bound_nodes all (nodes_of v)) o ≡ Some ns → In stands ns
      by None i = cc i
      by (Some v) i = let same : bound_nodes all (nodes_of v) ≡ ns = one-some i in subst (In stands) same (bound-stand (nodes_of v))

  reached-stand : (most : Option ℕ) (scope : Scope) (ts : List Trace) (ns ms : List ℕ) → In stands ns → reached_through most scope all ts ns ≡ Some ms → In stands ms
  reached-stand most scope [] ns ms h e = let same : ns ≡ ms = one-some e in subst (In stands) same h
  reached-stand most scope (t ∷ ts) ns ms h e = by (each (set_from most scope all t) ns) refl e (λ ks i. reached-stand most scope ts ks ms i)
    where
      by : (o : Option (List (List ℕ))) → each (set_from most scope all t) ns ≡ o → bounded.◌>>=◌ o (λ sets. reached_through most scope all ts (in_order all (joined sets))) ≡ Some ms
          → ((ks : List ℕ) → In stands ks → reached_through most scope all ts ks ≡ Some ms → In stands ms) → In stands ms
      by None g i rest = cc i
      by (Some sets) g i rest =
          rest (in_order all (joined sets)) (ordered-in stands all (joined sets) (joined-stand sets (each-stand (set_from most scope all t) (set-stands most scope t) ns sets g))) i

  pub nested-stand : (most : Option ℕ) (scope : Scope) (bind : ℕ) (ns : List ℕ) → In stands (begun (scope_of_bind scope bind)) → nested most scope all bind ≡ Some ns → In stands ns
  nested-stand most scope bind ns h e = let own = scope_of_bind scope bind in reached-stand most own (get_or (chains own) bind []) (begun own) ns h e

  pub expressed-stands : (most : Option ℕ) (scope : Scope) (t : Trace) (n : ℕ) → by_expression most scope all t ≡ Some (Some n) → stands n ≡ true
  expressed-stands most scope t n e = by (each (first_from most scope all t) (begun scope)) refl e
    where
      first-stands : (ns : List ℕ) → In stands (binding.first_bound all ns)
      first-stands [] = tt
      first-stands (k ∷ ks) = stand-ins-stand k

      from-stands : (k : ℕ) (ns : List ℕ) → first_from most scope all t k ≡ Some ns → In stands ns
      from-stands k ns i = of (t.meaning (setting_for most scope all k) (alone k)) i
        where
          of : (o : Option Value) → option_map (λ v. binding.first_bound all (nodes_of v)) o ≡ Some ns → In stands ns
          of None j = cc j
          of (Some v) j = let same : binding.first_bound all (nodes_of v) ≡ ns = one-some j in subst (In stands) same (first-stands (nodes_of v))

      one-in : (ns : List ℕ) → In stands ns → first_in ns ≡ Some n → stands n ≡ true
      one-in [] h j = cc j
      one-in (m ∷ ms) h j = let same : m ≡ n = one-some j in subst (λ k. stands k ≡ true) same h.0

      by : (o : Option (List (List ℕ))) → each (first_from most scope all t) (begun scope) ≡ o → option_map (λ sets. first_in (joined sets)) o ≡ Some (Some n) → stands n ≡ true
      by None g i = cc i
      by (Some sets) g i = one-in (joined sets) (joined-stand sets (each-stand (first_from most scope all t) from-stands (begun scope) sets g)) (one-some i)

-- ---- in a state

-- a root that is told by its place
root-kind : (forest : Forest) → HasTrees forest → (place r : ℕ) → root_of place forest.nodes ≡ Some r → kind_at r forest.nodes ≡ Some kind.Root
root-kind forest trees place r e = in-kind forest trees kind.Root is_root root-test r (visits-any (λ m c. (m == r) && is_root c) [] forest.nodes ∙ of place forest.nodes e)
  where
    self : (n : ℕ) → (n == n) ≡ true
    self n = grind (arith, nat_tests)

    or-right : (a b : Bool) → b ≡ true → (a || b) ≡ true
    or-right true b q = refl
    or-right false b q = q

    of : (k : ℕ) (xs : List Node) → root_of k xs ≡ Some r → list_any (λ (x : Node). (x.number == r) && is_root x.content) xs ≡ true
    of k [] q = cc q
    of zero (x ∷ xs) q = by (is_root x.content) refl q (of zero xs)
      where
        by : (b : Bool) → is_root x.content ≡ b → (if b then Some x.number else root_of zero xs) ≡ Some r → (root_of zero xs ≡ Some r → list_any (λ (y : Node). (y.number == r) && is_root y.content) xs ≡ true)
            → (((x.number == r) && is_root x.content) || list_any (λ (y : Node). (y.number == r) && is_root y.content) xs) ≡ true
        by true f i rest = let same : x.number ≡ r = cc i in rw (ap (λ k. k == r) same ∙ self r, f) refl
        by false f i rest = or-right ((x.number == r) && is_root x.content) (list_any (λ (y : Node). (y.number == r) && is_root y.content) xs) (rest i)
    of (suc k) (x ∷ xs) q = by (is_root x.content) q (of k xs) (of (suc k) xs)
      where
        by : (b : Bool) → (if b then root_of k xs else root_of (suc k) xs) ≡ Some r → (root_of k xs ≡ Some r → list_any (λ (y : Node). (y.number == r) && is_root y.content) xs ≡ true)
            → (root_of (suc k) xs ≡ Some r → list_any (λ (y : Node). (y.number == r) && is_root y.content) xs ≡ true)
            → (((x.number == r) && is_root x.content) || list_any (λ (y : Node). (y.number == r) && is_root y.content) xs) ≡ true
        by true i one two = or-right ((x.number == r) && is_root x.content) (list_any (λ (y : Node). (y.number == r) && is_root y.content) xs) (one i)
        by false i one two = or-right ((x.number == r) && is_root x.content) (list_any (λ (y : Node). (y.number == r) && is_root y.content) xs) (two i)

-- the first child of a root
first-child : (forest : Forest) (trees : HasTrees forest) (hung : AreHung (visits forest.nodes)) (r n : ℕ) → kind_at r forest.nodes ≡ Some kind.Root → first_of (children_of r (visits forest.nodes)) ≡ Some n
    → kind_at n forest.nodes ≡ Some Element
first-child forest trees hung r n root e = of (visits forest.nodes) (self-found (visits forest.nodes) (visits-different forest trees)) e
  where
    of : (ys : List Visit) → Each (λ v. found v.number (visits forest.nodes) ≡ Some v) ys → first_of (map (λ (x : Visit). x.number) (filter (λ (x : Visit). is_first r x.above && not (is_attribute x.content)) ys)) ≡ Some n
        → kind_at n forest.nodes ≡ Some Element
    of [] h q = cc q
    of (y ∷ ys) h q = by (is_first r y.above && not (is_attribute y.content)) refl q (of ys h.1)
      where
        by : (b : Bool) → (is_first r y.above && not (is_attribute y.content)) ≡ b
            → first_of (map (λ (x : Visit). x.number) (if b then y ∷ filter (λ (x : Visit). is_first r x.above && not (is_attribute x.content)) ys else filter (λ (x : Visit). is_first r x.above && not (is_attribute x.content)) ys)) ≡ Some n
            → (first_of (map (λ (x : Visit). x.number) (filter (λ (x : Visit). is_first r x.above && not (is_attribute x.content)) ys)) ≡ Some n → kind_at n forest.nodes ≡ Some Element) → kind_at n forest.nodes ≡ Some Element
        by true f i rest = let same : y.number ≡ n = cc i in subst (λ k. kind_at k forest.nodes ≡ Some Element) same (child-stands forest trees hung r root y h.0 f).0
        by false f i rest = rest i

module _ (p : Profile) (first : ℕ) (s : State) (b : IsBase p first s) where
  are-hung : AreHung (visits s.forest.nodes)
  are-hung = hung_forest s.forest b.trees b.hung

  abbrev Stand : ℕ → Bool
  Stand = stands s.forest b.trees are-hung

  pub document-kind : (place n : ℕ) → document_at s place ≡ Some n → kind_at n s.forest.nodes ≡ Some Element
  document-kind place n e = by (root_of place s.forest.nodes) refl e
    where
      by : (o : Option ℕ) → root_of place s.forest.nodes ≡ o → document_under s o ≡ Some n → kind_at n s.forest.nodes ≡ Some Element
      by None f i = cc i
      by (Some r) f i = first-child s.forest b.trees are-hung r n (root-kind s.forest b.trees place r f) i

  element-stands : (n : ℕ) → kind_at n s.forest.nodes ≡ Some Element → Stand n ≡ true
  element-stands n e = of (visits s.forest.nodes) (kind-any kind.Element is_element element-test n s.forest.nodes e)
    where
      more : (xs : List Visit) → list_any (λ (x : Visit). (x.number == n) && is_element x.content) xs ≡ true → list_any (λ (x : Visit). (x.number == n) && (is_element x.content || is_attribute x.content)) xs ≡ true
      more [] h = cc h
      more (x ∷ xs) h = by (x.number == n) (is_element x.content) h (more xs)
        where
          or-right : (a c : Bool) → c ≡ true → (a || c) ≡ true
          or-right true c q = refl
          or-right false c q = q

          by : (a c : Bool) → ((a && c) || list_any (λ (y : Visit). (y.number == n) && is_element y.content) xs) ≡ true
              → (list_any (λ (y : Visit). (y.number == n) && is_element y.content) xs ≡ true → list_any (λ (y : Visit). (y.number == n) && (is_element y.content || is_attribute y.content)) xs ≡ true)
              → ((a && (c || is_attribute x.content)) || list_any (λ (y : Visit). (y.number == n) && (is_element y.content || is_attribute y.content)) xs) ≡ true
          by true true q rest = refl
          by true false q rest = or-right (is_attribute x.content) _ (rest q)
          by false c q rest = rest q

      of : (vs : List Visit) → list_any (λ (x : Node). (x.number == n) && is_element x.content) s.forest.nodes ≡ true → Stand n ≡ true
      of vs h = more (visits s.forest.nodes) (visits-any (λ m c. (m == n) && is_element c) [] s.forest.nodes ∙ h)

  -- the document elements that expressions may name
  documents-stand : Each (λ (d : Document). Stand d.element ≡ true) (documents s)
  documents-stand = of (numbered_from 0 (instances_in s))
    where
      one : (i : Instance) (o : Option ℕ) → ((n : ℕ) → o ≡ Some n → Stand n ≡ true) → Each (λ (d : Document). Stand d.element ≡ true) (document_in i o)
      one i None k = tt
      one i (Some n) k = (k n refl, tt)

      append : (xs ys : List Document) → Each (λ (d : Document). Stand d.element ≡ true) xs → Each (λ (d : Document). Stand d.element ≡ true) ys → Each (λ (d : Document). Stand d.element ≡ true) (xs ++ ys)
      append [] ys h k = k
      append (x ∷ xs) ys h k = (h.0, append xs ys h.1 k)

      of : (is : List (ℕ × Instance)) → Each (λ (d : Document). Stand d.element ≡ true) (flat_map (λ i. document_in i.1 (document_at s i.0)) is)
      of [] = tt
      of (i ∷ is) = append (document_in i.1 (document_at s i.0)) (flat_map (λ j. document_in j.1 (document_at s j.0)) is) (one i.1 (document_at s i.0) (λ n e. element-stands n (document-kind i.0 n e))) (of is)

  begun-stands : (model : ℕ) → In Stand (as_list (first_document model (documents s)))
  begun-stands model = of (documents s) documents-stand
    where
      of : (ds : List Document) → Each (λ (d : Document). Stand d.element ≡ true) ds → In Stand (as_list (first_document model ds))
      of [] h = tt
      of (d ∷ ds) h = by (d.model == model) (of ds h.1)
        where
          by : (c : Bool) → In Stand (as_list (first_document model ds)) → In Stand (as_list (option_map (λ (x : Document). x.element) (if c then Some d else find (λ (x : Document). x.model == model) ds)))
          by true rest = (h.0, tt)
          by false rest = rest

  bind-stands : (k : ℕ) (ns : List ℕ) → nested (Some p.bounds.string) (bind_scope p s 0) (visits s.forest.nodes) k ≡ Some ns → In Stand ns
  bind-stands k ns e = nested-stand s.forest b.trees are-hung (Some p.bounds.string) (bind_scope p s 0) k ns (begun-stands (scope_of_bind (bind_scope p s 0) k).model) e

  pub first-bound-kind : (event : Option Told) (model : ℕ) (to : Bound) (c : Option Focus) (n : ℕ) → first_bound (around p s event) model to c ≡ Some (Some n) → IsNoRoot n s.forest
  first-bound-kind event model to c n e = stands-kind s.forest b.trees are-hung n (of to c e)
    where
      of : (to : Bound) (c : Option Focus) → first_bound (around p s event) model to c ≡ Some (Some n) → Stand n ≡ true
      of unbound None i = cc i
      of (nodes m) None i = cc i
      of (by_bind k) None i = cc i
      of unbound (Some x) i = cc i
      of (nodes m) (Some x) i = by (selected_by (around p s event) model x m) i
        where
          by : (o : Option (List ℕ)) → option_map (first_stand (around p s event)) o ≡ Some (Some n) → Stand n ≡ true
          by None j = cc j
          by (Some []) j = cc j
          by (Some (k ∷ ks)) j = one-stand s.forest b.trees are-hung _ n (stand-ins-stand s.forest b.trees are-hung k) (cc j)
      of (by_bind k) (Some x) i = by (nested (Some p.bounds.string) (bind_scope p s 0) (visits s.forest.nodes) k) refl i
        where
          by : (o : Option (List ℕ)) → nested (Some p.bounds.string) (bind_scope p s 0) (visits s.forest.nodes) k ≡ o → option_map first_of o ≡ Some (Some n) → Stand n ≡ true
          by None f j = cc j
          by (Some ns) f j = one-stand s.forest b.trees are-hung ns n (bind-stands k ns f) (cc j)

  all-kinds : (ns : List ℕ) → In Stand ns → AllOf (λ n. IsNoRoot n s.forest) ns
  all-kinds [] h = tt
  all-kinds (n ∷ ns) h = (stands-kind s.forest b.trees are-hung n h.0, all-kinds ns h.1)

  pub all-bound-kinds : (event : Option Told) (model : ℕ) (to : Bound) (c : Option Focus) (ns : List ℕ) → all_bound (around p s event) model to c ≡ Some ns → AllOf (λ n. IsNoRoot n s.forest) ns
  all-bound-kinds event model to c ns e = all-kinds ns (of to c e)
    where
      none-of : ◌≡◌ {A = Option (List ℕ)} (Some []) (Some ns) → In Stand ns
      none-of i = let same : [] ≡ ns = cc i in subst (In Stand) same tt

      of : (to : Bound) (c : Option Focus) → all_bound (around p s event) model to c ≡ Some ns → In Stand ns
      of unbound None i = none-of i
      of (nodes m) None i = none-of i
      of (by_bind k) None i = none-of i
      of unbound (Some x) i = none-of i
      of (nodes m) (Some x) i = by (selected_by (around p s event) model x m) i
        where
          by : (o : Option (List ℕ)) → option_map (bound_nodes (visits s.forest.nodes)) o ≡ Some ns → In Stand ns
          by None j = cc j
          by (Some ks) j = let same : bound_nodes (visits s.forest.nodes) ks ≡ ns = cc j in subst (In Stand) same (bound-stand s.forest b.trees are-hung ks)
      of (by_bind k) (Some x) i = bind-stands k ns i

  pub takes-kind : (n : ℕ) → takes_tree s n ≡ true → kind_at n s.forest.nodes ≡ Some Element
  takes-kind n e = in-kind s.forest b.trees kind.Element is_element element-test n (and-true (is_element_in s n) (not (readonly_in s n)) e).0

  pub target-kind : (sub : Submission) (n m : ℕ) → target_by p sub n s sub.target sub.instance ≡ Ok (Some m) → IsNoRoot m s.forest
  target-kind sub n m e = of sub.target sub.instance e
    where
      of : (target : Option Expr) (instance : Option ℕ) → target_by p sub n s target instance ≡ Ok (Some m) → IsNoRoot m s.forest
      of (Some expr) instance i =
          stands-kind s.forest b.trees are-hung m (expressed-stands s.forest b.trees are-hung (Some p.bounds.string) (scope p s sub.model) (trace expr) m
          (long-some s (by_expression (Some p.bounds.string) (scope p s sub.model) (visits s.forest.nodes) (trace expr)) (Some m) i))
      of None (Some place) i = inl (document-kind place m (cc i))
      of None None i = by (instance_holding s n) (cc i)
        where
          by : (o : Option ℕ) → option_and_then (document_at s) o ≡ Some m → IsNoRoot m s.forest
          by None j = cc j
          by (Some place) j = inl (document-kind place m j)

pub copy-bound : (p : Profile) (s : State) (n : ℕ) (rows : List ℕ) (c : Copy) → AreBound s → copy_named p s n rows ≡ Ok c → (m : ℕ) → c.node ≡ Some m → IsNoRoot m s.forest
copy-bound p s n rows c are e m q = from (or_long s (named_rows (interface s) (quiet p s) n rows)) e
  where
    Bound_ : Copy → Type 0
    Bound_ x = (k : ℕ) → x.node ≡ Some k → IsNoRoot k s.forest

    search_ : (test : Copy → Bool) (xs : List Copy) → AllOf Bound_ xs → find test xs ≡ Some c → Bound_ c
    search_ test [] a f = cc f
    search_ test (x ∷ xs) a f = by (test x) f (search_ test xs a.1)
      where
        by : (d : Bool) → (if d then Some x else find test xs) ≡ Some c → (find test xs ≡ Some c → Bound_ c) → Bound_ c
        by true i rest = let same : x ≡ c = cc i in subst Bound_ same a.0
        by false i rest = rest i

    found_ : (o : Option Copy) → or_no_target s o ≡ Ok c → o ≡ Some c
    found_ None i = cc i
    found_ (Some x) i = cc i

    from : (r : Result (Option (List ℕ)) Refused) → (r >>= or_no_target s >>= λ at. or_no_target s (find (is_copy_at n at) s.controls)) ≡ Ok c → IsNoRoot m s.forest
    from (Err refusal) i = cc i
    from (Ok None) i = cc i
    from (Ok (Some at)) i = search_ (is_copy_at n at) s.controls are (found_ (find (is_copy_at n at) s.controls) i) m q

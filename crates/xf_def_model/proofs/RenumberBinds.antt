-- The nodes that binds select go with a renumbering.
use Rattle.std.proofs.Common.{◌≡◌, ℕ, ◌==◌, List, [], ◌∷◌, map, find, Option, Some, None, option_map, refl, sym, ap, ◌∙◌}
use Rattle.std.specs.Prelude.{get_or}
use Rattle.std.specs.List.{flat_map}
use Rattle.std.proofs.lemmas.List.{map-append}
use Rattle.xf_def_forest.specs.declared.content.Content.{Content}
use Rattle.xf_def_forest.specs.declared.content.Content.TheVariants.{Root, Element, Attribute, Text}
use Rattle.xf_def_forest.specs.Visit.{Visit, first_of}
use Rattle.xf_def_forest.specs.Shape.{erased}
use Rattle.xf_def_forest.specs.StringValue.{string_value}
use Rattle.xf_def_forest.specs.Same.{IsRenumbering, renumbered_visit}
use Rattle.xf_def_forest.proofs.RenumberLaws.{children_of-renumbered, string_value-renumbered}
use Rattle.xf_def_syntax.specs.declared.expr.Expr.{Expr}
use Rattle.xf_def_xpath.specs.Given.{first_document}
use Rattle.xf_def_xpath.specs.Setting.{Setting, Focus, ◌>>=◌, each, in_order, joined}
use Rattle.xf_def_xpath.specs.Conversions.{nodes_of}
use Rattle.xf_def_xpath.specs.Binding.{as_list, stand_in, stand_ins, first_bound, bound_nodes}
use Rattle.xf_def_xpath.specs.Asked.{Trace}
use Rattle.xf_def_xpath.specs.Reads.{trace, reads_in, looks_in}
use Rattle.xf_def_xpath.specs.Same.{renumbered_value, renumbered_focus, renumbered_setting, HasStrings}
use Rattle.xf_def_xpath.proofs.Options.{then-through, map-through, each-through}
use Rattle.xf_def_xpath.proofs.RenumberLaws.{in_order-renumbered, found-renumbered, flat-renumbered, joined-renumbered, nodes-renumbered}
use Rattle.xf_def_xpath.proofs.RenumberValues.{Renumbers, document_of-renumbered}
use Rattle.xf_def_xpath.proofs.RenumberReads.{trace-renumbered, reads-renumbered, looks-renumbered}
use Rattle.xf_def_model.specs.Rules.{Rule, Scope, scope_of_bind, chain_around, chains}
use Rattle.xf_def_model.specs.Nested.{alone, setting_for, set_from, reached_through, begun, sets_of, nested}
use Rattle.xf_def_model.specs.Submitted.{first_from}
use Rattle.xf_def_model.specs.Pertinent.{AllOf}
use Rattle.xf_def_model.specs.Same.{renumbered_scope}

-- ---- expressions that go with a renumbering: all do

pub record TraceGoes (f : ℕ → ℕ) (t : Trace) : Type 0 where
  pub meaning : Renumbers f t.meaning
  pub reads : (s : Setting) (strings : ℕ → List ℕ) → HasStrings f strings s → (c : Focus) → reads_in t (renumbered_setting f strings s) (renumbered_focus f c) ≡ map f (reads_in t s c)
  pub looks : (s : Setting) (strings : ℕ → List ℕ) → HasStrings f strings s → (c : Focus) → looks_in t (renumbered_setting f strings s) (renumbered_focus f c) ≡ map f (looks_in t s c)

pub trace-goes : (f : ℕ → ℕ) → IsRenumbering f → (expr : Expr) → TraceGoes f (trace expr)
trace-goes f same expr = record {
  meaning = (trace-renumbered f same expr).meaning;
  reads = reads-renumbered f same expr;
  looks = looks-renumbered f same expr;
}

-- ---- lists made of lists

pub flat-goes : {A A' B B' : Type 0} (g : A → A') (h : B → B') (k : A → List B) (k' : A' → List B') → ((a : A) → k' (g a) ≡ map h (k a)) → (xs : List A) → flat_map k' (map g xs) ≡ map h (flat_map k xs)
flat-goes g h k k' e [] = refl
flat-goes g h k k' e (x ∷ xs) = rw (e x, flat-goes g h k k' e xs) (sym (map-append h (k x) (flat_map k xs)))

module _ (f : ℕ → ℕ) (same : IsRenumbering f) where
  -- ---- what a binding selects

  as_list-renumbered : (n : Option ℕ) → as_list (option_map f n) ≡ map f (as_list n)
  as_list-renumbered None = refl
  as_list-renumbered (Some n) = refl

  first-of_renumbered : (ns : List ℕ) → first_of (map f ns) ≡ option_map f (first_of ns)
  first-of_renumbered [] = refl
  first-of_renumbered (n ∷ ns) = refl

  stand_in-renumbered : (all : List Visit) (x : Visit) (content : Content) → stand_in (map (renumbered_visit f) all) (renumbered_visit f x) content ≡ map f (stand_in all x content)
  stand_in-renumbered all x Root = children_of-renumbered f same x.number all
  stand_in-renumbered all x (Element name) = refl
  stand_in-renumbered all x (Attribute name text) = refl
  stand_in-renumbered all x (Text text) = ap as_list (first-of_renumbered x.above) ∙ as_list-renumbered (first_of x.above)

  stand_ins-renumbered : (all : List Visit) (x : Option Visit) → stand_ins (map (renumbered_visit f) all) (option_map (renumbered_visit f) x) ≡ map f (stand_ins all x)
  stand_ins-renumbered all None = refl
  stand_ins-renumbered all (Some x) = stand_in-renumbered all x x.content

  pub first_bound-renumbered : (all : List Visit) (ns : List ℕ) → first_bound (map (renumbered_visit f) all) (map f ns) ≡ map f (first_bound all ns)
  first_bound-renumbered all [] = refl
  first_bound-renumbered all (n ∷ ns) =
      ap (stand_ins (map (renumbered_visit f) all)) (found-renumbered f same n all) ∙ stand_ins-renumbered all (find (λ x. x.number == n) all)

  pub bound-renumbered : (all : List Visit) (ns : List ℕ) → bound_nodes (map (renumbered_visit f) all) (map f ns) ≡ map f (bound_nodes all ns)
  bound-renumbered all ns =
      ap (in_order (map (renumbered_visit f) all))
      (flat-renumbered f (λ n. stand_ins all (find (λ x. x.number == n) all)) (λ n. stand_ins (map (renumbered_visit f) all) (find (λ x. x.number == n) (map (renumbered_visit f) all)))
      (λ n. ap (stand_ins (map (renumbered_visit f) all)) (found-renumbered f same n all) ∙ stand_ins-renumbered all (find (λ x. x.number == n) all)) ns)
      ∙ in_order-renumbered f same all (flat_map (λ n. stand_ins all (find (λ x. x.number == n) all)) ns)

  -- ---- settings

  erased-renumbered : (all : List Visit) → map erased (map (renumbered_visit f) all) ≡ map (renumbered_visit f) (map erased all)
  erased-renumbered [] = refl
  erased-renumbered (x ∷ xs) = ap (λ l. erased (renumbered_visit f x) ∷ l) (erased-renumbered xs)

  module _ (most : Option ℕ) (scope : Scope) (all : List Visit) where
    abbrev pub others : List Visit
    others = map (renumbered_visit f) all

    abbrev pub new_strings : ℕ → List ℕ
    new_strings n = string_value n others

    pub setting-renumbered : (n : ℕ) → setting_for most (renumbered_scope f scope) others (f n) ≡ renumbered_setting f new_strings (setting_for most scope all n)
    setting-renumbered n =
        ap (λ l. record (renumbered_setting f new_strings (setting_for most scope all n)) { all = l }) (erased-renumbered all)

    pub strings-kept : (n : ℕ) → HasStrings f new_strings (setting_for most scope all n)
    strings-kept n m = string_value-renumbered f same m all

    -- ---- node sets

    pub set-renumbered : (t : Trace) → TraceGoes f t → (n : ℕ) → set_from most (renumbered_scope f scope) others t (f n) ≡ option_map (map f) (set_from most scope all t n)
    set-renumbered t goes n =
        ap (λ s. option_map (λ v. bound_nodes others (nodes_of v)) (t.meaning s (alone (f n)))) (setting-renumbered n)
        ∙ ap (option_map (λ v. bound_nodes others (nodes_of v))) (goes.meaning (setting_for most scope all n) new_strings (strings-kept n) (alone n))
        ∙ map-through (renumbered_value f) (map f) (t.meaning (setting_for most scope all n) (alone n)) (λ v. bound_nodes all (nodes_of v)) (λ v. bound_nodes others (nodes_of v))
        (λ v. ap (bound_nodes others) (nodes-renumbered f v) ∙ bound-renumbered all (nodes_of v))

    pub first-renumbered : (t : Trace) → TraceGoes f t → (n : ℕ) → first_from most (renumbered_scope f scope) others t (f n) ≡ option_map (map f) (first_from most scope all t n)
    first-renumbered t goes n =
        ap (λ s. option_map (λ v. first_bound others (nodes_of v)) (t.meaning s (alone (f n)))) (setting-renumbered n)
        ∙ ap (option_map (λ v. first_bound others (nodes_of v))) (goes.meaning (setting_for most scope all n) new_strings (strings-kept n) (alone n))
        ∙ map-through (renumbered_value f) (map f) (t.meaning (setting_for most scope all n) (alone n)) (λ v. first_bound all (nodes_of v)) (λ v. first_bound others (nodes_of v))
        (λ v. ap (first_bound others) (nodes-renumbered f v) ∙ first_bound-renumbered all (nodes_of v))

    pub through-renumbered : (ts : List Trace) → AllOf (TraceGoes f) ts → (ns : List ℕ)
        → reached_through most (renumbered_scope f scope) others ts (map f ns) ≡ option_map (map f) (reached_through most scope all ts ns)
    through-renumbered [] goes ns = refl
    through-renumbered (t ∷ ts) goes ns =
        ap (λ m. m >>= λ sets. reached_through most (renumbered_scope f scope) others ts (in_order others (joined sets)))
        (each-through f (map f) (set_from most scope all t) (set_from most (renumbered_scope f scope) others t) (set-renumbered t goes.0) ns)
        ∙ then-through (map (map f)) (map f) (each (set_from most scope all t) ns) (λ sets. reached_through most scope all ts (in_order all (joined sets)))
        (λ sets. reached_through most (renumbered_scope f scope) others ts (in_order others (joined sets)))
        (λ sets. ap (reached_through most (renumbered_scope f scope) others ts) (ap (in_order others) (joined-renumbered f sets) ∙ in_order-renumbered f same all (joined sets))
        ∙ through-renumbered ts goes.1 (in_order all (joined sets)))

    pub begun-renumbered : begun (renumbered_scope f scope) ≡ map f (begun scope)
    begun-renumbered = ap as_list (document_of-renumbered f scope.model [] scope.given.documents) ∙ as_list-renumbered (first_document scope.model scope.given.documents)

    pub sets-renumbered : (r : Rule) → AllOf (TraceGoes f) (chain_around (chains scope) r.around) → TraceGoes f r.node_set
        → sets_of most (renumbered_scope f scope) others r ≡ option_map (map (map f)) (sets_of most scope all r)
    sets-renumbered r around own =
        ap (λ ns. reached_through most (renumbered_scope f scope) others (chain_around (chains scope) r.around) ns >>= each (set_from most (renumbered_scope f scope) others r.node_set)) begun-renumbered
        ∙ ap (λ m. m >>= each (set_from most (renumbered_scope f scope) others r.node_set)) (through-renumbered (chain_around (chains scope) r.around) around (begun scope))
        ∙ then-through (map f) (map (map f)) (reached_through most scope all (chain_around (chains scope) r.around) (begun scope))
        (each (set_from most scope all r.node_set)) (each (set_from most (renumbered_scope f scope) others r.node_set))
        (λ ns. each-through f (map f) (set_from most scope all r.node_set) (set_from most (renumbered_scope f scope) others r.node_set) (set-renumbered r.node_set own) ns)

  pub nested-renumbered : (most : Option ℕ) (scope : Scope) (all : List Visit) (bind : ℕ) → AllOf (TraceGoes f) (get_or (chains scope) bind [])
      → nested most (renumbered_scope f scope) (map (renumbered_visit f) all) bind ≡ option_map (map f) (nested most scope all bind)
  nested-renumbered most scope all bind goes =
      let own = scope_of_bind scope bind in
      ap (reached_through most (renumbered_scope f own) (map (renumbered_visit f) all) (get_or (chains scope) bind [])) (begun-renumbered most own all)
      ∙ through-renumbered most own all (get_or (chains scope) bind []) goes (begun own)

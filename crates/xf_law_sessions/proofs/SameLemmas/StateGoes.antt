-- What surrounds the expressions of a state, the elements of its form, and the properties of its nodes go with a renumbering.
use Rattle.std.proofs.Common.{◌≡◌, ℕ, zero, suc, not, List, [], ◌∷◌, ◌++◌, map, get_or, slice_get, Option, Some, None, option_map, refl, sym, ap, ◌∙◌, subst}
use Rattle.std.specs.List.{flat_map}
use Rattle.std.proofs.lemmas.List.{map-append}
use Rattle.xf_def_syntax.specs.declared.element.Binding.{Binding}
use Rattle.xf_def_syntax.specs.declared.element.Binding.TheVariants as binding
use Rattle.xf_def_syntax.specs.declared.element.Control.{Control}
use Rattle.xf_def_syntax.specs.declared.element.Control.TheVariants as control
use Rattle.xf_def_syntax.specs.declared.element.Element as written
use Rattle.xf_def_syntax.specs.declared.element.Kind.{Kind}
use Rattle.xf_def_syntax.specs.declared.element.Kind.TheVariants as kind
use Rattle.xf_def_syntax.specs.declared.expr.Expr.{Expr}
use Rattle.xf_def_syntax.specs.declared.form.Selection.{Selection}
use Rattle.xf_def_syntax.specs.declared.form.Selection.TheVariants as selection
use Rattle.xf_def_syntax.specs.declared.form.Submission.{Submission}
use Rattle.xf_def_syntax.specs.declared.form.Tables.{Tables}
use Rattle.xf_def_forest.specs.Same.{IsRenumbering, renumbered, renumbered_visit}
use Rattle.xf_def_forest.specs.Visit.{visits, has}
use Rattle.xf_def_forest.proofs.RenumberLaws.{any-through, has-renumbered, visits-renumbered}
use Rattle.xf_def_xpath.specs.Given.{Given}
use Rattle.xf_def_xpath.specs.Meaning.{meaning}
use Rattle.xf_def_xpath.specs.Same.{renumbered_property}
use Rattle.xf_def_xpath.proofs.RenumberValues.{meaning-renumbered}
use Rattle.xf_def_model.specs.Nested.{nested}
use Rattle.xf_def_model.specs.Properties.{is_relevant, is_readonly, is_required}
use Rattle.xf_def_model.specs.Rules.{Scope, chains}
use Rattle.xf_def_model.specs.Same.{renumbered_scope, renumbered_valued}
use Rattle.xf_def_model.proofs.RenumberApplied.{got, all-chains_go}
use Rattle.xf_def_model.proofs.RenumberBinds.{nested-renumbered}
use Rattle.xf_def_model.proofs.RenumberEntries.{sets-go}
use Rattle.xf_def_model.proofs.RenumberProperties.{is_relevant-renumbered, is_readonly-renumbered, is_required-renumbered}
use Rattle.xf_def_ui.specs.Elements.{element_at, no_element}
use Rattle.xf_def_ui.specs.Interface.{Interface, bound_of, selected_of, sent_of, binding_of, sort_of_control, sort_of, element_of}
use Rattle.xf_def_machine.specs.Profile.{Profile}
use Rattle.xf_def_machine.specs.State.{Model, State}
use Rattle.xf_def_machine.specs.Surround.{Told, all_in, bind_scope, around}
use Rattle.xf_def_machine.specs.Properties.{values_of, values_in, relevant_in, readonly_in, valid_in, marks_in}
use Rattle.xf_def_machine.specs.Same.{renumbered_model}
use Rattle.xf_law_sessions.specs.Same.Going.{image}
use Rattle.xf_law_sessions.specs.Same.Behaving.{HasTables}
use Rattle.xf_law_sessions.specs.Same.Controls.{GoesAround, HasForm}
use Rattle.xf_law_sessions.proofs.SameLemmas.ScopeGoes.{scope-is, bind_scope-is, rules-go}
use Rattle.xf_law_sessions.proofs.SameLemmas.RevalidateGoes.{values-go}
use Rattle.xf_law_sessions.proofs.SameLemmas.AroundGoes.{BoundGoes}
use Rattle.xf_law_sessions.proofs.SameLemmas.LabelsGo.{MeaningGoes, SortGoes, ElementGoes}

-- ---- the elements of a form

module _ (f : ℕ → ℕ) (same : IsRenumbering f) where
  meaning-goes : (o : Option Expr) → MeaningGoes f (option_map meaning o)
  meaning-goes None = tt
  meaning-goes (Some expr) = meaning-renumbered f same expr

  bound-goes : (b : Binding) → BoundGoes f (bound_of b)
  bound-goes binding.Absent = tt
  bound-goes (binding.Nodes expr) = meaning-renumbered f same expr
  bound-goes (binding.Bind k) = tt

  selected-goes : (s : Selection) → BoundGoes f (selected_of s)
  selected-goes selection.Whole = tt
  selected-goes (selection.Ref expr) = meaning-renumbered f same expr
  selected-goes (selection.Bind k) = tt

  sent-goes : (o : Option Submission) → BoundGoes f (sent_of o)
  sent-goes None = tt
  sent-goes (Some s) = selected-goes s.selection

  binding-goes : (tables : Tables) (k : Kind) (b : Binding) → BoundGoes f (binding_of tables k b)
  binding-goes tables (kind.Submission k) b = sent-goes (slice_get tables.submissions k)
  binding-goes tables k b = bound-goes b

  control-goes : (c : Control) → SortGoes f (sort_of_control c)
  control-goes (control.Output expr) = meaning-goes expr
  control-goes control.Group = tt
  control-goes (control.Switch k) = tt
  control-goes (control.Case is_selected) = tt
  control-goes (control.Repeat k start) = tt
  control-goes control.Input = tt
  control-goes control.Secret = tt
  control-goes control.Textarea = tt
  control-goes (control.Select is_free) = tt
  control-goes (control.SelectOne is_free) = tt
  control-goes control.Trigger = tt
  control-goes (control.Submit k) = tt

  sort-goes : (k : Kind) → SortGoes f (sort_of k)
  sort-goes kind.Host = tt
  sort-goes (kind.Model k) = tt
  sort-goes (kind.Instance k) = tt
  sort-goes (kind.Bind k) = tt
  sort-goes (kind.Submission k) = tt
  sort-goes (kind.Control place c) = control-goes c
  sort-goes kind.Item = tt
  sort-goes kind.Itemset = tt
  sort-goes kind.Choices = tt
  sort-goes kind.Label = tt
  sort-goes (kind.Value expr) = meaning-goes expr
  sort-goes (kind.Output expr) = meaning-goes expr
  sort-goes (kind.Action a) = tt

  element-goes : (tables : Tables) (e : written.Element) → ElementGoes f (element_of tables e)
  element-goes tables e = record { binding = binding-goes tables e.kind e.binding; sort = sort-goes e.kind }

  at-goes : (tables : Tables) (es : List written.Element) (n : ℕ) → ElementGoes f (get_or (map (element_of tables) es) n no_element)
  at-goes tables [] zero = record { binding = tt; sort = tt }
  at-goes tables [] (suc n) = record { binding = tt; sort = tt }
  at-goes tables (e ∷ es) zero = element-goes tables e
  at-goes tables (e ∷ es) (suc n) = at-goes tables es n

  pub elements-go : (s : State) → HasForm s.form → (n : ℕ) → ElementGoes f (element_at s.form.interface n)
  elements-go s h n = subst (λ (i : Interface). ElementGoes f (element_at i n)) (sym h.interface) (at-goes h.form.tables h.form.elements n)

-- ---- what surrounds expressions

pub tables-of : (s : State) → HasForm s.form → HasTables s.form
tables-of s h = (h.form.tables, h.rules)

module _ (p : Profile) (f : ℕ → ℕ) (same : IsRenumbering f) (second : ℕ) (s : State) (h : HasForm s.form) where
  nested-goes : (k : ℕ) → nested (Some p.bounds.string) (bind_scope p (image f second s) 0) (visits (map (renumbered f) s.forest.nodes)) k
      ≡ option_map (map f) (nested (Some p.bounds.string) (bind_scope p s 0) (all_in s) k)
  nested-goes k =
      let sc = bind_scope p s 0 in
      let most : Option ℕ = Some p.bounds.string in
      ap (λ x. nested most x (visits (map (renumbered f) s.forest.nodes)) k) (bind_scope-is f same second s p 0)
      ∙ ap (λ v. nested most (renumbered_scope f sc) v k) (visits-renumbered f same s.forest.nodes)
      ∙ nested-renumbered f same most sc (all_in s) k (got f (chains sc) k (all-chains_go f sc (sets-go f s.form.rules (rules-go p f same s (tables-of s h) 0))))

  pub around-goes : (told : Option Told) → GoesAround f (around p s told) (around p (image f second s) (option_map (map (renumbered_property f)) told))
  around-goes told = record {
    functions = refl;
    most = refl;
    given = ap {A = Scope} {B = Given} (λ x. record x.given { event = option_map (map (renumbered_property f)) told }) (scope-is f same second s p 0);
    all = visits-renumbered f same s.forest.nodes;
    bound = nested-goes;
  }

-- ---- the properties of nodes

module _ (f : ℕ → ℕ) (same : IsRenumbering f) (second : ℕ) (s : State) where
  all-values : (ms : List Model) → flat_map values_of (map (renumbered_model f) ms) ≡ map (renumbered_valued f) (flat_map values_of ms)
  all-values [] = refl
  all-values (m ∷ ms) =
      ap (λ l. l ++ flat_map values_of (map (renumbered_model f) ms)) (values-go f same m) ∙ ap (λ l. map (renumbered_valued f) (values_of m) ++ l) (all-values ms)
      ∙ sym (map-append (renumbered_valued f) (values_of m) (flat_map values_of ms))

  pub relevant-goes : (n : ℕ) → relevant_in (image f second s) (f n) ≡ relevant_in s n
  relevant-goes n =
      ap (λ v. is_relevant v (values_in (image f second s)) (f n)) (visits-renumbered f same s.forest.nodes)
      ∙ ap (λ vs. is_relevant (map (renumbered_visit f) (all_in s)) vs (f n)) (all-values s.models) ∙ is_relevant-renumbered f same (values_in s) (all_in s) n

  pub readonly-goes : (n : ℕ) → readonly_in (image f second s) (f n) ≡ readonly_in s n
  readonly-goes n =
      ap (λ v. is_readonly v (values_in (image f second s)) (f n)) (visits-renumbered f same s.forest.nodes)
      ∙ ap (λ vs. is_readonly (map (renumbered_visit f) (all_in s)) vs (f n)) (all-values s.models) ∙ is_readonly-renumbered f same (values_in s) (all_in s) n

  required-goes : (n : ℕ) → is_required (values_in (image f second s)) (f n) ≡ is_required (values_in s) n
  required-goes n = ap (λ vs. is_required vs (f n)) (all-values s.models) ∙ is_required-renumbered f same (values_in s) n

  pub valid-goes : (n : ℕ) → valid_in (image f second s) (f n) ≡ valid_in s n
  valid-goes n = ap not (any-through (renumbered_model f) (λ m. has (f n) m.invalid) (λ m. has n m.invalid) (λ m. has-renumbered f same n m.invalid) s.models)

  pub marks-go : (n : ℕ) → marks_in (image f second s) (f n) ≡ marks_in s n
  marks-go n = rw (relevant-goes n, readonly-goes n, required-goes n, valid-goes n) refl

-- The value of an entry, what it reads and what it looks at go with a renumbering of the nodes.
use Rattle.std.proofs.Common.{◌≡◌, ℕ, zero, suc, List, [], ◌∷◌, map, Option, Some, None, option_map, refl, ap, ◌∙◌}
use Rattle.std.specs.Prelude.{⊤, option_and_then, slice_get}
use Rattle.std.specs.List.{list_any}
use Rattle.xf_def_syntax.specs.declared.expr.Expr.{Expr}
use Rattle.xf_def_syntax.specs.declared.form.Bind.{Bind}
use Rattle.xf_def_syntax.specs.declared.form.Tables.{Tables}
use Rattle.xf_def_forest.specs.Visit.{Visit, has, ancestors_of}
use Rattle.xf_def_forest.specs.Same.{IsRenumbering, renumbered_visit}
use Rattle.xf_def_forest.proofs.RenumberLaws.{ancestors-renumbered}
use Rattle.xf_def_xpath.specs.Given.{Given}
use Rattle.xf_def_values.specs.Functions.{Functions}
use Rattle.xf_def_xpath.specs.Setting.{◌>>=◌}
use Rattle.xf_def_xpath.specs.Conversions.{string_of}
use Rattle.xf_def_xpath.specs.Reads.{reads_in, looks_in}
use Rattle.xf_def_xpath.specs.Same.{renumbered_value, renumbered_setting}
use Rattle.xf_def_xpath.proofs.Options.{then-kept}
use Rattle.xf_def_xpath.proofs.RenumberLaws.{string_of-renumbered}
use Rattle.xf_def_model.specs.declared.property.Property.{Property}
use Rattle.xf_def_model.specs.declared.property.Property.TheVariants.{Kind, Calculate, Relevant, Readonly, Required, Constraint}
use Rattle.xf_def_model.specs.Rules.{Rule, Computed, Scope, computed_of, rule_of, scope_of}
use Rattle.xf_def_model.specs.Nested.{setting_for}
use Rattle.xf_def_model.specs.Applied.{Entry}
use Rattle.xf_def_model.specs.Entries.{expression_in, expression_of, focus_of, value_by, value_of, text_of, reads_by, looks_by, reads_of, looks_of, touches}
use Rattle.xf_def_model.specs.Pertinent.{AllOf}
use Rattle.xf_def_model.specs.Same.{renumbered_entry, renumbered_scope}
use Rattle.xf_def_model.proofs.RenumberBinds.{TraceGoes, trace-goes, setting-renumbered, strings-kept, new_strings}
use Rattle.xf_def_model.proofs.RenumberPlaces.{any_in-renumbered}

-- ---- rules that go with a renumbering: all do

abbrev pub ExpressionGoes : (ℕ → ℕ) → Option Computed → Type 0
ExpressionGoes f None = ⊤
ExpressionGoes f (Some x) = TraceGoes f x.trace

pub record RuleGoes (f : ℕ → ℕ) (r : Rule) : Type 0 where
  pub set : TraceGoes f r.node_set
  pub expressions : (p : Property) → ExpressionGoes f (expression_in r p)

abbrev pub ScopeGoes : (ℕ → ℕ) → Scope → Type 0
ScopeGoes f scope = AllOf (RuleGoes f) scope.rules

pub sets-go : (f : ℕ → ℕ) (rs : List Rule) → AllOf (RuleGoes f) rs → AllOf (λ r. TraceGoes f r.node_set) rs
sets-go f [] h = tt
sets-go f (r ∷ rs) h = (h.0.set, sets-go f rs h.1)

computed-goes : (f : ℕ → ℕ) → IsRenumbering f → (expr : Option Expr) → ExpressionGoes f (option_map computed_of expr)
computed-goes f same None = tt
computed-goes f same (Some expr) = trace-goes f same expr

expressions-go : (f : ℕ → ℕ) → IsRenumbering f → (bind : Bind) (p : Property) → ExpressionGoes f (expression_in (rule_of bind) p)
expressions-go f same bind Kind = tt
expressions-go f same bind Calculate = computed-goes f same bind.properties.calculate
expressions-go f same bind Relevant = computed-goes f same bind.properties.relevant
expressions-go f same bind Readonly = computed-goes f same bind.properties.readonly
expressions-go f same bind Required = computed-goes f same bind.properties.required
expressions-go f same bind Constraint = computed-goes f same bind.properties.constraint

rules-go : (f : ℕ → ℕ) → IsRenumbering f → (binds : List Bind) → AllOf (RuleGoes f) (map rule_of binds)
rules-go f same [] = tt
rules-go f same (bind ∷ binds) = (record { set = trace-goes f same bind.node_set; expressions = expressions-go f same bind }, rules-go f same binds)

-- those of a form
pub scope-goes : (f : ℕ → ℕ) → IsRenumbering f → (functions : Functions) (given : Given) (tables : Tables) (model : ℕ) → ScopeGoes f (scope_of functions given tables model)
scope-goes f same functions given tables model = rules-go f same tables.binds

expression-at : (f : ℕ → ℕ) (rs : List Rule) (k : ℕ) (p : Property) → AllOf (RuleGoes f) rs → ExpressionGoes f (option_and_then (λ r. expression_in r p) (slice_get rs k))
expression-at f [] k p h = tt
expression-at f (r ∷ rs) zero p h = h.0.expressions p
expression-at f (r ∷ rs) (suc k) p h = expression-at f rs k p h.1

pub expression-goes : (f : ℕ → ℕ) (scope : Scope) → ScopeGoes f scope → (e : Entry) → ExpressionGoes f (expression_of scope e)
expression-goes f scope h e = expression-at f scope.rules e.bind e.property h

-- ---- entries

module _ (f : ℕ → ℕ) (same : IsRenumbering f) (scope : Scope) (goes : ScopeGoes f scope) where
  module _ (all : List Visit) where
    abbrev others : List Visit
    others = map (renumbered_visit f) all

    value-by_expression : (most : Option ℕ) (e : Entry) (x : Option Computed) → ExpressionGoes f x
        → value_by most (renumbered_scope f scope) others (renumbered_entry f e) x ≡ option_map (renumbered_value f) (value_by most scope all e x)
    value-by_expression most e None h = refl
    value-by_expression most e (Some x) h =
        ap (λ s. x.trace.meaning s (focus_of (renumbered_entry f e))) (setting-renumbered f same most scope all e.node)
        ∙ h.meaning (setting_for most scope all e.node) (new_strings f same most scope all) (strings-kept f same most scope all e.node) (focus_of e)

    pub value-renumbered : (most : Option ℕ) (e : Entry) → value_of most (renumbered_scope f scope) others (renumbered_entry f e) ≡ option_map (renumbered_value f) (value_of most scope all e)
    value-renumbered most e = value-by_expression most e (expression_of scope e) (expression-goes f scope goes e)

    pub text-renumbered : (most : Option ℕ) (e : Entry) → text_of most (renumbered_scope f scope) others (renumbered_entry f e) ≡ text_of most scope all e
    text-renumbered most e =
        ap (λ v. v >>= string_of (setting_for most (renumbered_scope f scope) others (f e.node))) (value-renumbered most e)
        ∙ ap (λ s. option_map (renumbered_value f) (value_of most scope all e) >>= string_of s) (setting-renumbered f same most scope all e.node)
        ∙ then-kept (renumbered_value f) (value_of most scope all e) (string_of (setting_for most scope all e.node))
        (string_of (renumbered_setting f (new_strings f same most scope all) (setting_for most scope all e.node)))
        (string_of-renumbered f same (setting_for most scope all e.node) (new_strings f same most scope all) (strings-kept f same most scope all e.node))

    reads-by_expression : (e : Entry) (x : Option Computed) → ExpressionGoes f x → reads_by (renumbered_scope f scope) others (renumbered_entry f e) x ≡ map f (reads_by scope all e x)
    reads-by_expression e None h = refl
    reads-by_expression e (Some x) h =
        ap (λ s. reads_in x.trace s (focus_of (renumbered_entry f e))) (setting-renumbered f same None scope all e.node)
        ∙ h.reads (setting_for None scope all e.node) (new_strings f same None scope all) (strings-kept f same None scope all e.node) (focus_of e)

    pub reads-renumbered : (e : Entry) → reads_of (renumbered_scope f scope) others (renumbered_entry f e) ≡ map f (reads_of scope all e)
    reads-renumbered e = reads-by_expression e (expression_of scope e) (expression-goes f scope goes e)

    looks-by_expression : (e : Entry) (x : Option Computed) → ExpressionGoes f x → looks_by (renumbered_scope f scope) others (renumbered_entry f e) x ≡ map f (looks_by scope all e x)
    looks-by_expression e None h = refl
    looks-by_expression e (Some x) h =
        ap (λ s. looks_in x.trace s (focus_of (renumbered_entry f e))) (setting-renumbered f same None scope all e.node)
        ∙ h.looks (setting_for None scope all e.node) (new_strings f same None scope all) (strings-kept f same None scope all e.node) (focus_of e)

    pub looks-renumbered : (e : Entry) → looks_of (renumbered_scope f scope) others (renumbered_entry f e) ≡ map f (looks_of scope all e)
    looks-renumbered e = looks-by_expression e (expression_of scope e) (expression-goes f scope goes e)

pub touches-renumbered : (f : ℕ → ℕ) → IsRenumbering f → (all : List Visit) (reads : List ℕ) (n : ℕ) → touches (map (renumbered_visit f) all) (map f reads) (f n) ≡ touches all reads n
touches-renumbered f same all reads n =
    ap (λ above. list_any (λ m. has m (map f reads)) (f n ∷ above)) (ancestors-renumbered f same n all)
    ∙ any_in-renumbered f same reads (n ∷ ancestors_of n all)

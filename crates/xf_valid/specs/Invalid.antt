-- The nodes of a model's instances that are not valid (XForms 1.1, section 4.3.3).
use Rattle.std.specs.Prelude.{ℕ, Bool, false, not, ◌&&◌, List, map, filter, Option, Some, None, option_map, option_and_then, slice_get, ◌==◌}
use Rattle.xf_schema.specs.declared.written.Restriction.{Restriction}
use Rattle.xf_schema.specs.Facets.{is_of_type}
use Rattle.xf_def_syntax.specs.declared.form.Instance.{Instance}
use Rattle.xf_def_forest.specs.declared.content.Node.{Node}
use Rattle.xf_def_forest.specs.Visit.{visits, top_of}
use Rattle.xf_def_forest.specs.Order.{instance_of}
use Rattle.xf_def_model.specs.Rules.{Scope}
use Rattle.xf_def_model.specs.Properties.{is_valid}
use Rattle.xf_binds.specs.Kept.{Kept, values_of}

abbrev pub is_model : ℕ → Option ℕ → Bool
is_model model None = false
is_model model (Some other) = model == other

-- the model of the instance with this root; a detached tree has none
abbrev pub model_of : List Instance → List Node → ℕ → Option ℕ
model_of instances nodes root = option_and_then (λ k. option_map (λ i. i.model) (slice_get instances k)) (instance_of root nodes)

-- the node stands in an instance of the model
abbrev pub is_held : List Instance → ℕ → List Node → ℕ → Bool
is_held instances model nodes n = is_model model (model_of instances nodes (top_of n (visits nodes)))

abbrev pub is_invalid : List Restriction → Scope → List Instance → List Node → Kept → ℕ → Bool
is_invalid types scope instances nodes k n =
    is_held instances scope.model nodes n && not (is_valid (is_of_type types) scope (visits nodes) k.entries (values_of k) n)

-- in document order
abbrev pub invalid_in : List Restriction → Scope → List Instance → List Node → Kept → List ℕ
invalid_in types scope instances nodes k = map (λ x. x.number) (filter (λ x. is_invalid types scope instances nodes k x.number) (visits nodes))

abbrev pub revalidated : List Restriction → Scope → List Instance → List Node → Kept → Kept
revalidated types scope instances nodes k = record k { invalid = invalid_in types scope instances nodes k }

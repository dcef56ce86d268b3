-- The properties of the nodes of a state (XForms 1.1, section 6.1), by the values of the last recalculation and the validity that the last
-- revalidation found; and the paths of nodes.
use Rattle.std.specs.Prelude.{ℕ, suc, Bool, not, ◌&&◌, List, [], ◌++◌, map, filter, find, take, count_by, codes, decimal, Option, Some, None, option_and_then, ◌==◌, if◌then◌else◌}
use Rattle.std.specs.List.{flat_map, list_any}
use Rattle.xf_def_forest.specs.Visit.{has}
use Rattle.xf_def_forest.specs.Path.{path_of}
use Rattle.xf_def_model.specs.Applied.{Entry}
use Rattle.xf_def_model.specs.Entries.{is_computed}
use Rattle.xf_def_model.specs.Settled.{Valued}
use Rattle.xf_def_model.specs.Pertinent.{is_same}
use Rattle.xf_def_model.specs.Properties.{is_relevant, is_readonly, is_required}
use Rattle.xf_def_ui.specs.declared.marks.Marks.{Marks}
use Rattle.xf_def_machine.specs.State.{Model, State}
use Rattle.xf_def_machine.specs.Surround.{all_in, instances_in, instance_holding, model_of_instance}

-- ---- values

-- the value that an entry had, where it stood; its position and size do not count
abbrev pub value_from : List Valued → Entry → Valued
value_from stood e = record { entry = e; value = option_and_then (λ v. v.value) (find (λ v. is_same e v.entry) stood) }

-- of the present entries; those that came with a rebuild have none yet
abbrev pub values_of : Model → List Valued
values_of m = map (value_from m.stood) (filter is_computed m.entries)

-- those of all models
abbrev pub values_in : State → List Valued
values_in s = flat_map values_of s.models

-- ---- properties

-- the node is relevant
abbrev pub relevant_in : State → ℕ → Bool
relevant_in s n = is_relevant (all_in s) (values_in s) n

-- the node is readonly
abbrev pub readonly_in : State → ℕ → Bool
readonly_in s n = is_readonly (all_in s) (values_in s) n

-- a node that was attached since the last revalidation is valid
abbrev pub valid_in : State → ℕ → Bool
valid_in s n = not (list_any (λ m. has n m.invalid) s.models)

-- the four properties of a node
abbrev pub marks_in : State → ℕ → Marks
marks_in s n = record {
  relevant = relevant_in s n;
  readonly = readonly_in s n;
  required = is_required (values_in s) n;
  valid = valid_in s n;
}

-- the nodes under which nothing is inserted or deleted
abbrev pub closed_in : State → List ℕ
closed_in s = filter (readonly_in s) (map (λ x. x.number) (all_in s))

-- ---- paths

-- an instance by its model and its place among the instances of that, both from 1
abbrev pub pair_of : State → ℕ → ℕ → ℕ × ℕ
pair_of s place model = (suc model, suc (count_by (λ i. i.model == model) (take place (instances_in s))))

-- the two numbers with a point between
abbrev pub pair_text : ℕ × ℕ → List ℕ
pair_text pair = decimal pair.0 ++ codes "." ++ decimal pair.1

-- before a path in another instance than the first of the first model
abbrev pub braced : ℕ × ℕ → List ℕ
braced pair = if (pair.0 == 1) && (pair.1 == 1) then [] else codes "{" ++ pair_text pair ++ codes "}"

-- of an instance that is none, as of the first one
abbrev pub pair_by : State → ℕ → Option ℕ → ℕ × ℕ
pair_by s place None = (1, 1)
pair_by s place (Some model) = pair_of s place model

-- of the instance at this place
abbrev pub pair_at : State → ℕ → ℕ × ℕ
pair_at s place = pair_by s place (model_of_instance s place)

-- a detached tree has no instance
abbrev pub before_path : State → Option ℕ → List ℕ
before_path s None = []
before_path s (Some place) = braced (pair_at s place)

-- the path of a node, with its instance before it
abbrev pub path_in : State → ℕ → List ℕ
path_in s n = before_path s (instance_holding s n) ++ path_of n (all_in s)

-- The lines of an instance, by what they are made of.
use Rattle.std.specs.Prelude.{ℕ, ◌≡◌, Bool, false, List, [], ◌∷◌, ◌++◌, map, filter, codes, Option, Some, None, if◌then◌else◌}
use Rattle.std.specs.List.{flat_map}
use Rattle.xf_name.specs.declared.axis.Axis.TheVariants as axis
use Rattle.xf_def_syntax.specs.declared.form.Instance.{Instance}
use Rattle.xf_def_forest.specs.declared.content.Node.{Node}
use Rattle.xf_def_forest.specs.declared.content.Content.{Content}
use Rattle.xf_def_forest.specs.declared.content.Content.TheVariants.{Root, Text}
use Rattle.xf_def_forest.specs.Forest.{Forest, content_at}
use Rattle.xf_def_forest.specs.Visit.{Visit, visits, parent_of, top_of}
use Rattle.xf_def_forest.specs.Order.{instance_of}
use Rattle.xf_def_forest.specs.Axis.{axis_of}
use Rattle.xf_def_forest.specs.Path.{path_of}
use Rattle.xf_def_forest.specs.Shape.{has_elements}
use Rattle.xf_def_forest.specs.StringValue.{string_value}
use Rattle.xf_def_ui.specs.declared.marks.Marks.{Marks}
use Rattle.xf_def_machine.specs.State.{State}
use Rattle.xf_def_machine.specs.Surround.{instances_in}
use Rattle.xf_def_machine.specs.Properties.{marks_in, braced, pair_text}
use Rattle.xf_def_machine.specs.NoteLines.{quoted}
use Rattle.xf_def_machine.specs.StateText.{spaced, line_of, marks_text, is_place}
use Rattle.xf_tree_paths.specs.Holding.{pair_among}

-- these are a state's forest, its instances, and the properties of its nodes
pub record IsOf (s : State) (forest : Forest) (instances : List Instance) (marks : ℕ → Marks) : Type 0 where
  pub nodes : s.forest ≡ forest
  pub tables : instances_in s ≡ instances
  pub properties : (n : ℕ) → marks_in s n ≡ marks n

-- ---- the nodes of an instance

abbrev pub nodes_at : List Node → ℕ → List ℕ
nodes_at nodes place = map (λ x. x.number) (filter (λ x. is_place place (instance_of (top_of x.number (visits nodes)) nodes)) (visits nodes))

abbrev pub with_attributes : List Node → ℕ → List ℕ
with_attributes nodes n = n ∷ axis_of axis.Attribute n (visits nodes)

-- ---- lines

abbrev pub has_elements_at : List Visit → Option ℕ → Bool
has_elements_at all None = false
has_elements_at all (Some n) = has_elements all n

abbrev pub value_text : List Visit → ℕ → List ℕ
value_text all n = if has_elements all n then [] else spaced (quoted (string_value n all))

-- a text has a line beside elements alone
abbrev pub text_line_if : Bool → List ℕ → List ℕ → List ℕ
text_line_if is_beside path text = if is_beside then line_of (path ++ spaced (quoted text)) else []

abbrev pub line_by : List ℕ → (ℕ → Marks) → List Visit → ℕ → Content → List ℕ
line_by braces marks all n Root = []
line_by braces marks all n (Text text) = text_line_if (has_elements_at all (parent_of n all)) (braces ++ path_of n all) text
line_by braces marks all n content = line_of (braces ++ path_of n all ++ spaced (marks_text (marks n)) ++ value_text all n)

abbrev pub line_in : List ℕ → (ℕ → Marks) → List Visit → ℕ → Option Content → List ℕ
line_in braces marks all n None = []
line_in braces marks all n (Some content) = line_by braces marks all n content

-- of a node, with what stands before its path
abbrev pub line_at : List ℕ → (ℕ → Marks) → List Node → ℕ → List ℕ
line_at braces marks nodes n = line_in braces marks (visits nodes) n (content_at n nodes)

-- of an instance that has these numbers
abbrev pub block_text : (ℕ → Marks) → List Node → ℕ → ℕ × ℕ → List ℕ
block_text marks nodes place pair = line_of (codes "instance " ++ pair_text pair) ++ flat_map (line_at (braced pair) marks nodes) (nodes_at nodes place)

-- of the instance with a place
abbrev pub block_of : (ℕ → Marks) → List Node → List Instance → ℕ → List ℕ
block_of marks nodes instances place = block_text marks nodes place (pair_among instances place)

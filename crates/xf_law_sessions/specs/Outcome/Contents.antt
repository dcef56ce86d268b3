-- The trees of a snapshot give the contents of all nodes: each instance is a root over its tree (XPath 1.0, section 5.1).
use Rattle.std.specs.Prelude.{ℕ, ◌≡◌, List, ◌∷◌, map, length, option_and_then, Option}
use Rattle.std.specs.List.{filter_map, flat_map}
use Rattle.xf_name.specs.Bindings.{Bindings}
use Rattle.xf_def_forest.specs.declared.bare.Bare.{Bare}
use Rattle.xf_def_forest.specs.declared.content.Content.{Content}
use Rattle.xf_def_forest.specs.declared.content.Content.TheVariants.{Root}
use Rattle.xf_def_forest.specs.Literal.{bare_of}
use Rattle.xf_def_forest.specs.Planted.{contents_of_bare}
use Rattle.xf_def_forest.specs.WellFormed.{HasTrees}
use Rattle.xf_def_machine.specs.State.{State}
use Rattle.xf_def_machine.specs.Surround.{instances_in, document_at}
use Rattle.xf_def_machine.specs.Cycles.{counted_from}
use Rattle.xf_def_machine.specs.AtRest.{HasDocuments}
use Rattle.xf_law_sessions.specs.Step.Fixed.{without_number}

-- a root over a tree
abbrev pub under_root : Bindings → Bare → List (ℕ × Content)
under_root b tree = (0, Root) ∷ contents_of_bare b tree 0 1

-- the tree of an instance's document element
abbrev pub tree_at : State → ℕ → Option Bare
tree_at s place = option_and_then (λ n. bare_of n s.forest.nodes) (document_at s place)

-- those of all instances
abbrev pub trees_of : State → List Bare
trees_of s = filter_map (tree_at s) (counted_from 0 (length (instances_in s)))

abbrev pub TreesTellContents : Type 0
TreesTellContents = (s : State) → HasTrees s.forest → HasDocuments s → map without_number s.forest.nodes ≡ flat_map (under_root s.form.bindings) (trees_of s)

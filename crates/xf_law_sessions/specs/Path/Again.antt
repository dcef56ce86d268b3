-- A tree that was planted, and its bare tree: planted again it is the same tree but for the numbers of its nodes.
use Rattle.std.specs.Prelude.{ℕ, ◌≡◌, List, map, Some}
use Rattle.xf_name.specs.Bindings.{Bindings}
use Rattle.xf_def_forest.specs.declared.bare.Bare.TheVariants as bare
use Rattle.xf_def_forest.specs.declared.bare.BareElement.{BareElement}
use Rattle.xf_def_forest.specs.declared.content.Content.{Content}
use Rattle.xf_def_forest.specs.declared.content.Node.{Node}
use Rattle.xf_def_forest.specs.Forest.{Forest, tree_of}
use Rattle.xf_def_forest.specs.Limits.{Limits}
use Rattle.xf_def_forest.specs.Literal.{bare_of}
use Rattle.xf_def_forest.specs.Planted.{contents_of_bare, planted_bare}

-- nodes without their numbers
abbrev pub unnumbered : List Node → List (ℕ × Content)
unnumbered nodes = map (λ x. (x.depth, x.content)) nodes

-- where the nodes of a tree are those that an element with resolved names gives, as in every document that was planted, its bare tree gives
-- the same nodes: it is planted as that element is, or refused for the same cause
abbrev pub BareAgain : Type 0
BareAgain = (b : Bindings) (e : BareElement) (depth n : ℕ) (nodes : List Node) → unnumbered (tree_of n nodes) ≡ contents_of_bare b (bare.Element e) 0 depth →
    (t : BareElement) × (bare_of n nodes ≡ Some (bare.Element t))
    × ((d : ℕ) → contents_of_bare b (bare.Element t) 0 d ≡ contents_of_bare b (bare.Element e) 0 d)
    × ((l : Limits) (forest : Forest) → planted_bare l b (bare.Element t) forest ≡ planted_bare l b (bare.Element e) forest)

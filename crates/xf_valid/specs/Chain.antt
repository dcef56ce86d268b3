-- What a node has from its parent.
use Rattle.std.specs.Prelude.{◌≡◌, List, [], ◌∷◌}
use Rattle.xf_def_forest.specs.declared.content.Node.{Node}
use Rattle.xf_binds.specs.Kept.{Kept}
use Rattle.xf_valid.specs.declared.marks.Passed.{Passed}
use Rattle.xf_valid.specs.Nodes.{relevant_in, readonly_in}

-- what is known of nodes that were passed
abbrev pub AreTold : List Kept → List Node → List Passed → Type 0
AreTold table nodes [] = Unit {0}
AreTold table nodes (p ∷ ps) =
    (p.relevant ≡ relevant_in table nodes p.node.number) × (p.readonly ≡ readonly_in table nodes p.node.number) × AreTold table nodes ps

-- What the calls of a forest give.
use Rattle.std.specs.Prelude.{ℕ, ◌+◌, List, [], ◌++◌, length, map, Option, Result}
use Rattle.xf_def_forest.specs.declared.content.Content.{Content}
use Rattle.xf_def_forest.specs.declared.fault.TreeFault.{TreeFault}
use Rattle.xf_def_forest.specs.Forest.{Forest, empty}
use Rattle.xf_def_forest.specs.Limits.{unless}
use Rattle.xf_def_forest.specs.Plant.{numbered_from}
use Rattle.xf_def_forest.specs.Texts.{Keeping, Before, attribute_text, element_texts}
use Rattle.xf_tree.specs.declared.before.Had.{Had}
use Rattle.xf_tree.specs.declared.before.Had.TheVariants as had

-- no node, and no kept text
abbrev pub nothing : Keeping
nothing = record { forest = empty; kept = [] }

-- with a new tree behind all others
abbrev pub with_contents : List (ℕ × Content) → Keeping → Keeping
with_contents contents k = record k { forest = record { nodes = k.forest.nodes ++ numbered_from k.forest.next contents; next = k.forest.next + length contents } }

-- the same, unless a limit is passed; the number is that of the tree's top
abbrev pub added_unless : Option TreeFault → List (ℕ × Content) → Keeping → Result (ℕ × Forest) TreeFault
added_unless passed contents k = unless passed (k.forest.next, (with_contents contents k).forest)

-- what a `Before` says
abbrev pub known_of : Had → Before
known_of (had.Text text) = attribute_text text
known_of (had.Texts texts) = element_texts (map (λ n. n.number) texts.items)

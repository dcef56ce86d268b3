-- A node set that tells texts apart: what it needs of texts beside elements, beyond the lists that it looks at.
use Rattle.std.proofs.Common.{◌≡◌, List, [], ◌∷◌, map, Some, None, refl, codes}
use Rattle.xf_name.specs.declared.axis.Axis.TheVariants as axis
use Rattle.xf_def_syntax.specs.declared.expr.Test.TheVariants as test
use Rattle.xf_def_forest.specs.declared.content.Node.{Node}
use Rattle.xf_def_forest.specs.declared.content.Content.TheVariants.{Root}
use Rattle.xf_def_forest.specs.Visit.{visits}
use Rattle.xf_def_forest.specs.Shape.{erased, shape_of}
use Rattle.xf_def_forest.specs.Examples.{node, element, text}
use Rattle.xf_def_xpath.specs.Agree.{list_of}
use Rattle.xf_def_xpath.specs.Asked.{Trace}
use Rattle.xf_def_xpath.specs.Examples.{step, child, path}
use Rattle.xf_def_model.specs.Nested.{sets_of}
use Rattle.xf_def_model.specs.Examples

-- ["d",["b","1",["c"]]], and the same without the text beside c
abbrev with_text : List Node
with_text = node 0 0 Root ∷ element 1 1 (codes "d") ∷ element 2 2 (codes "b") ∷ text 3 3 (codes "1") ∷ element 4 3 (codes "c") ∷ []

abbrev without_text : List Node
without_text = node 0 0 Root ∷ element 1 1 (codes "d") ∷ element 2 2 (codes "b") ∷ element 4 3 (codes "c") ∷ []

-- b/text()
abbrev texts_of_b : Trace
texts_of_b = path (child (codes "b") ∷ step axis.Child test.Text [] ∷ [])

-- texts apart, the list of b is the same ..
one_list : list_of (map erased (visits with_text)) 2 ≡ list_of (map erased (visits without_text)) 2
one_list = refl

-- .. but the bind takes b for its text, or nothing: so the texts beside elements have to be as they were
takes_b : sets_of None (Examples.scope []) (shape_of with_text) (Examples.bind texts_of_b) ≡ Some ((2 ∷ []) ∷ [])
takes_b = refl

takes_nothing : sets_of None (Examples.scope []) (shape_of without_text) (Examples.bind texts_of_b) ≡ Some ([] ∷ [])
takes_nothing = refl

-- A step from a text to texts beside it, where an element without elements has two: over the shape it has one, which stands for both.
use Rattle.std.proofs.Common.{◌≡◌, false, List, [], ◌∷◌, Option, Some, refl, codes}
use Rattle.xf_base.specs.Limits.{string_limit}
use Rattle.xf_name.specs.declared.axis.Axis.TheVariants as axis
use Rattle.xf_def_syntax.specs.declared.expr.Test.TheVariants as test
use Rattle.xf_def_forest.specs.declared.content.Node.{Node}
use Rattle.xf_def_forest.specs.declared.content.Content.TheVariants.{Root}
use Rattle.xf_def_forest.specs.Visit.{visits}
use Rattle.xf_def_forest.specs.Examples.{node, element, text}
use Rattle.xf_def_xpath.specs.declared.value.Value.{Value}
use Rattle.xf_def_xpath.specs.declared.value.Value.TheVariants.{Nodes}
use Rattle.xf_def_xpath.specs.Setting.{setting_over}
use Rattle.xf_def_xpath.specs.Asked.{Trace}
use Rattle.xf_def_xpath.specs.Reads.{reads_in, looks_in, shape_setting}
use Rattle.xf_def_xpath.specs.Examples.{functions, given, step, up, child, path, focus}

-- ["d",["b","1","2"],["c"]], as a delete of an element between the two texts leaves it, and the same without c
abbrev with_c : List Node
with_c = node 0 0 Root ∷ element 1 1 (codes "d") ∷ element 2 2 (codes "b") ∷ text 3 3 (codes "1") ∷ text 4 3 (codes "2") ∷ element 5 2 (codes "c") ∷ []

abbrev without_c : List Node
without_c = node 0 0 Root ∷ element 1 1 (codes "d") ∷ element 2 2 (codes "b") ∷ text 3 3 (codes "1") ∷ text 4 3 (codes "2") ∷ []

-- text()/following-sibling::node()/../../c
abbrev beside_text : Trace
beside_text = path (step axis.Child test.Text [] ∷ step axis.FollowingSibling test.Node [] ∷ up false ∷ up false ∷ child (codes "c") ∷ [])

abbrev worth : List Node → Option Value
worth nodes = beside_text.meaning (setting_over functions (Some string_limit) given (visits nodes) 0 2) (focus 2)

-- from b it gives c where it stands ..
gives_c : worth with_c ≡ Some (Nodes (5 ∷ []))
gives_c = refl

gives_none : worth without_c ≡ Some (Nodes [])
gives_none = refl

-- .. and the list of d, and c, are asked
reads_b_and_c : reads_in beside_text (shape_setting functions given with_c 0 2) (focus 2) ≡ 2 ∷ 5 ∷ []
reads_b_and_c = refl

looks_at_d : looks_in beside_text (shape_setting functions given with_c 0 2) (focus 2) ≡ 1 ∷ 2 ∷ 5 ∷ []
looks_at_d = refl

looks_at_d_without_c : looks_in beside_text (shape_setting functions given without_c 0 2) (focus 2) ≡ 1 ∷ 2 ∷ []
looks_at_d_without_c = refl

-- back again: text()/following-sibling::node()/preceding-sibling::text()/../../c
abbrev back_again : Trace
back_again = path (step axis.Child test.Text [] ∷ step axis.FollowingSibling test.Node [] ∷ step axis.PrecedingSibling test.Text [] ∷ up false ∷ up false ∷ child (codes "c") ∷ [])

reads_as_well : reads_in back_again (shape_setting functions given with_c 0 2) (focus 2) ≡ 2 ∷ 5 ∷ []
reads_as_well = refl

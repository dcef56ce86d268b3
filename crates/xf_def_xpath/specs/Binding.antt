-- What a binding selects (XForms 1.1, sections 3.2.3 and 3.2.4): in this processor a text stands for its parent, and a root for its document
-- element.
use Rattle.std.specs.Prelude.{ℕ, List, [], ◌∷◌, find, Option, Some, None, ◌==◌}
use Rattle.std.specs.List.{flat_map}
use Rattle.xf_def_forest.specs.declared.content.Content.{Content}
use Rattle.xf_def_forest.specs.declared.content.Content.TheVariants.{Root, Text}
use Rattle.xf_def_forest.specs.Visit.{Visit, first_of, children_of}
use Rattle.xf_def_xpath.specs.Setting.{in_order}

abbrev pub as_list : Option ℕ → List ℕ
as_list None = []
as_list (Some n) = n ∷ []

abbrev pub stand_in : List Visit → Visit → Content → List ℕ
stand_in all x Root = children_of x.number all
stand_in all x (Text text) = as_list (first_of x.above)
stand_in all x content = x.number ∷ []

abbrev pub stand_ins : List Visit → Option Visit → List ℕ
stand_ins all None = []
stand_ins all (Some x) = stand_in all x x.content

-- where one node is taken, the first is, and then what it stands for
abbrev pub first_bound : List Visit → List ℕ → List ℕ
first_bound all [] = []
first_bound all (n ∷ ns) = stand_ins all (find (λ x. x.number == n) all)

-- where all are taken, each stands for its node: in document order, each once
abbrev pub bound_nodes : List Visit → List ℕ → List ℕ
bound_nodes all ns = in_order all (flat_map (λ n. stand_ins all (find (λ x. x.number == n) all)) ns)

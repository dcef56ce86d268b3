-- What a node stands for (XForms 1.1, sections 3.2.3 and 3.2.4).
use Rattle.std.specs.Prelude.{ℕ, List, find, ◌==◌}
use Rattle.xf_def_forest.specs.Visit.{Visit}
use Rattle.xf_def_xpath.specs.Binding.{stand_ins}

abbrev pub stand_ins_of : List Visit → ℕ → List ℕ
stand_ins_of all n = stand_ins all (find (λ x. x.number == n) all)

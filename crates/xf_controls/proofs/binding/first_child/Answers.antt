use Rattle.std.proofs.Common.{ap, ◌∙◌}
use Rattle.xf_def_forest.specs.Visit.{first_of}
use Rattle.xf_controls.proofs.NodeLaws.{first-yielded}
use Rattle.xf_controls.proofs.binding.first_child.Goals as goal

pub returns : goal.returns
returns c = first-yielded c.axis-walk.result c.next.new.self c.next.result c.next.ensures.steps ∙ ap first_of c.axis-walk.ensures

use Rattle.std.proofs.Common.{◌∙◌}
use Rattle.xf_graph.proofs.HasLemmas.{contains-has}
use Rattle.xf_repeat.proofs.noted.Noted.has.Goals as goal

pub returns : goal.returns
returns c = rw (← c.self.view_is) (c.contains.ensures ∙ contains-has c.self.inside.repeats.keys c.args.element)

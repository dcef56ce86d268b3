use Rattle.std.proofs.Common.{false, sym, ap, ◌∙◌}
use Rattle.std.specs.Option.{option_copied}
use Rattle.xf_recalc_pertinent.proofs.Lists.{none-or}
use Rattle.xf_recalc_pertinent.proofs.marks.is_marked.Goals as goal

pub returns-in-None : goal.returns-in-None
returns-in-None c = none-or c.args.marks.now c.args.place false (sym (ap option_copied c.in-None.is) ∙ c.get.ensures.value)

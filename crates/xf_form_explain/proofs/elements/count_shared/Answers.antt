use Rattle.std.proofs.Common.{map}
use Rattle.xf_form_refusals.specs.Rows.{shown}
use Rattle.xf_form_explain.proofs.elements.count_shared.Goals as goal

pub returns : goal.returns
returns c = c.count_outside.ensures (map shown c.args.search.now.rows.now) c.requires

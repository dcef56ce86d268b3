use Rattle.std.proofs.Common.{map}
use Rattle.xf_form_refusals.specs.Rows.{shown}
use Rattle.xf_form_explain.proofs.attributes.count_wanted.Goals as goal

pub returns : goal.returns
returns c = c.count_named.ensures (map shown c.args.search.now.rows.now) c.requires

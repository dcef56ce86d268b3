use Rattle.xf_funcs.proofs.SearchLemmas.{begins_by}
use Rattle.xf_funcs.proofs.searching.begins_with.Goals as goal

pub returns : goal.returns
returns c = begins_by c.args.text.now c.args.front.now c.starts_with.result c.utf8.text c.utf8.front c.starts_with.ensures.cases

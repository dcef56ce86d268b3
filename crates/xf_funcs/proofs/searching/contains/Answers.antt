use Rattle.xf_funcs.proofs.SearchLemmas.{contains_by}
use Rattle.xf_funcs.proofs.searching.contains.Goals as goal

pub returns : goal.returns
returns c = contains_by c.args.text.now c.args.part.now c.contains.result c.utf8.text c.utf8.part c.contains.ensures.cases

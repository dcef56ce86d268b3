use Rattle.xf_funcs.proofs.SearchLemmas.{before_by, before_none}
use Rattle.xf_funcs.proofs.searching.before.Goals as goal

pub returns-in-Some : goal.returns-in-Some
returns-in-Some c = before_by c.args.text.now c.args.part.now _ _ c.utf8.text c.utf8.part c.in-Some.ensures.cases

pub returns-in-None : goal.returns-in-None
returns-in-None c = before_none c.args.text.now c.args.part.now c.utf8.text c.utf8.part c.in-None.ensures.cases

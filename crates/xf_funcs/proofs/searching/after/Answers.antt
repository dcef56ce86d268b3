use Rattle.xf_funcs.proofs.SearchLemmas.{after_by, after_none}
use Rattle.xf_funcs.proofs.searching.after.Goals as goal

pub returns-in-Some : goal.returns-in-Some
returns-in-Some c = after_by c.args.text.now c.args.part.now _ _ c.utf8.text c.utf8.part c.in-Some.ensures.cases

pub returns-in-None : goal.returns-in-None
returns-in-None c = after_none c.args.text.now c.args.part.now c.utf8.text c.utf8.part c.in-None.ensures.cases

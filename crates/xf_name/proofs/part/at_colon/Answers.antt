use Rattle.xf_name.proofs.PartLemmas.{split_is}
use Rattle.xf_name.proofs.part.at_colon.Goals as goal

pub returns : goal.returns
returns c = split_is c.args.text.now c.split_once.result c.split_once.ensures.cases

use Rattle.std.proofs.Common.{[], ap}
use Rattle.xf_def_xpath.specs.Binding.{as_list}
use Rattle.xf_eval.proofs.Lives.{live-is}
use Rattle.xf_eval_shape.proofs.nodes.document.Goals as goal

pub returns-in-None-clause-live : goal.returns-in-None-clause-live
returns-in-None-clause-live g c = λ nodes h. live-is nodes (ap as_list c.instance.ensures) (h.documents c.args.context.now.model [])

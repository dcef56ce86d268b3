use Rattle.std.proofs.Common.{[], ap}
use Rattle.xf_def_xpath.specs.Binding.{as_list}
use Rattle.xf_eval.proofs.Lives.{live-is}
use Rattle.xf_controls.proofs.handed.focus_in.Goals as goal

pub returns-in-Free-clause-live : goal.returns-in-Free-clause-live
returns-in-Free-clause-live g c = live-is c.args.forest.now.forest.nodes (ap as_list c.instance.ensures) (c.requires.around.documents c.args.model [])

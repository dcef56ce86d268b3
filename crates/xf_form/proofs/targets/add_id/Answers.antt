use Rattle.xf_form.proofs.TargetLemmas.{named_first, none_from}
use Rattle.xf_form.specs.Plan.{found}
use Rattle.xf_form.proofs.targets.add_id.Goals as goal

pub returns : goal.returns
returns c = λ q. named_first c.args.id.now c.args.targets.now c.insert.new.self c.args.place c.in_ok-insert.ensures.updates (none_from (found c.args.targets.now c.args.id.now) (c.has.ensures) c.if-has.false) q

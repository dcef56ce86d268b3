use Rattle.xf_form_elements.proofs.NameLemmas.{named_first, none_from}
use Rattle.xf_form_elements.specs.Names.{found}
use Rattle.xf_form_elements.proofs.names.add_id.Goals as goal

pub returns : goal.returns
returns c = λ q. named_first c.args.id.now c.args.all.now c.insert.new.self c.args.number c.in_ok-insert.ensures.updates (none_from (found c.args.all.now c.args.id.now) (c.has.ensures) c.if-has.false) q

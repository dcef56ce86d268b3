use Rattle.std.proofs.Common.{◌+◌, ap}
use Rattle.xf_form_refusals.proofs.TallyLemmas.{named_more}
use Rattle.xf_form_refusals.proofs.ids.count.Goals as goal

pub returns : goal.returns
returns c = λ id. named_more c.args.id.now c.args.tally.now c.insert.new.self (c.count_of-next.result + 1) c.in_ok-insert.ensures.updates (ap (λ k. k + 1) c.count_of-next.ensures) id

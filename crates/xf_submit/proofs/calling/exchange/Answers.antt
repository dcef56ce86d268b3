use Rattle.std.proofs.Common.{◌≡◌, ◌<◌, length, ◌∙◌, rules, tests}
use Rattle.xf_base.specs.Limits.{answer_limit}
use Rattle.xf_submit.proofs.CallLaws.{called-one, exchanged-one, made-one, popped, uncalled}
use Rattle.xf_submit.proofs.calling.exchange.Goals as goal

pub returns-in-Ok-clause-done : goal.returns-in-Ok-clause-done
returns-in-Ok-clause-done g c =
    let small : length c.args.calls.now < answer_limit = search (rules, tests) in
    exchanged-one c.args.calls.now c.push.new.self c.set.new.self c.unanswered.result c.len-at.result c.from_vec-name.result c.args.resource.now c.args.asked c.in-Ok.answer
    c.len-at.ensures c.in_ok-push.ensures.ok c.set.ensures (c.from_vec-name.ensures ∙ c.in_ok-from_slice.ensures.items ∙ c.as_bytes.ensures.value) small

pub returns-in-Ok-clause-store : goal.returns-in-Ok-clause-store
returns-in-Ok-clause-store g c =
    called-one c.args.calls.now c.push.new.self c.set.new.self c.unanswered.result c.len-at.result c.from_vec-name.result c.args.resource.now c.args.asked c.in-Ok.answer
    c.len-at.ensures c.in_ok-push.ensures.ok c.set.ensures (c.from_vec-name.ensures ∙ c.in_ok-from_slice.ensures.items ∙ c.as_bytes.ensures.value)
    (g.S.Store.calls c.args.store.now) (g.S.Store.calls c.answer_of.new.store) (g.S.Store.to_come c.args.store.now) (g.S.Store.to_come c.answer_of.new.store) c.in-Ok.ensures.store

pub returns-in-Ok-clause-made : goal.returns-in-Ok-clause-made
returns-in-Ok-clause-made g c = λ all.
    let small : length c.args.calls.now < answer_limit = search (rules, tests) in
    made-one c.args.calls.now c.push.new.self c.set.new.self c.unanswered.result c.len-at.result c.from_vec-name.result c.args.resource.now c.args.asked c.in-Ok.answer
    c.len-at.ensures c.in_ok-push.ensures.ok c.set.ensures (c.from_vec-name.ensures ∙ c.in_ok-from_slice.ensures.items ∙ c.as_bytes.ensures.value) small all c.in-Ok.ensures.answered

pub returns-in-Err-clause-store : goal.returns-in-Err-clause-store
returns-in-Err-clause-store g c =
    let same : c.pop.new.self ≡ c.args.calls.now = popped c.pop.result c.args.calls.now c.push.new.self c.pop.new.self c.unanswered.result c.in_ok-push.ensures.ok c.pop.ensures in
    uncalled (g.S.Store.calls c.args.store.now) (g.S.Store.calls c.answer_of.new.store) (g.S.Store.to_come c.args.store.now) (g.S.Store.to_come c.answer_of.new.store)
    c.args.calls.now c.pop.new.self c.in-Err.ensures.store.0 c.in-Err.ensures.store.1 same

use Rattle.std.proofs.Common.{◌≡◌, ◌-◌, length, take, ◌∙◌, arith}
use Rattle.std.proofs.lemmas.Grind.{common_steps}
use Rattle.xf_funcs.proofs.TextLemmas.{front_of}
use Rattle.xf_funcs.proofs.text.front.Goals as goal

pub overflow_sub-text : goal.overflow_sub-text
overflow_sub-text c = (front_of c.args.text.now c.past-rest.result.now c.args.count c.utf8.text c.past-rest.utf8 c.past-rest.ensures.value).fits

pub range-requires-clause-end_boundary : goal.range-requires-clause-end_boundary
range-requires-clause-end_boundary c = (front_of c.args.text.now c.past-rest.result.now c.args.count c.utf8.text c.past-rest.utf8 c.past-rest.ensures.value).boundary

pub returns : goal.returns
returns c =
    let n = length c.args.text.now - length c.past-rest.result.now in
    let same : c.range.result.now ≡ take n c.args.text.now = grind (arith, common_steps) in
    same ∙ (front_of c.args.text.now c.past-rest.result.now c.args.count c.utf8.text c.past-rest.utf8 c.past-rest.ensures.value).value

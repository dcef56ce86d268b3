use Rattle.std.proofs.Common.{◌≡◌, ◌-◌, ◌∙◌, sym, ap, drop, Some, None, arith}
use Rattle.std.specs.Prelude.{chars, encode_utf8_all}
use Rattle.xf_num.specs.Number.{rounded}
use Rattle.xf_funcs.specs.Substring.{least_place}
use Rattle.xf_funcs.proofs.PlaceLemmas.{from_number, from_nothing}
use Rattle.xf_funcs.proofs.substring.substring_from.Goals as goal

pub returns-in-Some : goal.returns-in-Some
returns-in-Some c =
    let text = chars c.args.text.now in
    let first = c.in-Some.first in
    let is : Some first ≡ least_place c.args.decimals (rounded c.args.decimals c.args.start) = c.in-Some.ensures ∙ ap (least_place c.args.decimals) c.round.ensures in
    let count : c.max.result - 1 ≡ first - 1 = omega arith in
    c.past.ensures.value ∙ ap (λ n. encode_utf8_all (drop n text)) count ∙ ap encode_utf8_all (sym (from_number c.args.decimals text (rounded c.args.decimals c.args.start) first is))

pub returns-in-None : goal.returns-in-None
returns-in-None c =
    let text = chars c.args.text.now in
    let is : None ≡ least_place c.args.decimals (rounded c.args.decimals c.args.start) = c.in-None.ensures ∙ ap (least_place c.args.decimals) c.round.ensures in
    ap encode_utf8_all (sym (from_nothing c.args.decimals text (rounded c.args.decimals c.args.start) is))

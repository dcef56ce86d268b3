use Rattle.std.proofs.Common.{◌≡◌, ◌-◌, ◌∙◌, sym, ap, take, drop, max, Some, None, arith}
use Rattle.std.specs.Prelude.{chars, encode_utf8_all}
use Rattle.xf_num.specs.Number.{rounded, sum}
use Rattle.xf_funcs.specs.Substring.{least_place}
use Rattle.xf_funcs.proofs.PlaceLemmas.{within_numbers, from_no_start, before_no_end}
use Rattle.xf_funcs.proofs.substring.substring_of.Goals as goal

pub returns-in_default : goal.returns-in_default
returns-in_default c =
    let from = rounded c.args.decimals c.args.start in
    let none : None ≡ least_place c.args.decimals from = c.in_default.ensures ∙ ap (least_place c.args.decimals) c.round-from.ensures in
    ap encode_utf8_all (sym (from_no_start c.args.decimals (chars c.args.text.now) from (sum from (rounded c.args.decimals c.args.count)) none))

pub returns-in_default-least_place : goal.returns-in_default-least_place
returns-in_default-least_place c =
    let from = rounded c.args.decimals c.args.start in
    let to = sum from (rounded c.args.decimals c.args.count) in
    let none : None ≡ least_place c.args.decimals to =
    c.in_default-least_place.ensures
    ∙ ap (least_place c.args.decimals) (c.add-to.ensures ∙ ap (λ n. sum n c.round.result) c.round-from.ensures ∙ ap (sum from) c.round.ensures) in
    ap encode_utf8_all (sym (before_no_end c.args.decimals (chars c.args.text.now) from to none))

pub returns : goal.returns
returns c =
    let text = chars c.args.text.now in
    let from = rounded c.args.decimals c.args.start in
    let to = sum from (rounded c.args.decimals c.args.count) in
    let first = c.in-Some.first in
    let end = c.in-Some-least_place.end in
    let begins : Some first ≡ least_place c.args.decimals from = c.in-Some.ensures ∙ ap (least_place c.args.decimals) c.round-from.ensures in
    let ends : Some end ≡ least_place c.args.decimals to =
    c.in-Some-least_place.ensures
    ∙ ap (least_place c.args.decimals) (c.add-to.ensures ∙ ap (λ n. sum n c.round.result) c.round-from.ensures ∙ ap (sum from) c.round.ensures) in
    let skipped : c.max-first.result - 1 ≡ first - 1 = omega arith in
    let count : c.saturating_sub.result ≡ end - max first 1 = omega arith in
    c.front.ensures ∙ ap (λ cs. encode_utf8_all (take c.saturating_sub.result cs)) (c.past.ensures.left ∙ ap (λ n. drop n text) skipped)
    ∙ ap (λ n. encode_utf8_all (take n (drop (first - 1) text))) count
    ∙ ap encode_utf8_all (sym (within_numbers c.args.decimals text from to first end begins ends))

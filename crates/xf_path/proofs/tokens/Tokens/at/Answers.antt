use Rattle.std.proofs.Common.{sym, rules, arith}
use Rattle.std.specs.Str.{IsUtf8}
use Rattle.xf_path.proofs.CharLemmas.{space_passed, end_cut, text_cut}
use Rattle.xf_path.proofs.tokens.Tokens.at.Goals as goal

pub overflow_sub-place : goal.overflow_sub-place
overflow_sub-place c =
    let s = space_passed c.args.text.now c.after_space-text.result.now c.utf8.text c.after_space-text.utf8 c.after_space-text.ensures in
    omega (arith, s.shorter, c.requires.within)

pub invariant_of-result : goal.invariant_of-result
invariant_of-result c =
    let s = space_passed c.args.text.now c.after_space-text.result.now c.utf8.text c.after_space-text.utf8 c.after_space-text.ensures in
    record { rest = omega (arith, s.shorter, c.requires.within); limit = c.requires.end }

pub returns-in_default : goal.returns-in_default
returns-in_default c =
    sym (end_cut c.args.end c.args.text.now c.after_space-text.result.now c.utf8.text c.after_space-text.utf8 c.after_space-text.ensures c.in_default.ensures c.requires.within)

pub overflow_sub-text : goal.overflow_sub-text
overflow_sub-text c =
    let utf8 : IsUtf8 c.token_from-kind.result.1.now = search rules in
    let cut = text_cut c.args.text.now c.after_space-text.result.now c.in-Some.behind.now c.token_from-kind.result.1.now c.in-Some.first c.token_from-kind.result.0 c.utf8.text c.after_space-text.utf8 utf8 c.after_space-text.ensures c.in-Some.ensures c.token_from-kind.ensures in
    cut.shorter

pub split_at-requires : goal.split_at-requires
split_at-requires c =
    let utf8 : IsUtf8 c.token_from-kind.result.1.now = search rules in
    let cut = text_cut c.args.text.now c.after_space-text.result.now c.in-Some.behind.now c.token_from-kind.result.1.now c.in-Some.first c.token_from-kind.result.0 c.utf8.text c.after_space-text.utf8 utf8 c.after_space-text.ensures c.in-Some.ensures c.token_from-kind.ensures in
    cut.boundary

pub invariant_of-result-2 : goal.invariant_of-result-2
invariant_of-result-2 c =
    let utf8 : IsUtf8 c.token_from-kind.result.1.now = search rules in
    let cut = text_cut c.args.text.now c.after_space-text.result.now c.in-Some.behind.now c.token_from-kind.result.1.now c.in-Some.first c.token_from-kind.result.0 c.utf8.text c.after_space-text.utf8 utf8 c.after_space-text.ensures c.in-Some.ensures c.token_from-kind.ensures in
    record { rest = omega (arith, cut.within, c.split_at.ensures.back_len, c.requires.within); limit = c.requires.end }

pub returns : goal.returns
returns c =
    let utf8 : IsUtf8 c.token_from-kind.result.1.now = search rules in
    let cut = text_cut c.args.text.now c.after_space-text.result.now c.in-Some.behind.now c.token_from-kind.result.1.now c.in-Some.first c.token_from-kind.result.0 c.utf8.text c.after_space-text.utf8 utf8 c.after_space-text.ensures c.in-Some.ensures c.token_from-kind.ensures in
    cut.left c.args.end c.split_at.result.0.now c.split_at.result.1.now c.requires.within c.split_at.ensures.front c.split_at.ensures.back

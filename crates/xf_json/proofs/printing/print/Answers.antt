use Rattle.std.proofs.Common.{◌∙◌, ◌++◌, ap, sym, subst}
use Rattle.std.specs.Str.{IsUtf8}
use Rattle.json.specs.Lex.{tokens}
use Rattle.json.specs.Print.{print}
use Rattle.serde_json.proofs.Texts.{print-outline}
use Rattle.xf_json.specs.Printed.{value_of}
use Rattle.xf_json.specs.Tokens.{tokens_of}
use Rattle.xf_json.proofs.ReadsBack.{reads_back}
use Rattle.xf_json.proofs.printing.print.Goals as goal

pub returns-clause-text : goal.returns-clause-text
returns-clause-text c =
    let written = c.in_ok-write.ensures.ok ∙ ap (λ ts. ts ++ tokens_of c.args.lit.now) c.new-out.ensures.tokens in
    let before = c.in_ok-write.ensures.before ∙ c.new-out.ensures.before ∙ c.new.ensures.items in
    c.from_vec.ensures ∙ c.into_inner.ensures.items ∙ ap (λ bytes. bytes ++ print c.write.new.out.tokens) before ∙ ap print written ∙ print-outline (value_of c.args.lit.now)

pub returns-clause-reads_back : goal.returns-clause-reads_back
returns-clause-reads_back c =
    let written = c.in_ok-write.ensures.ok ∙ ap (λ ts. ts ++ tokens_of c.args.lit.now) c.new-out.ensures.tokens in
    let before = c.in_ok-write.ensures.before ∙ c.new-out.ensures.before ∙ c.new.ensures.items in
    let text = c.from_vec.ensures ∙ c.into_inner.ensures.items ∙ ap (λ bytes. bytes ++ print c.write.new.out.tokens) before in
    λ plain. reads_back c.args.lit.now c.from_vec.result plain (subst IsUtf8 (sym text) c.into_inner.ensures.utf8) (ap tokens text ∙ c.into_inner.ensures.reads_back ∙ written)

use Rattle.std.proofs.Common.{◌++◌, ◌∙◌, ap, string_bytes}
use Rattle.std.specs.Prelude.{codes}
use Rattle.std.specs.Fmt.{decimal}
use Rattle.std.proofs.lemmas.Result.{on_ok_weaker}
use Rattle.xf_form_explain.specs.Texts.{quoted}
use Rattle.xf_form_explain.proofs.TextLemmas.{four_parts}
use Rattle.xf_form_explain.proofs.text.push_double.Goals as goal

pub returns : goal.returns
returns c =
    on_ok_weaker c.push_behind.result
    (λ told. four_parts (string_bytes c.args.text.now) (codes ": ") (decimal c.args.count) (codes " elements have the id ") (quoted c.args.id.now) (string_bytes c.push_behind.new.text)
    (told ∙ ap (λ x. x ++ codes " elements have the id " ++ quoted c.args.id.now) (c.in_ok-push_number.ensures ∙ ap (λ x. x ++ decimal c.args.count) c.in_ok-push_str.ensures.bytes))) c.push_behind.ensures

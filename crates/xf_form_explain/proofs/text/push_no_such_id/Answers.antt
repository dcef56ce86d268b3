use Rattle.std.proofs.Common.{◌++◌, ◌∙◌, ap, string_bytes}
use Rattle.std.specs.Prelude.{codes}
use Rattle.std.proofs.lemmas.Result.{on_ok_weaker}
use Rattle.xf_form_explain.specs.Texts.{quoted, name_text}
use Rattle.xf_form_explain.specs.Words.{wanted_text}
use Rattle.xf_form_explain.proofs.TextLemmas.{five_parts}
use Rattle.xf_form_explain.proofs.text.push_no_such_id.Goals as goal

pub returns : goal.returns
returns c =
    let wanted = wanted_text c.args.wanted in
    on_ok_weaker c.push_behind.result
    (λ told. five_parts (string_bytes c.args.text.now) (name_text c.args.code) (codes ": no ") wanted (codes " has the id ") (quoted c.args.id.now) (string_bytes c.push_behind.new.text)
    (told ∙ ap (λ x. x ++ codes " has the id " ++ quoted c.args.id.now)
    (c.in_ok-push_str-2.ensures.bytes ∙ ap (λ x. string_bytes c.push_str.new.self ++ x) c.wanted_text.ensures ∙ ap (λ x. x ++ wanted) (c.in_ok-push_str.ensures.bytes ∙ ap (λ x. x ++ codes ": no ") c.in_ok-push_name.ensures)))) c.push_behind.ensures

use Rattle.std.proofs.Common.{string_bytes}
use Rattle.std.specs.Prelude.{codes}
use Rattle.std.proofs.lemmas.Result.{on_ok_weaker}
use Rattle.xf_form_explain.specs.Texts.{quoted}
use Rattle.xf_form_explain.proofs.TextLemmas.{three_parts}
use Rattle.xf_form_explain.proofs.text.push_unknown_prefix.Goals as goal

pub returns : goal.returns
returns c =
    on_ok_weaker c.push_about.result
    (λ told. three_parts (string_bytes c.args.text.now) (codes ": ") (quoted c.args.name.now) (codes " has a prefix without a namespace") (string_bytes c.push_about.new.text) told) c.push_about.ensures

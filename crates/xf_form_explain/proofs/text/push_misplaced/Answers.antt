use Rattle.std.proofs.Common.{◌∙◌, sym, string_bytes}
use Rattle.std.proofs.lemmas.Result.{on_ok_weaker}
use Rattle.xf_form_explain.proofs.TextLemmas.{placed_in}
use Rattle.xf_form_explain.proofs.text.push_misplaced.Goals as goal

pub returns : goal.returns
returns c =
    on_ok_weaker c.push_behind.result
    (λ told. placed_in (string_bytes c.args.text.now) c.args.around.now (string_bytes c.push_behind.new.text) (sym c.is_empty.ensures ∙ c.if-is_empty.false) told) c.push_behind.ensures

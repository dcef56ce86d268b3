use Rattle.std.proofs.Common.{◌≡◌, ◌∷◌, ◌∙◌, sym, ap, rules}
use Rattle.std.specs.Str.{chars}
use Rattle.std.proofs.lemmas.Str.{chars_past_char}
use Rattle.xf_path.proofs.CharLemmas.{chars-empty}
use Rattle.xf_path.proofs.lexer.first_char.Goals as goal

pub returns-in-Some : goal.returns-in-Some
returns-in-Some c =
    let whole : c.args.text.now ≡ c.chars-chars.result.rest.now = search rules in
    chars_past_char c.args.text.now c.next.new.self.rest.now c.in-Some.first c.utf8.text (whole ∙ c.in-Some.ensures.steps.0)
    ∙ ap (λ t. c.in-Some.first ∷ chars t) (sym c.as_str.ensures)

pub returns-in-None : goal.returns-in-None
returns-in-None c =
    let whole : c.args.text.now ≡ c.chars-chars.result.rest.now = search rules in
    ap chars whole ∙ chars-empty c.chars-chars.result.rest.now c.in-None.ensures.steps.0.0

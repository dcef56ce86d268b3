use Rattle.std.proofs.Common.{ap, sym, ◌∙◌, not}
use Rattle.xf_def_ui.specs.Items.{allows}
use Rattle.xf_items.proofs.WordLaws.{all-values}
use Rattle.xf_items.proofs.words.allows.Goals as goal

pub returns-then-many : goal.returns-then-many
returns-then-many c =
    ap not c.has_other.ensures ∙ all-values c.args.items.now c.args.text.now ∙ sym (ap (λ b. allows b c.args.items.now c.args.text.now) c.if-many.true)

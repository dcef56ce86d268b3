use Rattle.std.proofs.Common.{ap, ◌∙◌}
use Rattle.xf_def_forest.specs.Texts.{without_from}
use Rattle.xf_def_forest.specs.Undo.{rolled_back}
use Rattle.xf_law_forests.proofs.RollbackLemmas.Laws.{rolls_back}
use Rattle.xf_undo.proofs.ledger.Ledger.roll_back.Goals as goal

pub returns-clause-law : goal.returns-clause-law
returns-clause-law c = λ start made sound.
    c.drop_from.ensures ∙ ap (without_from c.self.inside.next) c.undo_all.ensures.back ∙ ap (λ l. rolled_back l c.args.forest.now) c.self.view_is ∙ rolls_back made sound

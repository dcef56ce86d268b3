use Rattle.std.proofs.Common.{subst}
use Rattle.xf_law_forests.specs.Root.Roots.{AreAhead}
use Rattle.xf_law_forests.proofs.RootLemmas.Stays.{roots_made}
use Rattle.xf_undo.specs.Draft.{Draft}
use Rattle.xf_undo.proofs.draft.Draft.are_ahead.Goals as goal

-- since all that was made of the forest is in the ledger
pub returns : goal.returns
returns c = subst (λ (d : Draft). AreAhead d.now.nodes) c.self.view_is (roots_made _ _ _ c.self.invariant.made).0

use Rattle.std.proofs.Common.{subst}
use Rattle.std.specs.Prelude.{Option}
use Rattle.xf_def_model.specs.Applied as applied
use Rattle.xf_binds.specs.Held.{AreSingle, IsOnly, entries_in, holds}
use Rattle.xf_binds.proofs.Singles.{only-seated, single-seated}
use Rattle.xf_binds.proofs.applied.Applied.is_single.Goals as goal

pub returns-clause-single : goal.returns-clause-single
returns-clause-single c = subst (λ l. AreSingle (entries_in l)) c.self.view_is (single-seated (holds c.self.inside.items.items) c.self.inside.seats c.self.invariant.0)

pub returns-clause-only : goal.returns-clause-only
returns-clause-only c = λ e.
    subst (λ l. (found : Option applied.Entry) × IsOnly (entries_in l) e found) c.self.view_is (only-seated (holds c.self.inside.items.items) c.self.inside.seats c.self.invariant.0 e)

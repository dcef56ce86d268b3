-- The entries are the same with other truths, so that their order, their turns and their readers stand.
use Rattle.std.proofs.Common.{ap, sym, subst, ◌∙◌}
use Rattle.xf_binds.specs.Held.{entries_in}
use Rattle.xf_binds.specs.Placed.{AreInOrder}
use Rattle.xf_binds.specs.Readers.{TellsReaders}
use Rattle.xf_binds.proofs.Tellings.{entries-told}
use Rattle.xf_binds.proofs.ordered.Ordered.tell.Goals as goal

pub invariant_of-self : goal.invariant_of-self
invariant_of-self c =
    subst (λ es. (AreInOrder es c.self.inside.web c.self.inside.turns.items) × (TellsReaders es c.self.inside.web c.self.inside.readers)) (sym (ap entries_in c.tell.ensures ∙ entries-told (entries_in c.self.inside.applied) c.args.truths.now)) c.self.invariant

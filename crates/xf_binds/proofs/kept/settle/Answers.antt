use Rattle.std.proofs.Common.{sym, ap, ◌∙◌}
use Rattle.xf_binds.specs.Held.{entries_in}
use Rattle.xf_binds.specs.Kept.{Entered}
use Rattle.xf_binds.specs.Since.{present_in}
use Rattle.xf_binds.proofs.Tellings.{entries-told}
use Rattle.xf_binds.proofs.kept.settle.Goals as goal

pub returns-in-Told-clause-entries : goal.returns-in-Told-clause-entries
returns-in-Told-clause-entries c =
    ap (λ (x : Entered). entries_in x.held) c.tell.ensures ∙ entries-told (entries_in c.args.present.now.held) _ ∙ sym (ap (λ s. entries_in (present_in c.args.present.now s).held) c.in-Told.is)

use Rattle.std.proofs.Common.{ap, ◌∙◌}
use Rattle.xf_binds.specs.Held.{entries_in, holds}
use Rattle.xf_binds.proofs.Tellings.{entries-told, seated-told, set-told}
use Rattle.xf_binds.proofs.applied.Applied.tell.Goals as goal

pub invariant_of-self : goal.invariant_of-self
invariant_of-self c =
    let old = holds c.self.inside.items.items in
    let same = ap entries_in c.give.ensures ∙ entries-told (entries_in old) c.args.truths.now in
    (seated-told old (holds c.give.new.items.items) c.self.inside.seats same c.self.invariant.0, c.self.invariant.1, set-told old (holds c.give.new.items.items) c.self.inside.last same c.self.invariant.2)

use Rattle.std.proofs.Common.{slice_get, sym, ap, ◌∙◌}
use Rattle.xf_binds.specs.Held.{held_on, holds, passes}
use Rattle.xf_binds.proofs.Unset.{unset-at}
use Rattle.xf_binds.proofs.applied.Applied.seat.Goals as goal

pub returns-in-None : goal.returns-in-None
returns-in-None c = λ i.
    let n = c.args.node.number in
    let p = c.args.property in
    sym (unset-at (holds c.self.inside.items.items) c.self.inside.last n p i c.self.invariant.2 (sym c.at.ensures ∙ c.in-None.is)) ∙ ap (λ l. passes (held_on n p) (slice_get l i)) c.self.view_is

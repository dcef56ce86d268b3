use Rattle.std.proofs.Common.{is_some, ap, ◌∙◌}
use Rattle.xf_binds.specs.Held.{entries_in}
use Rattle.xf_binds.proofs.Unset.{place-found}
use Rattle.xf_binds.proofs.applied.Applied.has.Goals as goal

pub returns : goal.returns
returns c = c.is_some.ensures ∙ ap is_some c.place.ensures ∙ place-found (entries_in c.args.self.now) c.args.node.number c.args.property

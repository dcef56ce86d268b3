use Rattle.std.proofs.Common.{◌≡◌, Some, None, sym, ap, ◌∙◌}
use Rattle.xf_binds.specs.Held.{entries_in}
use Rattle.xf_binds_rebuild.specs.Found.{asks_or}
use Rattle.xf_binds_rebuild.proofs.Placed.{asks-some, asks-none}
use Rattle.xf_binds_rebuild.proofs.readers.asks_at.Goals as goal

pub returns-in-Some : goal.returns-in-Some
returns-in-Some c =
    ap asks_or c.get.ensures ∙ asks-some (entries_in c.args.applied.now) c.args.web.now c.args.node.number c.in-Some.place (sym c.place.ensures ∙ c.in-Some.is)

pub returns-in-None : goal.returns-in-None
returns-in-None c = asks-none (entries_in c.args.applied.now) c.args.web.now c.args.node.number (sym c.place.ensures ∙ c.in-None.is)

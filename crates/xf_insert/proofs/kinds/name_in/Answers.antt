use Rattle.std.proofs.Common.{sym, ◌∙◌}
use Rattle.xf_insert.proofs.KindLaws.{no-name}
use Rattle.xf_insert.proofs.kinds.name_in.Goals as goal

pub returns-then-not-is_live : goal.returns-then-not-is_live
returns-then-not-is_live c = sym (no-name c.args.node.number c.args.forest.now.forest.nodes (sym c.is_live.ensures ∙ c.if-not-is_live.true))

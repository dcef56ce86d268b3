use Rattle.std.proofs.Common.{sym}
use Rattle.std.proofs.lemmas.Bool.{OnFalse_at}
use Rattle.xf_valid.proofs.Unset.{own-unset}
use Rattle.xf_valid.proofs.above.own_where.Goals as goal

pub returns : goal.returns
returns c = sym (own-unset c.args.table.now c.args.property c.args.default c.args.node.number c.requires.computed (OnFalse_at c.if-is_set.false c.requires.looks))

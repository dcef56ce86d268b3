use Rattle.std.proofs.Common.{sym, ap, ◌∙◌}
use Rattle.xf_binds.specs.Table.{truth_told}
use Rattle.xf_binds.proofs.Truths.{own-among}
use Rattle.xf_valid.proofs.nodes.own.Goals as goal

pub returns-in-Some : goal.returns-in-Some
returns-in-Some c =
    c.truth_or.ensures ∙ ap (truth_told c.args.default) c.in-Some.ensures ∙ sym (own-among c.args.table.now c.args.node.number c.args.property c.args.default c.requires)

pub returns-in-None : goal.returns-in-None
returns-in-None c = ap (truth_told c.args.default) c.in-None.ensures ∙ sym (own-among c.args.table.now c.args.node.number c.args.property c.args.default c.requires)

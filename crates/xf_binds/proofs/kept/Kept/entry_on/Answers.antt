use Rattle.std.proofs.Common.{Some, None, find, ap, ◌∙◌}
use Rattle.xf_def_model.specs.Properties.{sets_on}
use Rattle.xf_binds.proofs.Items.{found-entry}
use Rattle.xf_binds.proofs.kept.Kept.entry_on.Goals as goal

pub returns-in-Some : goal.returns-in-Some
returns-in-Some c =
    found-entry c.present.result.now c.args.node.number c.args.property (Some c.in-Some.item) c.in-Some.ensures ∙ ap (find (sets_on c.args.node.number c.args.property)) c.present.ensures

pub returns-in-None : goal.returns-in-None
returns-in-None c =
    found-entry c.present.result.now c.args.node.number c.args.property None c.in-None.ensures ∙ ap (find (sets_on c.args.node.number c.args.property)) c.present.ensures

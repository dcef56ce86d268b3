use Rattle.std.proofs.Common.{is_some, find, ap, ◌∙◌}
use Rattle.xf_def_model.specs.Properties.{sets_on}
use Rattle.xf_binds.proofs.Unset.{told-found}
use Rattle.xf_binds.proofs.kept.Kept.has.Goals as goal

pub returns : goal.returns
returns c =
    c.has.ensures ∙ ap (λ es. is_some (find (sets_on c.args.node.number c.args.property) es)) c.present.ensures ∙ told-found c.args.self.now c.args.property c.args.node.number

use Rattle.std.proofs.Common.{refl, sym, ap, ◌∙◌}
use Rattle.xf_def_model.specs.declared.property.Property.TheVariants.{Calculate, Readonly}
use Rattle.xf_def_model.specs.Properties.{own}
use Rattle.xf_binds.specs.Kept.{values_in}
use Rattle.xf_binds.proofs.Truths.{has-among}
use Rattle.xf_valid.proofs.nodes.own_readonly.Goals as goal

pub returns : goal.returns
returns c =
    c.own.ensures
    ∙ ap (λ d. own (values_in c.args.table.now) Readonly d c.args.node.number) (c.has-is_calculated.ensures ∙ sym (has-among c.args.table.now c.args.node.number Calculate refl))

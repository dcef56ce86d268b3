use Rattle.std.proofs.Common.{ap, ◌∙◌}
use Rattle.xf_def_model.specs.declared.property.Property.TheVariants.{Readonly}
use Rattle.xf_def_model.specs.Properties.{own}
use Rattle.xf_binds.specs.Kept.{values_in}
use Rattle.xf_valid.proofs.above.readonly_where.Goals as goal

pub returns : goal.returns
returns c = c.own_where.ensures ∙ ap (λ d. own (values_in c.args.table.now) Readonly d c.args.node.number) c.is_calculated-is_calculated.ensures

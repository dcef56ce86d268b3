use Rattle.xf_def_model.specs.declared.property.Property.TheVariants.{Required}
use Rattle.xf_valid.proofs.Unset.{unset-from}
use Rattle.xf_valid.proofs.nodes.is_required.Goals as goal

pub own_where-requires-clause-looks : goal.own_where-requires-clause-looks
own_where-requires-clause-looks c = unset-from c.sets-is_set.result c.args.table.now Required c.sets-is_set.ensures

use Rattle.xf_def_model.specs.declared.property.Property.TheVariants.{Calculate, Relevant, Readonly}
use Rattle.xf_valid.proofs.Unset.{unset-from}
use Rattle.xf_valid.proofs.above.looks_of.Goals as goal

pub returns : goal.returns
returns c =
    let table = c.args.table.now in
    (unset-from c.sets.result table Relevant c.sets.ensures, unset-from c.sets-2.result table Readonly c.sets-2.ensures, unset-from c.sets-3.result table Calculate c.sets-3.ensures)

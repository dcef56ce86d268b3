use Rattle.std.proofs.Common.{refl, sym, ◌∙◌}
use Rattle.std.proofs.lemmas.Bool.{OnFalse_at}
use Rattle.xf_def_model.specs.declared.property.Property.TheVariants.{Calculate}
use Rattle.xf_binds.proofs.Truths.{has-among}
use Rattle.xf_valid.proofs.Unset.{has-unset}
use Rattle.xf_valid.proofs.above.is_calculated.Goals as goal

pub returns-then-is_set : goal.returns-then-is_set
returns-then-is_set c = c.has.ensures ∙ sym (has-among c.args.table.now c.args.node.number Calculate refl)

pub returns : goal.returns
returns c = sym (has-unset c.args.table.now c.args.node.number (OnFalse_at c.if-is_set.false c.requires))

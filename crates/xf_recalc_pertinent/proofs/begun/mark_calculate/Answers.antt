use Rattle.std.proofs.Common.{◌<◌, length, sym, subst}
use Rattle.xf_def_model.specs.declared.property.Property.TheVariants.{Calculate}
use Rattle.xf_binds.specs.Table.{kept_at}
use Rattle.xf_recalc_pertinent.proofs.Calculated.{calculated-one, place-within}
use Rattle.xf_recalc_pertinent.proofs.begun.mark_calculate.Goals as goal

pub set-requires : goal.set-requires
set-requires c =
    subst (λ k. c.in-Some.place < k) (sym c.requires.size)
    (place-within (kept_at c.args.table.now c.args.model).entries c.args.node.number Calculate c.in-Some.place (sym c.in-Some.ensures))

pub returns-in-Some : goal.returns-in-Some
returns-in-Some c =
    calculated-one (kept_at c.args.table.now c.args.model).entries c.requires.single c.args.node.number c.in-Some.place c.args.marks.now c.set.new.self c.requires.size c.in-Some.ensures c.set.ensures

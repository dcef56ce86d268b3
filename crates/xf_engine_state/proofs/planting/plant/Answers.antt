use Rattle.std.proofs.Common.{Err, sym, ap, ◌∙◌, subst}
use Rattle.xf_form.specs.Data.{lit_at}
use Rattle.xf_engine_state.specs.Planting.{Grows, document_in}
use Rattle.xf_engine_state.proofs.PlantLaws.{step-alone, step-hung, told-fault}
use Rattle.xf_engine_state.proofs.planting.plant.Goals as goal

pub returns-in_ok-add_root-in-Ok-clause-alone : goal.returns-in_ok-add_root-in-Ok-clause-alone
returns-in_ok-add_root-in-Ok-clause-alone c =
    let at = ap (λ places. lit_at places c.args.loaded.now.lit) (sym c.as_slice.ensures) ∙ sym c.in-Some.ensures in
    step-alone c.args.loaded.now c.args.instance.now c.args.forest.now.forest c.args.made c.in-Some.tree.now at c.in-Ok.top.number c.in_ok-add_root-in-Ok.field-0.number
    c.plant.new.self.forest c.add_root.new.self.forest c.are_trees.ensures.below c.requires.alone c.in-Ok.ensures.answer c.in_ok-add_root-in-Ok.ensures.ok

pub returns-in_ok-add_root-in-Ok-clause-hung : goal.returns-in_ok-add_root-in-Ok-clause-hung
returns-in_ok-add_root-in-Ok-clause-hung c =
    let at = ap (λ places. lit_at places c.args.loaded.now.lit) (sym c.as_slice.ensures) ∙ sym c.in-Some.ensures in
    step-hung c.args.loaded.now c.args.instance.now c.args.forest.now.forest c.args.made c.in-Some.tree.now at c.in-Ok.top.number c.in_ok-add_root-in-Ok.field-0.number
    c.plant.new.self.forest c.add_root.new.self.forest c.are_trees.ensures.below c.requires.alone c.requires.hung (c.may_root.ensures.0 c.if-not-may_root.false).kind
    c.in-Ok.ensures.answer c.in_ok-add_root-in-Ok.ensures.ok

pub returns-in-Err-clause-done : goal.returns-in-Err-clause-done
returns-in-Err-clause-done c =
    let at = ap (λ places. lit_at places c.args.loaded.now.lit) (sym c.as_slice.ensures) ∙ sym c.in-Some.ensures in
    let given = document_in c.args.loaded.now c.args.instance.now c.args.forest.now.forest c.args.made in
    subst (λ fault. Grows (Err fault) c.args.loaded.now c.plant.new.self.forest given) (sym c.fault_of.ensures)
    (told-fault c.args.loaded.now c.args.instance.now c.args.forest.now.forest c.args.made c.in-Some.tree.now at c.in-Err.fault c.plant.new.self.forest c.in-Err.ensures.answer)

use Rattle.std.proofs.Common.{rules, ap, ◌∙◌, sym}
use Rattle.xf_engine_state.specs.Planting.{documents_grown}
use Rattle.xf_engine_state.proofs.BegunLaws.{shape-planted, told-true}
use Rattle.xf_engine_state.proofs.planting.ground_of.Goals as goal

pub held-requires-clause-shape : goal.held-requires-clause-shape
held-requires-clause-shape c =
    let l = c.args.loaded.now in
    shape-planted l c.plant_all.new.forest.forest c.in_ok-made.made (ap (λ k. documents_grown l l.form.tables.instances k.forest 0) (sym c.new-forest.ensures) ∙ c.in_ok-made.ensures.done)

pub held-requires-clause-plain : goal.held-requires-clause-plain
held-requires-clause-plain c = told-true c.is_plain-is_plain.result _ c.is_plain-is_plain.ensures

pub returns : goal.returns
returns c =
    let l = c.args.loaded.now in
    record {
      grown = ap (λ k. documents_grown l l.form.tables.instances k.forest 0) (sym c.new-forest.ensures) ∙ c.in_ok-made.ensures.done;
      alone = c.in_ok-made.ensures.alone;
      hung = c.in_ok-made.ensures.hung;
      plain = told-true c.is_plain-is_plain.result _ c.is_plain-is_plain.ensures;
      held = c.in_ok-bound_nodes.ensures;
      bound = c.are_bound-is_bound.ensures.bound;
      few = search rules;
      table = search rules;
      flags = search rules;
      old_flags = search rules;
    }

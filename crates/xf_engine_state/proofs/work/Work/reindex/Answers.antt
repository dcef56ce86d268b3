use Rattle.std.proofs.Common.{◌≡◌, map, length, refl, sym, ap, ◌∙◌, subst}
use Rattle.std.proofs.lemmas.List.{with_items_is}
use Rattle.std.specs.Vec.{with_items}
use Rattle.xf_eval_context.specs.Indexes.{seen_index}
use Rattle.xf_def_machine.specs.Update.{reindex}
use Rattle.xf_def_form.specs.Formed.{profile}
use Rattle.xf_engine_state.specs.Choosing.{HasData}
use Rattle.xf_engine_state.specs.Does.{Does, Twin}
use Rattle.xf_engine_state.specs.Parts.{chosen_of, standing_of}
use Rattle.xf_engine_state.specs.Standing.{state_of}
use Rattle.xf_engine_state.proofs.work.Work.reindex.Goals as goal

pub invariant_of-self : goal.invariant_of-self
invariant_of-self c =
    let w = c.self.inside in
    let i = c.self.invariant in
    let fs = c.bring_over.new.indexes in
    let many : length fs ≡ w.indexes.len = c.bring_over.auto.indexes ∙ c.as_mut_slice.ensures.len in
    record {
      sound = i.sound;
      now = i.now;
      before = i.before;
      alone = i.alone;
      indexes = i.indexes ∙ sym w.indexes.ok.0 ∙ sym many ∙ sym (ap length (with_items_is w.indexes fs many));
      cases = i.cases;
      plain = i.plain;
      held = i.held;
      bound = i.bound;
      first = i.first;
    }

pub returns-clause-done : goal.returns-clause-done
returns-clause-done c =
    let w = c.self.inside in
    let r = c.bring_over.result in
    let fs = c.bring_over.new.indexes in
    let many : length fs ≡ w.indexes.len = c.bring_over.auto.indexes ∙ c.as_mut_slice.ensures.len in
    let here = standing_of (chosen_of w.indexes.items w.cases.items) w.loaded w.draft.now w.table w.flags.items w.shown.now w.tally in
    let data_of : HasData w.loaded.form w.loaded.prefixes c.forest.result.now.forest here = record { same_form = refl; same_prefixes = refl; same_forest = sym c.forest.ensures } in
    subst (λ (t : Twin). Does r (record here { indexes = map seen_index (with_items w.indexes fs).items }) (reindex profile c.args.added.now (state_of t.now))) c.self.view_is
    (subst (λ xs. Does r (record here { indexes = map seen_index xs }) (reindex profile c.args.added.now (state_of here))) (sym (with_items_is w.indexes fs many))
    (subst (λ ns. Does r (record here { indexes = map seen_index fs }) (reindex profile ns (state_of here))) c.in_ok-added.ensures
    (subst (λ xs. Does r (record here { indexes = map seen_index fs }) (reindex profile c.in_ok-added.added (state_of (record here { indexes = map seen_index xs })))) c.as_mut_slice.ensures.value
    (c.bring_over.ensures here (c.surrounding-over.ensures here data_of)))))

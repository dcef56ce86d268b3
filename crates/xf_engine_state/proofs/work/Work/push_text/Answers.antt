use Rattle.std.proofs.Common.{◌++◌, string_bytes, ap, ◌∙◌, subst}
use Rattle.std.proofs.lemmas.Result.{on_ok_weaker}
use Rattle.xf_def_machine.specs.ControlText.{state_text}
use Rattle.xf_engine_state.specs.Calls.{Writes}
use Rattle.xf_def_form.specs.Formed.{profile}
use Rattle.xf_engine_state.specs.Does.{Twin}
use Rattle.xf_engine_state.specs.Parts.{chosen_of}
use Rattle.xf_engine_state.specs.Standing.{state_of}
use Rattle.xf_engine_state.proofs.work.Work.push_text.Goals as goal

pub returns : goal.returns
returns c =
    let w = c.self.inside in
    let before = string_bytes c.args.text.now in
    let after = string_bytes c.push_text.new.text in
    on_ok_weaker c.push_text.result
    (λ (h : Writes (chosen_of c.as_slice.result.now c.as_slice-2.result.now) w.loaded c.forest.result.now.forest w.table c.list.result.now before after).
    subst (λ f. Writes (chosen_of w.indexes.items w.cases.items) w.loaded f w.table w.shown.now before after) c.forest.ensures
    (subst (λ cs. Writes (chosen_of w.indexes.items w.cases.items) w.loaded c.forest.result.now.forest w.table cs before after) c.list.ensures
    (subst (λ ns. Writes (chosen_of w.indexes.items ns) w.loaded c.forest.result.now.forest w.table c.list.result.now before after) c.as_slice-2.ensures.value
    (subst (λ xs. Writes (chosen_of xs c.as_slice-2.result.now) w.loaded c.forest.result.now.forest w.table c.list.result.now before after) c.as_slice.ensures.value h)))
    w.flags.items w.tally c.self.invariant.sound.many
    ∙ ap (λ (t : Twin). before ++ state_text profile (state_of t.now)) c.self.view_is)
    c.push_text.ensures

use Rattle.std.proofs.Common.{Ok, subst}
use Rattle.xf_def_forest.specs.Shape.{has_elements}
use Rattle.xf_def_machine.specs.SetValue.{unless_parent}
use Rattle.xf_def_machine.specs.Surround.{all_in}
use Rattle.xf_engine_state.specs.Parts.{chosen_of}
use Rattle.xf_engine_state.specs.Does.{Does, Twin}
use Rattle.xf_engine_state.specs.Setting.{MayBeSet}
use Rattle.xf_engine_state.specs.Standing.{state_of}
use Rattle.xf_engine_state.proofs.SetLaws.{may-does}
use Rattle.xf_engine_state.proofs.work.Work.may_set.Goals as goal

pub returns : goal.returns
returns c =
    let w = c.self.inside in
    let n = c.args.node.number in
    let told = c.may_set.result in
    subst (λ (t : Twin). Does {X = Unit {0}} told t.now (unless_parent (has_elements (all_in (state_of t.now)) n) n (λ s. Ok s) (state_of t.now))) c.self.view_is
    (may-does (chosen_of w.indexes.items w.cases.items) w.loaded w.draft.now w.table w.flags.items w.shown.now w.tally n told
    (subst (λ is. MayBeSet {X = Unit {0}} is w.draft.now n told) c.as_slice-instances.ensures
    (subst (λ f. MayBeSet {X = Unit {0}} c.as_slice-instances.result.now f n told) c.forest.ensures c.may_set.ensures)))

use Rattle.std.proofs.Common.{◌≡◌, Ok, sym, subst}
use Rattle.std.specs.Bool.{OnTrue}
use Rattle.xf_def_forest.specs.Forest.{Forest}
use Rattle.xf_def_forest.specs.WellFormed.{HasTrees}
use Rattle.xf_def_machine.specs.Construct.{construct}
use Rattle.xf_def_form.specs.Formed.{profile, program_in}
use Rattle.xf_engine_state.specs.Does.{Twin}
use Rattle.xf_engine_state.specs.FirstData.{AreDocuments}
use Rattle.xf_engine_state.specs.Fit.{AreAsPlanted}
use Rattle.xf_engine_state.specs.Parts.{chosen_of, standing_of}
use Rattle.xf_engine_state.specs.Standing.{state_of}
use Rattle.xf_engine_state.proofs.FirstLaws.{first-data}
use Rattle.xf_engine_state.proofs.work.Work.keep_first_data.Goals as goal

pub invariant_of-self : goal.invariant_of-self
invariant_of-self c =
    let w = c.self.inside in
    let s = state_of (standing_of (chosen_of w.indexes.items w.cases.items) w.loaded w.draft.now w.table w.flags.items w.shown.now w.tally) in
    let built : construct profile (program_in w.loaded) ≡ Ok (state_of (standing_of (chosen_of w.indexes.items w.cases.items) w.loaded w.draft.now w.table w.flags.items w.shown.now w.tally)) =
    subst (λ (t : Twin). construct profile (state_of t.now).form ≡ Ok (state_of t.now)) (sym c.self.view_is) c.requires in
    let planted : AreAsPlanted w.loaded w.draft.now = subst (λ b. OnTrue b (AreAsPlanted w.loaded w.draft.now)) c.if-not-self.false c.self.invariant.now.planted in
    let trees : HasTrees w.draft.now = subst HasTrees c.forest-forest.ensures c.are_counted.ensures.trees in
    let documents : AreDocuments w.draft.now.nodes c.in_ok-trees.trees = subst (λ (f : Forest). AreDocuments f.nodes c.in_ok-trees.trees) c.forest-forest.ensures c.in_ok-trees.ensures.documents in
    record {
      sound = c.self.invariant.sound;
      now = c.self.invariant.now;
      before = c.self.invariant.before;
      alone = c.self.invariant.alone;
      indexes = c.self.invariant.indexes;
      cases = c.self.invariant.cases;
      plain = c.self.invariant.plain;
      held = c.self.invariant.held;
      bound = c.self.invariant.bound;
      first = first-data w.loaded s c.in_ok-trees.trees c.in_ok-trees.ensures.elements built trees planted.shape documents;
    }

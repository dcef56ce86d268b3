use Rattle.std.proofs.Common.{◌≡◌, true, map, sym, subst}
use Rattle.std.proofs.lemmas.Bool.{OnTrue_at}
use Rattle.xf_def_forest.specs.Forest.{Forest}
use Rattle.xf_def_forest.specs.WellFormed.{HasTrees}
use Rattle.xf_def_forest.proofs.TextLaws.{in_forest}
use Rattle.xf_law_recalculation.specs.Agree.Hung.{are_hung}
use Rattle.xf_controls.specs.Known.{AreKnown}
use Rattle.xf_controls.specs.Seen.{seen_copy}
use Rattle.xf_controls.proofs.KnownLaws.{nothing-known}
use Rattle.xf_def_ui.specs.Interface.{interface_of}
use Rattle.xf_def_machine.specs.Update as update
use Rattle.xf_engine_state.specs.Calls.{Shows}
use Rattle.xf_def_form.specs.Formed.{profile}
use Rattle.xf_engine_state.specs.Does.{Finds, Twin}
use Rattle.xf_engine_state.specs.Fit.{AreAsPlanted}
use Rattle.xf_engine_state.specs.Held.{around_over}
use Rattle.xf_engine_state.specs.Parts.{chosen_of}
use Rattle.xf_engine_state.specs.Standing.{state_of}
use Rattle.xf_engine_state.proofs.work.Work.made_plainly.Goals as goal

pub shown-requires-clause-hung : goal.shown-requires-clause-hung
shown-requires-clause-hung c = subst (λ f. are_hung f.nodes ≡ true) (sym c.forest-forest.ensures) c.self.invariant.sound.now.hung

pub shown-requires-clause-known : goal.shown-requires-clause-known
shown-requires-clause-known c =
    let w = c.self.inside in
    let trees : HasTrees w.draft.now = subst HasTrees c.forest-forest.ensures (in_forest c.are_trees.ensures) in
    let planted : AreAsPlanted w.loaded w.draft.now = OnTrue_at c.if-self.true c.self.invariant.now.planted in
    subst (λ (f : Forest). AreKnown (interface_of w.loaded.form) (around_over w.loaded f) f.nodes w.bound_nodes) (sym c.forest-forest.ensures)
    (c.self.invariant.held.over w.draft.now trees c.self.invariant.sound.now.hung planted.shape)

pub returns-then-self : goal.returns-then-self
returns-then-self c =
    let w = c.self.inside in
    subst (λ (t : Twin). Finds (map seen_copy) c.shown.result (update.shown profile (state_of t.now))) c.self.view_is
    (subst (λ f. Shows (chosen_of w.indexes.items w.cases.items) w.loaded f w.table c.shown.result) c.forest-forest.ensures (c.shown.ensures (chosen_of w.indexes.items w.cases.items)) w.flags.items w.shown.now w.tally c.self.invariant.sound.many)

pub shown-requires-2-clause-hung : goal.shown-requires-2-clause-hung
shown-requires-2-clause-hung c = subst (λ f. are_hung f.nodes ≡ true) (sym c.forest-forest.ensures) c.self.invariant.sound.now.hung

pub shown-requires-2-clause-known : goal.shown-requires-2-clause-known
shown-requires-2-clause-known c =
    let w = c.self.inside in
    let f = c.forest-forest.result.now.forest in
    nothing-known (interface_of w.loaded.form) (around_over w.loaded f) f.nodes c.new-nothing.result c.new-nothing.ensures

pub returns : goal.returns
returns c =
    let w = c.self.inside in
    subst (λ (t : Twin). Finds (map seen_copy) c.shown-2.result (update.shown profile (state_of t.now))) c.self.view_is
    (subst (λ f. Shows (chosen_of w.indexes.items w.cases.items) w.loaded f w.table c.shown-2.result) c.forest-forest.ensures (c.shown-2.ensures (chosen_of w.indexes.items w.cases.items)) w.flags.items w.shown.now w.tally c.self.invariant.sound.many)

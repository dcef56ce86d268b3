use Rattle.std.proofs.Common.{List, Err, sym, ap, ◌∙◌, subst}
use Rattle.std.proofs.lemmas.Bool.{OnTrue_at}
use Rattle.std.proofs.lemmas.Result.{err_from_is_err_and}
use Rattle.xf_def_forest.specs.Forest.{Forest}
use Rattle.xf_def_forest.specs.WellFormed.{HasTrees}
use Rattle.xf_def_forest.proofs.BackLaws.{and-true}
use Rattle.xf_def_forest.proofs.TextLaws.{in_forest}
use Rattle.xf_binds.specs.Table.{all_rolled_back}
use Rattle.xf_controls.specs.declared.refresh.Notification.{Notification}
use Rattle.xf_controls.specs.Renewed.{AreThere, renewed}
use Rattle.xf_engine_state.specs.Calls.{AreShown, Renews, ShowsOthers}
use Rattle.xf_engine_state.specs.Does.{Twin}
use Rattle.xf_engine_state.specs.Fit.{IsRight}
use Rattle.xf_engine_state.specs.Parts.{chosen_of, standing_of}
use Rattle.xf_engine_state.specs.Steady.{AreSteady, IsShaped}
use Rattle.xf_engine_state.proofs.RefreshLaws.{again-steady, planted-shaped, renewed-done, renewed-fails}
use Rattle.xf_engine_state.proofs.work.Work.show_again.Goals as goal

pub renew-requires-clause-there : goal.renew-requires-clause-there
renew-requires-clause-there c =
    let w = c.self.inside in
    let i = c.self.invariant in
    let steady : AreSteady w.loaded w.table w.shown.now = OnTrue_at (and-true w.knowledge.is_steady w.knowledge.is_planted (sym c.may_renew.ensures ∙ c.if-may_renew.true)).0 i.now.steady in
    let shaped : IsShaped w.loaded w.draft.now = planted-shaped w.loaded w.draft.now i.sound.now.hung (OnTrue_at (and-true w.knowledge.is_steady w.knowledge.is_planted (sym c.may_renew.ensures ∙ c.if-may_renew.true)).1 i.now.planted) (subst HasTrees c.forest-forest.ensures (in_forest c.are_trees.ensures)) in
    subst (λ (f : Forest). AreThere w.shown.now f.nodes) (sym c.forest-forest.ensures) (steady.there w.draft.now shaped)

pub renew-requires-clause-rising : goal.renew-requires-clause-rising
renew-requires-clause-rising c =
    let w = c.self.inside in
    let steady : AreSteady w.loaded w.table w.shown.now = OnTrue_at (and-true w.knowledge.is_steady w.knowledge.is_planted (sym c.may_renew.ensures ∙ c.if-may_renew.true)).0 c.self.invariant.now.steady in
    steady.rising

pub invariant_of-self : goal.invariant_of-self
invariant_of-self c =
    let w = c.self.inside in
    let i = c.self.invariant in
    record {
      sound = i.sound;
      now = record { known = i.now.known; steady = tt; planted = i.now.planted; alone = i.now.alone };
      before = subst (λ list. IsRight w.loaded w.draft.kept (all_rolled_back w.table) list w.old_knowledge) (sym c.in_err-told.ensures.kept) i.before;
      alone = i.alone;
      indexes = i.indexes;
      cases = i.cases;
      plain = i.plain;
      held = i.held;
      bound = i.bound;
      first = i.first;
    }

pub returns-in_err-told-clause-done : goal.returns-in_err-told-clause-done
returns-in_err-told-clause-done c =
    let w = c.self.inside in
    let i = c.self.invariant in
    let told = c.in_err-told.field-0.0 in
    let list = c.renew.new.shown.now in
    let steady : AreSteady w.loaded w.table w.shown.now = OnTrue_at (and-true w.knowledge.is_steady w.knowledge.is_planted (sym c.may_renew.ensures ∙ c.if-may_renew.true)).0 i.now.steady in
    let shaped : IsShaped w.loaded w.draft.now = planted-shaped w.loaded w.draft.now i.sound.now.hung (OnTrue_at (and-true w.knowledge.is_steady w.knowledge.is_planted (sym c.may_renew.ensures ∙ c.if-may_renew.true)).1 i.now.planted) (subst HasTrees c.forest-forest.ensures (in_forest c.are_trees.ensures)) in
    let after = standing_of (chosen_of w.indexes.items w.cases.items) w.loaded w.draft.now w.table w.flags.items list w.tally in
    let here = subst (λ (f : Forest). Renews {X = List Notification} (Err told) (renewed f.nodes w.shown.now) list) c.forest-forest.ensures c.in_err-told.ensures.done in
    let p = err_from_is_err_and c.from_residual.result c.from_residual.ensures.1 in
    rw (p.1, p.2) (subst (λ (t : Twin). ShowsOthers (Err told) t.now after) c.self.view_is
    (renewed-fails (chosen_of w.indexes.items w.cases.items) w.loaded i.sound.loaded w.draft.now w.table w.flags.items w.shown.now w.tally i.sound.many shaped steady told list after here))

pub invariant_of-self-then-may_renew : goal.invariant_of-self-then-may_renew
invariant_of-self-then-may_renew c =
    let w = c.self.inside in
    let i = c.self.invariant in
    let steady : AreSteady w.loaded w.table w.shown.now = OnTrue_at (and-true w.knowledge.is_steady w.knowledge.is_planted (sym c.may_renew.ensures ∙ c.if-may_renew.true)).0 i.now.steady in
    record {
      sound = i.sound;
      now = record {
        known = i.now.known;
        steady = again-steady w.loaded w.table w.draft.now w.shown.now c.renew.new.shown.now (ap (λ (f : Forest). renewed f.nodes w.shown.now) (sym c.forest-forest.ensures) ∙ c.in_ok-told.ensures.done) steady;
        planted = i.now.planted;
        alone = i.now.alone;
      };
      before = subst (λ list. IsRight w.loaded w.draft.kept (all_rolled_back w.table) list w.old_knowledge) (sym c.in_ok-told.ensures.kept) i.before;
      alone = i.alone;
      indexes = i.indexes;
      cases = i.cases;
      plain = i.plain;
      held = i.held;
      bound = i.bound;
      first = i.first;
    }

pub returns-then-may_renew-clause-done : goal.returns-then-may_renew-clause-done
returns-then-may_renew-clause-done c =
    let w = c.self.inside in
    let i = c.self.invariant in
    let list = c.renew.new.shown.now in
    let steady : AreSteady w.loaded w.table w.shown.now = OnTrue_at (and-true w.knowledge.is_steady w.knowledge.is_planted (sym c.may_renew.ensures ∙ c.if-may_renew.true)).0 i.now.steady in
    let shaped : IsShaped w.loaded w.draft.now = planted-shaped w.loaded w.draft.now i.sound.now.hung (OnTrue_at (and-true w.knowledge.is_steady w.knowledge.is_planted (sym c.may_renew.ensures ∙ c.if-may_renew.true)).1 i.now.planted) (subst HasTrees c.forest-forest.ensures (in_forest c.are_trees.ensures)) in
    subst (λ (t : Twin). AreShown c.in_ok-told.told t.now (standing_of (chosen_of w.indexes.items w.cases.items) w.loaded w.draft.now w.table w.flags.items list w.tally)) c.self.view_is
    (renewed-done (chosen_of w.indexes.items w.cases.items) w.loaded i.sound.loaded w.draft.now w.table w.flags.items w.shown.now w.tally i.sound.many shaped steady list c.in_ok-told.told
    (ap (λ (f : Forest). renewed f.nodes w.shown.now) (sym c.forest-forest.ensures) ∙ c.in_ok-told.ensures.done) c.in_ok-told.ensures.told)

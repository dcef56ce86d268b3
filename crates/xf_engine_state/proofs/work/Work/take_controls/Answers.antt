use Rattle.std.proofs.Common.{◌≡◌, Ok, map, sym, ap, ◌∙◌, subst}
use Rattle.std.specs.Bool.{OnTrue}
use Rattle.xf_def_forest.specs.WellFormed.{HasTrees}
use Rattle.xf_def_forest.proofs.TextLaws.{in_forest}
use Rattle.xf_binds.specs.Table.{all_rolled_back}
use Rattle.xf_controls.specs.Rising.{is_rising}
use Rattle.xf_controls.specs.Seen.{seen_copy}
use Rattle.xf_def_machine.specs.Update as update
use Rattle.xf_def_form.specs.Formed.{profile}
use Rattle.xf_engine_state.specs.Does.{Twin}
use Rattle.xf_engine_state.specs.Fit.{IsRight}
use Rattle.xf_engine_state.specs.Parts.{chosen_of, standing_of}
use Rattle.xf_engine_state.specs.Standing.{state_of}
use Rattle.xf_engine_state.specs.Steady.{AreSteady}
use Rattle.xf_engine_state.proofs.RefreshLaws.{steady-taken}
use Rattle.xf_engine_state.proofs.work.Work.take_controls.Goals.{then-may_be, else-may_be}
use Rattle.xf_engine_state.proofs.work.Work.take_controls.Goals as goal

pub invariant_of-self : goal.invariant_of-self
invariant_of-self c =
    let w = c.self.inside in
    let i = c.self.invariant in
    let trees : HasTrees w.draft.now = subst HasTrees c.forest.ensures (in_forest c.are_trees.ensures) in
    let shown : update.shown profile (state_of (standing_of (chosen_of w.indexes.items w.cases.items) w.loaded w.draft.now w.table w.flags.items w.shown.now w.tally)) ≡ Ok (map seen_copy c.args.list) =
    ap (λ (t : Twin). update.shown profile (state_of t.now)) c.self.view_is ∙ c.requires in
    record {
      sound = i.sound;
      now = record {
        known = i.now.known;
        steady = subst (λ list. OnTrue c.if-may_be.self (AreSteady w.loaded w.table list)) (sym c.take.ensures.now) (elim c.if-may_be.branch [
          | then-may_be t ↦ subst (λ b. OnTrue b (AreSteady w.loaded w.table c.args.list)) (sym t.self-is)
              (steady-taken (chosen_of w.indexes.items w.cases.items) w.loaded i.sound.loaded w.draft.now w.table w.flags.items w.shown.now w.tally i.sound.many i.sound.now.hung trees w.bound_nodes c.args.list w.knowledge.is_planted w.is_plain w.is_bound t.is_rising-self-inside.result i.held
              i.now.planted i.plain i.bound (sym c.may_be_steady-may_be.ensures ∙ t.if-may_be.true) (t.is_rising-self-inside.ensures ∙ ap is_rising c.take.ensures.now) shown)
          | else-may_be e ↦ subst (λ b. OnTrue b (AreSteady w.loaded w.table c.args.list)) (sym (e.self-is ∙ e.if-may_be.false)) tt
        ]);
        planted = i.now.planted;
        alone = i.now.alone;
      };
      before = subst (λ list. IsRight w.loaded w.draft.kept (all_rolled_back w.table) list w.old_knowledge) (sym c.take.ensures.kept) i.before;
      alone = i.alone;
      indexes = i.indexes;
      cases = i.cases;
      plain = i.plain;
      held = i.held;
      bound = i.bound;
      first = i.first;
    }

pub returns-clause-now : goal.returns-clause-now
returns-clause-now c =
    let w = c.self.inside in
    ap (λ list. standing_of (chosen_of w.indexes.items w.cases.items) w.loaded w.draft.now w.table w.flags.items list w.tally) c.take.ensures.now ∙ ap (λ (t : Twin). record t.now { controls = map seen_copy c.args.list }) c.self.view_is

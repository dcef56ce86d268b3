use Rattle.std.proofs.Common.{◌≡◌, ◌<◌, ◌≤◌, ◌+◌, suc, max, arith, length, get_or, Ok, Err, sym, ap, ◌∙◌, subst}
use Rattle.std.proofs.lemmas.List.{with_items_is}
use Rattle.std.specs.Prelude.{slice_set}
use Rattle.std.specs.Vec.{with_items}
use Rattle.xf_def_machine.specs.Behave as machine
use Rattle.xf_engine_state.specs.declared.flags.Flag.TheVariants.{Rebuild}
use Rattle.xf_engine_state.specs.Built.{IsRenewed, scope_at}
use Rattle.xf_engine_state.specs.Calls.{Rebuilds, rebuilt_flags}
use Rattle.xf_def_form.specs.Formed.{profile}
use Rattle.xf_engine_state.specs.Does.{Does, Twin}
use Rattle.xf_engine_state.specs.Fit.{IsRight}
use Rattle.xf_engine_state.specs.Flags.{none_due, without}
use Rattle.xf_engine_state.specs.Parts.{IsSound, chosen_of, standing_of}
use Rattle.xf_engine_state.specs.Standing.{state_of}
use Rattle.xf_engine_state.proofs.DoesLaws.{does-any}
use Rattle.xf_engine_state.proofs.KnownLaws.{knows-marks}
use Rattle.xf_engine_state.proofs.Models.{flags-length, models-length}
use Rattle.xf_engine_state.proofs.SoundLaws.{sound-renewed, within-table}
use Rattle.xf_engine_state.proofs.work.Work.rebuild.Goals as goal

pub rebuild-requires-clause-model : goal.rebuild-requires-clause-model
rebuild-requires-clause-model c =
    let w = c.self.inside in
    within-table w.table w.flags.items c.args.model c.self.invariant.sound.many (subst (λ (t : Twin). c.args.model < length t.now.models) (sym c.self.view_is) c.requires.model)

pub clear-requires : goal.clear-requires
clear-requires c =
    let w = c.self.inside in
    let h = within-table w.table w.flags.items c.args.model c.self.invariant.sound.many (subst (λ (t : Twin). c.args.model < length t.now.models) (sym c.self.view_is) c.requires.model) in
    subst (λ n. c.args.model < n) (c.self.invariant.sound.many ∙ ap length (sym c.as_mut_slice.ensures.value)) h

pub invariant_of-self : goal.invariant_of-self
invariant_of-self c =
    let w = c.self.inside in
    let i = c.self.invariant.sound in
    let many = flags-length w.flags.items c.args.model (without Rebuild (get_or w.flags.items c.args.model none_due)) in
    let cleared : c.clear.new.flags ≡ rebuilt_flags w.flags.items c.args.model =
    c.clear.ensures ∙ ap (λ fs. slice_set fs c.args.model (without Rebuild (get_or fs c.args.model none_due))) c.as_mut_slice.ensures.value in
    let items = with_items_is w.flags c.clear.new.flags (ap length cleared ∙ many ∙ sym w.flags.ok.0) in
    let renewed = subst (λ f. IsRenewed (scope_at w.loaded f c.args.model) f.nodes w.table c.rebuild.new.table) c.forest-forest.ensures c.in-Ok.ensures.built in
    let s = sound-renewed w.loaded w.draft w.table w.flags.items w.old_flags.items w.built w.old_built i c.args.model c.rebuild.new.table
    (subst (λ (t : Twin). c.args.model ≤ t.built) (sym c.self.view_is) c.requires.built) c.in-Ok.ensures.models c.in-Ok.ensures.kept renewed in
    let one : c.args.model + 1 ≡ suc c.args.model = omega arith in
    record {
      sound = subst (λ n. IsSound w.loaded w.draft c.rebuild.new.table (with_items w.flags c.clear.new.flags).items w.old_flags.items n w.old_built) (sym (c.max-self-inside.ensures ∙ ap (max w.built) one))
          (subst (λ fs. IsSound w.loaded w.draft c.rebuild.new.table fs w.old_flags.items (max w.built (suc c.args.model)) w.old_built) (sym (items ∙ cleared)) s);
      now = record {
        known = knows-marks w.loaded w.draft.now w.table c.rebuild.new.table w.knowledge.known c.in-Ok.ensures.models c.in-Ok.ensures.marks c.self.invariant.now.known;
        steady = tt;
        planted = c.self.invariant.now.planted;
        alone = c.self.invariant.now.alone;
      };
      before = subst (λ t. IsRight w.loaded w.draft.kept t w.shown.kept w.old_knowledge) (sym c.in-Ok.ensures.kept) c.self.invariant.before;
      alone = c.self.invariant.alone;
      indexes = c.self.invariant.indexes;
      cases = c.self.invariant.cases;
      plain = c.self.invariant.plain;
      held = c.self.invariant.held;
      bound = c.self.invariant.bound;
      first = c.self.invariant.first;
    }

pub returns-in-Ok-clause-done : goal.returns-in-Ok-clause-done
returns-in-Ok-clause-done c =
    let w = c.self.inside in
    let many = flags-length w.flags.items c.args.model (without Rebuild (get_or w.flags.items c.args.model none_due)) in
    let cleared : c.clear.new.flags ≡ rebuilt_flags w.flags.items c.args.model =
    c.clear.ensures ∙ ap (λ fs. slice_set fs c.args.model (without Rebuild (get_or fs c.args.model none_due))) c.as_mut_slice.ensures.value in
    let items = with_items_is w.flags c.clear.new.flags (ap length cleared ∙ many ∙ sym w.flags.ok.0) in
    let done = subst (λ f. Rebuilds {X = Unit {0}} w.loaded f c.args.model w.table c.rebuild.new.table (Ok tt)) c.forest-forest.ensures c.in-Ok.ensures.done in
    ap (λ (t : Twin). machine.rebuild profile c.args.model (state_of t.now)) (sym c.self.view_is)
    ∙ done (chosen_of w.indexes.items w.cases.items) w.flags.items w.shown.now w.tally c.self.invariant.sound.many
    ∙ ap (λ fs. Ok (state_of (standing_of (chosen_of w.indexes.items w.cases.items) w.loaded w.draft.now c.rebuild.new.table fs w.shown.now w.tally))) (sym (items ∙ cleared))

pub returns-in-Ok-clause-models : goal.returns-in-Ok-clause-models
returns-in-Ok-clause-models c =
    let w = c.self.inside in
    let many = flags-length w.flags.items c.args.model (without Rebuild (get_or w.flags.items c.args.model none_due)) in
    let cleared : c.clear.new.flags ≡ rebuilt_flags w.flags.items c.args.model =
    c.clear.ensures ∙ ap (λ fs. slice_set fs c.args.model (without Rebuild (get_or fs c.args.model none_due))) c.as_mut_slice.ensures.value in
    let items = with_items_is w.flags c.clear.new.flags (ap length cleared ∙ many ∙ sym w.flags.ok.0) in
    models-length c.rebuild.new.table (with_items w.flags c.clear.new.flags).items (c.in-Ok.ensures.models ∙ c.self.invariant.sound.many ∙ sym (ap length (items ∙ cleared) ∙ many))
    ∙ ap length (items ∙ cleared) ∙ many ∙ sym (models-length w.table w.flags.items c.self.invariant.sound.many)
    ∙ ap (λ (x : Twin). length x.now.models) c.self.view_is

pub returns-in-Err-clause-done : goal.returns-in-Err-clause-done
returns-in-Err-clause-done c =
    let w = c.self.inside in
    let done = subst (λ f. Rebuilds {X = Unit {0}} w.loaded f c.args.model w.table c.rebuild.new.table (Err c.in-Err.fault)) c.forest-forest.ensures c.in-Err.ensures.done in
    let after = standing_of (chosen_of w.indexes.items w.cases.items) w.loaded w.draft.now c.rebuild.new.table w.flags.items w.shown.now w.tally in
    subst (λ (t : Twin). Does {X = Unit {0}} (Err c.in-Err.fault) after (machine.rebuild profile c.args.model (state_of t.now))) c.self.view_is
    (does-any c.in-Err.fault _ after (machine.rebuild profile c.args.model (state_of (standing_of (chosen_of w.indexes.items w.cases.items) w.loaded w.draft.now w.table w.flags.items w.shown.now w.tally))) (done (chosen_of w.indexes.items w.cases.items) w.flags.items w.shown.now w.tally c.self.invariant.sound.many))

-- The construction of a form, step by step.
use Rattle.std.proofs.Common.{◌≡◌, List, [], length, Option, Some, None, Result, Ok, Err, refl, ap, sym, ◌∙◌, subst}
use Rattle.std.specs.Prelude.{IfErr}
use Rattle.xf_def_ui.specs.Cases.{first_cases}
use Rattle.xf_def_ui.specs.Copies.{Copy}
use Rattle.xf_def_ui.specs.Index.{Index, Stop, brought_up}
use Rattle.xf_def_ui.specs.Started.{started}
use Rattle.xf_def_machine.specs.State.{State}
use Rattle.xf_def_machine.specs.Refusal.{Refused, or_long}
use Rattle.xf_def_machine.specs.Flow.{Run, ◌>>=◌}
use Rattle.xf_def_machine.specs.Primitives.{with_indexes}
use Rattle.xf_def_machine.specs.Surround.{interface, quiet}
use Rattle.xf_def_machine.specs.Construct.{construct, build_model, first_shown, plant_document, unbuilt}
use Rattle.xf_def_machine.specs.Cycles.{counted_from}
use Rattle.xf_def_machine.specs.Update.{reindex, shown, with_brought}
use Rattle.xf_form.specs.declared.loaded.Loaded.{Loaded}
use Rattle.xf_law_machine.proofs.BehavioursLemmas.QuietKeeps.{build-keeps, document-keeps, keeps-turn}
use Rattle.xf_engine_state.specs.declared.fault.WorkFault.{WorkFault}
use Rattle.xf_engine_state.specs.declared.fault.WorkFault.TheVariants as fault
use Rattle.xf_def_form.specs.Formed.{program_in, profile, IsFromBytes}
use Rattle.xf_engine_state.specs.Does.{Does, Twin}
use Rattle.xf_engine_state.specs.Parts.{IsLoaded}
use Rattle.xf_engine_state.specs.Planting.{IsPlanted, planted_by}
use Rattle.xf_engine_state.specs.Standing.{Standing, state_of}
use Rattle.xf_actions.specs.declared.fault.EventFault.{EventFault}
use Rattle.xf_engine_world.specs.Constructed.{Builds, IsConstructed, all_built, built_and_shown, rows_started}
use Rattle.xf_engine_world.specs.Fault.{fault_of_work}
use Rattle.xf_engine_world.proofs.Flow.{Means, means-then, same-does, same-means, then-next}
use Rattle.xf_engine_world.proofs.FormFaults.{construct-fault}

-- ---- the construction

pub loaded-whole : (l : Loaded) → IsFromBytes l → IsLoaded l
loaded-whole l b = record { bytes = b.0; read = b.1 }

constructed-as : (l : Loaded) → construct profile (program_in l) ≡ planted_by l >>= built_and_shown profile
constructed-as l = refl

-- what a fault of a step means of the whole
stops : (l : Loaded) (e : WorkFault) → Means e (construct profile (program_in l)) → Builds (Err e) (construct profile (program_in l))
stops l (fault.Refused refusal) m = (m, construct-fault profile (program_in l) refusal m)
stops l fault.Memory m = tt

unplanted : (l : Loaded) (e : WorkFault) → Means e (planted_by l) → Builds (Err e) (construct profile (program_in l))
unplanted l e m = stops l e (same-means e _ _ (constructed-as l) (means-then e (planted_by l) (built_and_shown profile) m))

pub planting-stops : (l : Loaded) (e : WorkFault) → IsPlanted (Err e) (planted_by l) → Builds (Err e) (construct profile (program_in l))
planting-stops l (fault.Refused refusal) m = unplanted l (fault.Refused refusal) m
planting-stops l fault.Memory m = tt

-- ---- what follows the planting

-- what follows the models
abbrev rest : State → Result State Refused
rest t = rows_started profile t >>= first_shown profile

unshown : (e : WorkFault) (s : State) → Means e (all_built profile s) → Means e (built_and_shown profile s)
unshown e s m = means-then e (all_built profile s) rest m

pub build-stops : (e : WorkFault) (s mid after : Standing) → Does {X = Unit {0}} (Err e) mid (all_built profile (state_of s)) → Does {X = Unit {0}} (Err e) after (built_and_shown profile (state_of s))
build-stops (fault.Refused refusal) s mid after d = unshown (fault.Refused refusal) (state_of s) d
build-stops fault.Memory s mid after d = tt

-- the indexes start once all are built
built-then : (s : State) (mid : Standing) → all_built profile s ≡ Ok (state_of mid) → built_and_shown profile s ≡ rest (state_of mid)
built-then s mid q = then-next (all_built profile s) rest (state_of mid) q

unstarted : (e : WorkFault) (s : State) (mid : Standing) → all_built profile s ≡ Ok (state_of mid) → Means e (rows_started profile (state_of mid)) → Means e (built_and_shown profile s)
unstarted e s mid q m = same-means e _ _ (built-then s mid q) (means-then e (rows_started profile (state_of mid)) (first_shown profile) m)

pub start-stops : (e : WorkFault) (s mid last after : Standing) → all_built profile (state_of s) ≡ Ok (state_of mid)
    → Does {X = Unit {0}} (Err e) last (rows_started profile (state_of mid)) → Does {X = Unit {0}} (Err e) after (built_and_shown profile (state_of s))
start-stops (fault.Refused refusal) s mid last after q d = unstarted (fault.Refused refusal) (state_of s) mid q d
start-stops fault.Memory s mid last after q d = tt

-- the controls are shown once they have
pub begins : (r : Result (Unit {0}) WorkFault) (s mid last after : Standing) → all_built profile (state_of s) ≡ Ok (state_of mid)
    → rows_started profile (state_of mid) ≡ Ok (state_of last) → Does r after (first_shown profile (state_of last)) → Does r after (built_and_shown profile (state_of s))
begins r s mid last after q k d =
    same-does r after _ _ (built-then (state_of s) mid q ∙ then-next (rows_started profile (state_of mid)) (first_shown profile) (state_of last) k) d

-- ---- what the data are kept of

abbrev fine : State → Result State Refused
fine s = Ok s

form-ends : (u t : State) → fine u ≡ Ok t → t.form ≡ u.form
form-ends u t e = let same : u ≡ t = cc in ap (λ (s : State). s.form) (sym same)

shown-form : (r : Result (List Copy) Refused) (s t : State) → r >>= (λ list. Ok (record s { controls = list })) ≡ Ok t → t.form ≡ s.form
shown-form (Err x) s t e = cc
shown-form (Ok list) s t e = form-ends (record s { controls = list }) t e

brought-form : (r : Result (List Index) Stop) (s t : State) → with_brought s r ≡ Ok t → t.form ≡ s.form
brought-form (Err stop) s t e = cc
brought-form (Ok indexes) s t e = form-ends (with_indexes indexes s) t e

started-form : (o : Option (List Index)) (s t : State) → or_long s o >>= (λ indexes. reindex profile [] (with_indexes indexes s)) ≡ Ok t → t.form ≡ s.form
started-form None s t e = cc
started-form (Some indexes) s t e =
    let u = with_indexes indexes s in brought-form (brought_up profile.passes (interface u) (quiet profile u) [] u.indexes) u t e

keeps-then : (g : Result State Refused) (next : Run) (s t : State) → ((u : State) → g ≡ Ok u → u.form ≡ s.form)
    → ((u v : State) → next u ≡ Ok v → v.form ≡ u.form) → g >>= next ≡ Ok t → t.form ≡ s.form
keeps-then (Err x) next s t h k e = cc
keeps-then (Ok u) next s t h k e = k u t e ∙ h u refl

rows-form : (s t : State) → rows_started profile s ≡ Ok t → t.form ≡ s.form
rows-form s t e = let u = record s { cases = first_cases (interface s) } in started-form (started (interface u) (quiet profile u)) u t e

rest-form : (s t : State) → rest s ≡ Ok t → t.form ≡ s.form
rest-form s t e = keeps-then (rows_started profile s) (first_shown profile) s t (rows-form s) (λ u v. shown-form (shown profile u) u v) e

-- the steps of a construction leave the form
whole-form : (s t : State) → built_and_shown profile s ≡ Ok t → t.form ≡ s.form
whole-form s t e =
    keeps-then (all_built profile s) rest s t
    (λ u q. let h = keeps-turn (build_model profile) (counted_from 0 (length s.models)) (build-keeps profile) s u q in h.form) rest-form e

planted-form : (l : Loaded) (s : State) → planted_by l ≡ Ok s → s.form ≡ program_in l
planted-form l s e = let h = keeps-turn (plant_document profile) (program_in l).documents (document-keeps profile) (unbuilt profile (program_in l)) s e in h.form

-- what is planted is constructed by these steps
pub begins-as : (l : Loaded) (s : Standing) → planted_by l ≡ Ok (state_of s)
    → construct profile (state_of s).form ≡ built_and_shown profile (state_of s)
begins-as l s p =
    ap (construct profile) (planted-form l (state_of s) p) ∙ constructed-as l ∙ then-next (planted_by l) (built_and_shown profile) (state_of s) p

-- so they end in what construction gives
pub shown-as : (s mid : Standing) → construct profile (state_of s).form ≡ built_and_shown profile (state_of s)
    → built_and_shown profile (state_of s) ≡ Ok (state_of mid) → construct profile (state_of mid).form ≡ Ok (state_of mid)
shown-as s mid h e = ap (construct profile) (whole-form (state_of s) (state_of mid) e) ∙ h ∙ e

pub same-fault : (e : WorkFault) (mid after : Standing) (given : Result State Refused) → Does {X = Unit {0}} (Err e) mid given → Does {X = Unit {0}} (Err e) after given
same-fault (fault.Refused refusal) mid after given d = d
same-fault fault.Memory mid after given d = tt

-- to keep the data leaves the state as it is
pub first-kept : (r : Result (Unit {0}) WorkFault) (mid after : Standing) (given : Result State Refused) → given ≡ Ok (state_of mid) → after ≡ mid
    → IfErr r (λ e. e ≡ fault.Memory) → Does r after given
first-kept (Ok x) mid after given e same h = e ∙ ap (λ (s : Standing). fine (state_of s)) (sym same)
first-kept (Err f) mid after given e same h = subst (λ g. Does {X = Unit {0}} (Err g) after given) (sym h) tt

-- ---- the whole

unbegun : (l : Loaded) (e : WorkFault) (s : State) → planted_by l ≡ Ok s → Means e (built_and_shown profile s) → Builds (Err e) (construct profile (program_in l))
unbegun l e s p m = stops l e (same-means e _ _ (constructed-as l ∙ then-next (planted_by l) (built_and_shown profile) s p) m)

pub beginning-stops : (l : Loaded) (e : WorkFault) (s after : Standing) → planted_by l ≡ Ok (state_of s)
    → Does {X = Unit {0}} (Err e) after (built_and_shown profile (state_of s)) → Builds (Err e) (construct profile (program_in l))
beginning-stops l (fault.Refused refusal) s after p d = unbegun l (fault.Refused refusal) (state_of s) p d
beginning-stops l fault.Memory s after p d = tt

-- where all steps are done, it is constructed
pub constructs : (l : Loaded) (s : Standing) (w : Twin) → planted_by l ≡ Ok (state_of s) → built_and_shown profile (state_of s) ≡ Ok (state_of w.now)
    → Builds (Ok w) (construct profile (program_in l))
constructs l s w p q = constructed-as l ∙ then-next (planted_by l) (built_and_shown profile) (state_of s) p ∙ q

-- ---- a world over it

pub constructed-world : (w : Twin) (given : Result State Refused) (s : State) → s ≡ state_of w.now → Builds (Ok w) given → given ≡ Ok s
constructed-world w given s e h = h ∙ ap (λ (t : State). fine t) (sym e)

of-work : (e : WorkFault) (given : Result State Refused) → Builds (Err e) given → IsConstructed (Err (fault_of_work e)) given
of-work (fault.Refused refusal) given h = h
of-work fault.Memory given h = tt

pub unconstructed : (e : WorkFault) (y : EventFault) (given : Result State Refused) → y ≡ fault_of_work e → Builds (Err e) given → IsConstructed (Err y) given
unconstructed e y given is h = subst (λ f. IsConstructed (Err f) given) (sym is) (of-work e given h)

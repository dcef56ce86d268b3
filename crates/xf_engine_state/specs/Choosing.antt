-- The indexes of repeats over the data of a form (XForms 1.1, sections 9.3.1 and 10.5): how they start, are brought up to date and are set,
-- whatever else an engine has.
use Rattle.std.specs.Prelude.{ℕ, ◌≡◌, List, Result, Ok}
use Rattle.xf_name.specs.Bindings.{Bindings}
use Rattle.xf_def_syntax.specs.declared.form.Form.{Form}
use Rattle.xf_def_forest.specs.Forest.{Forest}
use Rattle.xf_def_ui.specs.Index.{Index, seeing}
use Rattle.xf_def_ui.specs.Interface.{interface_of}
use Rattle.xf_def_ui.specs.Started.{index_set}
use Rattle.xf_eval_context.specs.declared.over.Over.{Over}
use Rattle.xf_eval_context.specs.Over.{around_over}
use Rattle.xf_repeat.specs.declared.fault.IndexFault.{IndexFault}
use Rattle.xf_repeat.specs.declared.fault.IndexFault.TheVariants.{Long, Passes, Memory}
use Rattle.xf_def_machine.specs.declared.limit.LimitWord.TheVariants as word
use Rattle.xf_def_machine.specs.declared.refusal.Refusal.TheVariants.{Limit}
use Rattle.xf_def_machine.specs.Construct.{start_indexes}
use Rattle.xf_def_machine.specs.Flow.{◌>>=◌}
use Rattle.xf_def_machine.specs.Primitives.{with_indexes}
use Rattle.xf_def_machine.specs.Refusal.{Refused, or_long}
use Rattle.xf_def_machine.specs.State.{State}
use Rattle.xf_def_machine.specs.Surround.{interface, quiet}
use Rattle.xf_def_machine.specs.Update.{reindex}
use Rattle.xf_def_form.specs.Formed.{profile}
use Rattle.xf_engine_state.specs.declared.fault.WorkFault.{WorkFault}
use Rattle.xf_engine_state.specs.declared.fault.WorkFault.TheVariants as fault
use Rattle.xf_engine_state.specs.Does.{Does, Finds}
use Rattle.xf_engine_state.specs.Standing.{Standing, state_of}

-- of this form, with these data
pub record HasData (form : Form) (prefixes : Bindings) (forest : Forest) (s : Standing) : Type 0 where
  pub same_form : s.form ≡ form
  pub same_prefixes : s.prefixes ≡ prefixes
  pub same_forest : s.forest ≡ forest

-- the form is that of the state, and expressions that are evaluated with given indexes see the same in both outside an event
pub record Surrounds (o : Over) (s : State) : Type 0 where
  pub form : interface_of o.form.now ≡ interface s
  pub seen : (indexes : List Index) → seeing (interface s) indexes (quiet profile s) ≡ seeing (interface s) indexes (around_over o)

-- why indexes that are not brought up to date refuse an event
abbrev pub stopped : IndexFault → WorkFault
stopped Long = fault.Refused (Limit word.Long)
stopped Passes = fault.Refused (Limit word.Passes)
stopped Memory = fault.Memory

-- the indexes, seen by view, start so
abbrev pub Starts : {X : Type 0} → (X → List Index) → Over → Result X WorkFault → Type 0
Starts view o result = (s : Standing) → Surrounds o (state_of s) → Finds (λ x. state_of (record s { indexes = view x })) result (start_indexes profile (state_of s))

-- the indexes before are brought up to date where these nodes were inserted
abbrev pub Reindexes : {X : Type 0} → Over → List ℕ → List Index → List Index → Result X WorkFault → Type 0
Reindexes o added before after result =
    (s : Standing) → Surrounds o (state_of s) → Does result (record s { indexes = after }) (reindex profile added (state_of (record s { indexes = before })))

-- the state with the index of a repeat set
abbrev pub chosen_in : ℕ → ℕ → State → Result State Refused
chosen_in repeat number s = or_long s (index_set (interface s) (quiet profile s) repeat number s.indexes) >>= λ indexes. Ok (with_indexes indexes s)

-- of the indexes before that of a repeat is set
abbrev pub Chooses : {X : Type 0} → Over → ℕ → ℕ → List Index → List Index → Result X WorkFault → Type 0
Chooses o repeat number before after result =
    (s : Standing) → Surrounds o (state_of s) → Does result (record s { indexes = after }) (chosen_in repeat number (state_of (record s { indexes = before })))

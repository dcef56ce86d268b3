-- What is found of indexes over the data is what the form machine has of them, or the refusal that it gives.
use Rattle.std.proofs.Common.{◌≡◌, ℕ, ◌⊎◌, inl, inr, List, [], ◌∷◌, Option, Some, None, Result, Ok, Err, refl, sym, ap, ◌∙◌, subst, arith}
use Rattle.xf_name.specs.Bindings.{Bindings}
use Rattle.xf_def_syntax.specs.declared.form.Form.{Form}
use Rattle.xf_def_forest.specs.Forest.{Forest}
use Rattle.xf_def_xpath.specs.declared.fault.EvalFault.{EvalFault}
use Rattle.xf_def_xpath.specs.declared.fault.EvalFault.TheVariants as eval
use Rattle.xf_def_ui.specs.Index.{Index, Stop, brought_up}
use Rattle.xf_def_ui.specs.Index as index
use Rattle.xf_def_ui.specs.Interface.{Interface, interface_of}
use Rattle.xf_def_ui.specs.Started.{index_set, started}
use Rattle.xf_eval_context.specs.declared.over.Over.{Over}
use Rattle.xf_eval_context.specs.Over.{around_of, around_over}
use Rattle.xf_repeat.specs.declared.fault.IndexFault.{IndexFault}
use Rattle.xf_repeat.specs.declared.fault.IndexFault.TheVariants.{Long, Passes, Memory}
use Rattle.xf_repeat.specs.Passes.{BringsUp}
use Rattle.xf_def_machine.specs.declared.limit.LimitWord.{LimitWord}
use Rattle.xf_def_machine.specs.declared.limit.LimitWord.TheVariants as word
use Rattle.xf_def_machine.specs.declared.refusal.Refusal.TheVariants.{Limit}
use Rattle.xf_def_machine.specs.Construct.{start_indexes}
use Rattle.xf_def_machine.specs.Flow.{◌>>=◌}
use Rattle.xf_def_machine.specs.Primitives.{in_model, refresh_due, with_indexes}
use Rattle.xf_def_machine.specs.Refusal.{Refused, limit, or_long, refused}
use Rattle.xf_def_machine.specs.State.{State}
use Rattle.xf_def_machine.specs.Surround.{interface, quiet}
use Rattle.xf_def_machine.specs.Update.{reindex, with_brought}
use Rattle.xf_def_machine.specs.Choose as choose
use Rattle.xf_def_form.specs.Formed.{profile}
use Rattle.xf_engine_state.specs.declared.fault.WorkFault.{WorkFault}
use Rattle.xf_engine_state.specs.declared.fault.WorkFault.TheVariants as fault
use Rattle.xf_engine_state.specs.Calls.{long_or_memory}
use Rattle.xf_engine_state.specs.Choosing.{HasData, Surrounds, chosen_in, stopped}
use Rattle.xf_engine_state.specs.Does.{Does, Finds, IsRefused}
use Rattle.xf_engine_state.specs.Standing.{Standing, state_of}
use Rattle.xf_engine_state.proofs.ContextLaws.{quiet-same}
use Rattle.xf_engine_state.proofs.SeeingLaws.{set-same, started-same, up-same}

-- ---- one limit is passed

told : (s : Standing) (w : LimitWord) → IsRefused {X = State} (Limit w) (refused (limit (w ∷ [])) (state_of s))
told s w = ((w ∷ [], refl, (0, omega arith, refl)), refl)

-- ---- surroundings

-- those of a form with its data, of which no indexes are given
pub surrounds : (o : Over) (form : Form) (prefixes : Bindings) (forest : Forest) → o.form.now ≡ form → around_over o ≡ around_of form prefixes forest None
    → (s : Standing) → HasData form prefixes forest s → Surrounds o (state_of s)
surrounds o form prefixes forest is around s h = record {
  form = ap interface_of (is ∙ sym h.same_form);
  seen = λ indexes.
      ap (index.seeing (interface_of s.form) indexes) (quiet-same s)
      ∙ ap (λ g. index.seeing (interface_of s.form) indexes (around_of g s.prefixes s.forest None)) h.same_form
      ∙ ap (λ b. index.seeing (interface_of s.form) indexes (around_of form b s.forest None)) h.same_prefixes
      ∙ ap (λ d. index.seeing (interface_of s.form) indexes (around_of form prefixes d None)) h.same_forest
      ∙ ap (index.seeing (interface_of s.form) indexes) (sym around);
}

-- ---- from given indexes on

module _ (o : Over) (s : Standing) (around : Surrounds o (state_of s)) where
  abbrev f : Interface
  f = interface (state_of s)

  -- with these indexes
  abbrev at : List Index → Standing
  at indexes = record s { indexes = indexes }

  up-is : (added : List ℕ) (before : List Index)
      → brought_up 64 f (quiet profile (state_of (at before))) added before ≡ brought_up 64 (interface_of o.form.now) (around_over o) added before
  up-is added before =
      up-same f (quiet profile (state_of (at before))) (around_over o) around.seen 64 added before
      ∙ ap (λ g. brought_up 64 g (around_over o) added before) (sym around.form)

  pub reindexed : (added : List ℕ) (before : List Index) (given : Result (List Index) Stop) → brought_up 64 (interface_of o.form.now) (around_over o) added before ≡ given
      → reindex profile added (state_of (at before)) ≡ with_brought (state_of (at before)) given
  reindexed added before given h = ap (with_brought (state_of (at before))) (up-is added before ∙ h)

  pub up-fails : (added : List ℕ) (before after : List Index) (e : IndexFault) (said : WorkFault) → said ≡ stopped e
      → BringsUp {X = Unit {0}} (Err e) after (brought_up 64 (interface_of o.form.now) (around_over o) added before)
      → Does {X = Unit {0}} (Err said) (at after) (reindex profile added (state_of (at before)))
  up-fails added before after e said is h = subst (λ w. Does {X = Unit {0}} (Err w) (at after) (reindex profile added (state_of (at before)))) (sym is) (by e h)
    where
      by : (e : IndexFault) → BringsUp {X = Unit {0}} (Err e) after (brought_up 64 (interface_of o.form.now) (around_over o) added before)
          → Does {X = Unit {0}} (Err (stopped e)) (at after) (reindex profile added (state_of (at before)))
      by Long h = subst (IsRefused (Limit word.Long)) (sym (reindexed added before (Err index.long) h)) (told s word.Long)
      by Passes h = subst (IsRefused (Limit word.Passes)) (sym (reindexed added before (Err index.passes) h)) (told s word.Passes)
      by Memory h = tt

  -- ---- how they start

  start-is : (given : Option (List Index)) → started (interface_of o.form.now) (around_over o) ≡ given
      → start_indexes profile (state_of s) ≡ (or_long (state_of s) given >>= λ indexes. reindex profile [] (state_of (at indexes)))
  start-is given h =
      ap (λ m. or_long (state_of s) m >>= λ indexes. reindex profile [] (state_of (at indexes)))
      (started-same f (quiet profile (state_of s)) (around_over o) around.seen ∙ ap (λ g. started g (around_over o)) (sym around.form) ∙ h)

  pub start-done : (first : List Index) (given : Result State Refused) → started (interface_of o.form.now) (around_over o) ≡ Some first → reindex profile [] (state_of (at first)) ≡ given
      → start_indexes profile (state_of s) ≡ given
  start-done first given h e = start-is (Some first) h ∙ e

  pub start-fails : {X : Type 0} (view : X → List Index) (e : EvalFault) (said : WorkFault) → said ≡ long_or_memory e → (e ≡ eval.Memory) ⊎ ((e ≡ eval.Long) × (started (interface_of o.form.now) (around_over o) ≡ None))
      → Finds {X = X} (λ x. state_of (at (view x))) (Err said) (start_indexes profile (state_of s))
  start-fails {X} view e said is h = subst (λ w. Finds {X = X} (λ x. state_of (at (view x))) (Err w) (start_indexes profile (state_of s))) (sym is) (by e h)
    where
      by : (e : EvalFault) → (e ≡ eval.Memory) ⊎ ((e ≡ eval.Long) × (started (interface_of o.form.now) (around_over o) ≡ None))
          → Finds {X = X} (λ x. state_of (at (view x))) (Err (long_or_memory e)) (start_indexes profile (state_of s))
      by eval.Long (inl i) = cc i
      by eval.Long (inr h) = subst (IsRefused (Limit word.Long)) (sym (start-is None h.1)) (told s word.Long)
      by eval.Memory h = tt

  -- they start, and are then refused
  pub start-refused : {X : Type 0} (view : X → List Index) (first after : List Index) (e : WorkFault) → started (interface_of o.form.now) (around_over o) ≡ Some first
      → Does {X = Unit {0}} (Err e) (at after) (reindex profile [] (state_of (at first))) → Finds {X = X} (λ x. state_of (at (view x))) (Err e) (start_indexes profile (state_of s))
  start-refused view first after (fault.Refused refusal) h d = subst (IsRefused refusal) (sym (start-is (Some first) h)) d
  start-refused view first after fault.Memory h d = tt

  -- ---- one that is set

  set-is : (r n : ℕ) (before : List Index) (given : Option (List Index)) → index_set (interface_of o.form.now) (around_over o) r n before ≡ given
      → chosen_in r n (state_of (at before)) ≡ (or_long (state_of (at before)) given >>= λ indexes. Ok (state_of (at indexes)))
  set-is r n before given h =
      ap (λ m. or_long (state_of (at before)) m >>= λ indexes. Ok (state_of (at indexes)))
      (set-same f (quiet profile (state_of (at before))) (around_over o) around.seen r n before ∙ ap (λ g. index_set g (around_over o) r n before) (sym around.form) ∙ h)

  pub set-done : (r n : ℕ) (before after : List Index) → index_set (interface_of o.form.now) (around_over o) r n before ≡ Some after
      → chosen_in r n (state_of (at before)) ≡ Ok (state_of (at after))
  set-done r n before after h = set-is r n before (Some after) h

  pub set-fails : (r n : ℕ) (before after : List Index) (e : EvalFault) (said : WorkFault) → said ≡ long_or_memory e
      → (e ≡ eval.Memory) ⊎ ((e ≡ eval.Long) × (index_set (interface_of o.form.now) (around_over o) r n before ≡ None))
      → Does {X = Unit {0}} (Err said) (at after) (chosen_in r n (state_of (at before)))
  set-fails r n before after e said is h = subst (λ w. Does {X = Unit {0}} (Err w) (at after) (chosen_in r n (state_of (at before)))) (sym is) (by e h)
    where
      by : (e : EvalFault) → (e ≡ eval.Memory) ⊎ ((e ≡ eval.Long) × (index_set (interface_of o.form.now) (around_over o) r n before ≡ None))
          → Does {X = Unit {0}} (Err (long_or_memory e)) (at after) (chosen_in r n (state_of (at before)))
      by eval.Long (inl i) = cc i
      by eval.Long (inr h) = subst (IsRefused (Limit word.Long)) (sym (set-is r n before None h.1)) (told s word.Long)
      by eval.Memory h = tt

-- a refusal of what was to be found
pub found-does : {X : Type 0} (view : X → State) (e : WorkFault) (after : Standing) (given : Result State Refused) → Finds {X = X} view (Err e) given → Does {X = Unit {0}} (Err e) after given
found-does view (fault.Refused refusal) after given h = h
found-does view fault.Memory after given h = tt

-- ---- and the refresh that it flags

abbrev flagged : ℕ → Result State Refused → Result State Refused
flagged model given = given >>= λ t. Ok (in_model refresh_due model t)

chosen-flagged : (model r n : ℕ) (s : State) → choose.set_index profile model r n s ≡ flagged model (chosen_in r n s)
chosen-flagged model r n s = by (or_long s (index_set (interface s) (quiet profile s) r n s.indexes))
  where
    by : (o : Result (List Index) Refused) → (o >>= λ indexes. Ok (in_model refresh_due model (with_indexes indexes s))) ≡ flagged model (o >>= λ indexes. Ok (with_indexes indexes s))
    by (Err r) = refl
    by (Ok indexes) = refl

pub flags-done : (model r n : ℕ) (s t : State) → chosen_in r n s ≡ Ok t → choose.set_index profile model r n s ≡ Ok (in_model refresh_due model t)
flags-done model r n s t h = chosen-flagged model r n s ∙ ap (flagged model) h

pub flags-fails : (model r n : ℕ) (s : State) (one other : Standing) (e : WorkFault) → Does {X = Unit {0}} (Err e) one (chosen_in r n s)
    → Does {X = Unit {0}} (Err e) other (choose.set_index profile model r n s)
flags-fails model r n s one other (fault.Refused refusal) h = subst (IsRefused refusal) (sym (chosen-flagged model r n s)) (by (chosen_in r n s) h)
  where
    by : (o : Result State Refused) → IsRefused refusal o → IsRefused refusal (flagged model o)
    by (Err r) i = i
    by (Ok t) i = elim i [ ]
flags-fails model r n s one other fault.Memory h = tt

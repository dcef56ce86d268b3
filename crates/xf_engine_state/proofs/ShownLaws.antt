-- The list of the controls over a forest and a table is that of the state.
use Rattle.std.proofs.Common.{◌≡◌, ℕ, Bool, true, false, List, [], ◌∷◌, map, length, Option, Some, None, Result, Ok, Err, refl, sym, ap, ◌∙◌, subst, ◌⊎◌, inl, inr, arith}
use Rattle.std.specs.Prelude.{nat_lt}
use Rattle.xf_base.specs.Limits.{string_limit}
use Rattle.xf_def_forest.specs.Forest.{Forest}
use Rattle.xf_def_forest.specs.Visit.{visits}
use Rattle.xf_funcs.specs.Called.{called}
use Rattle.xf_def_xpath.specs.Given.{Document, Given}
use Rattle.xf_def_xpath.specs.declared.fault.EvalFault.{EvalFault}
use Rattle.xf_def_xpath.specs.declared.fault.EvalFault.TheVariants as eval
use Rattle.xf_def_model.specs.Nested.{nested}
use Rattle.xf_def_model.specs.Rules.{scope_of}
use Rattle.xf_def_ui.specs.Around.{Around}
use Rattle.xf_def_ui.specs.Copies as copies
use Rattle.xf_def_ui.specs.declared.marks.Marks.{Marks}
use Rattle.xf_def_ui.specs.Interface.{interface_of}
use Rattle.xf_def_machine.specs.declared.limit.LimitWord.TheVariants.{Controls, Long}
use Rattle.xf_def_machine.specs.Refusal.{limit, or_long, unless_passed, if_over}
use Rattle.xf_def_machine.specs.Flow.{◌>>=◌}
use Rattle.xf_def_machine.specs.State.{State}
use Rattle.xf_def_machine.specs.Surround.{documents, given, quiet}
use Rattle.xf_def_machine.specs.Update as update
use Rattle.xf_def_machine.specs.Update.{within_controls}
use Rattle.xf_binds.specs.Kept.{Kept}
use Rattle.xf_eval_context.specs.Around.{Indexes}
use Rattle.xf_eval_context.specs.Over as context
use Rattle.xf_controls.specs.declared.copy.ControlCopy.{ControlCopy}
use Rattle.xf_controls.specs.Seen.{seen_copy}
use Rattle.xf_controls.specs.Surrounded.{around_in}
use Rattle.xf_valid.specs.Nodes as table_marks
use Rattle.xf_form.specs.declared.loaded.Loaded.{Loaded}
use Rattle.xf_engine_state.specs.declared.flags.Flags.{Flags}
use Rattle.xf_engine_state.specs.declared.tally.Tally.{Tally}
use Rattle.xf_def_machine.specs.declared.refusal.Refusal.TheVariants.{Limit}
use Rattle.xf_engine_state.specs.declared.fault.WorkFault.{WorkFault}
use Rattle.xf_engine_state.specs.declared.fault.WorkFault.TheVariants as fault
use Rattle.xf_engine_state.specs.Around.{given_in}
use Rattle.xf_engine_state.specs.Calls.{IsWithin, long_or_memory}
use Rattle.xf_def_form.specs.Formed.{profile}
use Rattle.xf_engine_state.specs.Does.{Finds, IsRefused}
use Rattle.xf_engine_state.specs.Parts.{Chosen, IsLoaded, standing_of}
use Rattle.xf_engine_state.specs.Standing.{state_of}
use Rattle.xf_engine_state.proofs.AroundLaws.{documents-same}
use Rattle.xf_engine_state.proofs.ContextLaws.{documents-given}
use Rattle.xf_engine_state.proofs.MarkLaws.{marks-same}

module _ (chosen : Chosen) (loaded : Loaded) (is : IsLoaded loaded) (forest : Forest) (table : List Kept) (flags : List Flags) (controls : List ControlCopy) (tally : Tally)
    (many : length table ≡ length flags) where
  abbrev here : State
  here = state_of (standing_of chosen loaded forest table flags controls tally)

  abbrev around_with : Given → Around
  around_with g = record {
    functions = called;
    most = Some string_limit;
    given = g;
    all = visits forest.nodes;
    bound = λ k. nested (Some string_limit) (scope_of called (record g { indexes = []; event = None }) loaded.form.tables 0) (visits forest.nodes) k;
  }

  abbrev copies_in : Around → (ℕ → Marks) → Option (List copies.Copy)
  copies_in a marks = copies.copies (interface_of loaded.form) a marks chosen.cases chosen.indexes

  abbrev listed : Option (List copies.Copy)
  listed = copies_in (around_in (given_in loaded.form.tables.instances loaded.prefixes loaded.form.decimals forest) loaded.form.tables forest.nodes) (table_marks.marks_in table forest.nodes)

  -- copies are evaluated with the indexes beside them, whatever is given
  over-documents : (ds : List Document) → documents here ≡ ds → (marks : ℕ → Marks) → copies_in (quiet profile here) marks ≡ copies_in (around_with (record (given here None) { documents = ds })) marks
  over-documents ds e marks = ap (λ all. copies_in (around_with (record (given here None) { documents = all })) marks) e

  shown-by : (o : Option (List copies.Copy)) → copies_in (quiet profile here) (table_marks.marks_in table forest.nodes) ≡ o → update.shown profile here ≡ (or_long here o >>= λ list. within_controls profile list here)
  shown-by o e =
      ap (λ marks. or_long here (copies_in (quiet profile here) marks) >>= λ list. within_controls profile list here) (marks-same chosen loaded forest table flags controls tally many)
      ∙ ap (λ given. or_long here given >>= λ list. within_controls profile list here) e

  pub shown-told : update.shown profile here ≡ (or_long here listed >>= λ list. within_controls profile list here)
  shown-told = shown-by listed (over-documents _ (documents-same here) (table_marks.marks_in table forest.nodes))

  pub shown-long : listed ≡ None → update.shown profile here ≡ Err (record { why = limit (Long ∷ []); calls = [] })
  shown-long e = shown-told ∙ ap (λ o. or_long here o >>= λ list. within_controls profile list here) e

  pub shown-listed : (list : List copies.Copy) (b : Bool) → listed ≡ Some list → nat_lt 65536 (copies.copy_count list) ≡ b → update.shown profile here ≡ unless_passed here (if_over b Controls) list
  shown-listed list b e h = shown-told ∙ ap (λ o. or_long here o >>= λ list. within_controls profile list here) e ∙ ap (λ c. unless_passed here (if_over c Controls) list) h

  told-listed : (o : Option (List copies.Copy)) (list : List copies.Copy) → (or_long here o >>= λ cs. within_controls profile cs here) ≡ Ok list → (o ≡ Some list) × (nat_lt 65536 (copies.copy_count list) ≡ false)
  told-listed None list h = cc h
  told-listed (Some cs) list h = by (nat_lt 65536 (copies.copy_count cs)) refl h
    where
      by : (b : Bool) → nat_lt 65536 (copies.copy_count cs) ≡ b → unless_passed here (if_over b Controls) cs ≡ Ok list → (Some cs ≡ Some list) × (nat_lt 65536 (copies.copy_count list) ≡ false)
      by true e i = cc i
      by false e i = let same : cs ≡ list = cc i in (ap Some same, ap (λ xs. nat_lt 65536 (copies.copy_count xs)) (sym same) ∙ e)

  -- a list that is shown is not too long
  pub shown-given : (list : List copies.Copy) → update.shown profile here ≡ Ok list → (listed ≡ Some list) × (nat_lt 65536 (copies.copy_count list) ≡ false)
  shown-given list h = told-listed listed list (sym shown-told ∙ h)

  -- over surroundings that are the same
  pub listed-same : (g : Given) → g ≡ given_in loaded.form.tables.instances loaded.prefixes loaded.form.decimals forest
      → copies_in (around_in g loaded.form.tables forest.nodes) (table_marks.marks_in table forest.nodes) ≡ listed
  listed-same g e = ap (λ h. copies_in (around_in h loaded.form.tables forest.nodes) (table_marks.marks_in table forest.nodes)) e

  -- over those of a context, whatever indexes it has
  pub context-listed : (indexes : Indexes) → copies_in (context.around_with indexes loaded.form loaded.prefixes forest None) (table_marks.marks_in table forest.nodes) ≡ listed
  context-listed indexes =
      sym (over-documents _ (documents-given here) (table_marks.marks_in table forest.nodes)) ∙ over-documents _ (documents-same here) (table_marks.marks_in table forest.nodes)

  pub long-found : listed ≡ None → IsRefused (Limit Long) (update.shown profile here)
  long-found e = subst (λ given. IsRefused (Limit Long) given) (sym (shown-long e)) ((Long ∷ [], refl, (0, omega arith, refl)), refl)

  pub told-found : (e : EvalFault) → (e ≡ eval.Memory) ⊎ ((e ≡ eval.Long) × (listed ≡ None)) → Finds {X = List ControlCopy} (map seen_copy) (Err (long_or_memory e)) (update.shown profile here)
  told-found eval.Long (inl h) = cc h
  told-found eval.Long (inr h) = long-found h.1
  told-found eval.Memory h = tt

  over-found : (list : List copies.Copy) → listed ≡ Some list → nat_lt 65536 (copies.copy_count list) ≡ true → IsRefused (Limit Controls) (update.shown profile here)
  over-found list e h = subst (λ given. IsRefused (Limit Controls) given) (sym (shown-listed list true e h)) ((Controls ∷ [], refl, (0, omega arith, refl)), refl)

  -- the list is given, unless it has too many copies
  pub list-found : (list : List ControlCopy) (result : Result (List ControlCopy) WorkFault) → listed ≡ Some (map seen_copy list) → IsWithin result list → Finds (map seen_copy) result (update.shown profile here)
  list-found list (Ok given) e w = shown-listed (map seen_copy list) false e w.1 ∙ ap (λ cs. Ok (map seen_copy cs)) (sym w.0)
  list-found list (Err (fault.Refused refusal)) e w = subst (λ r. IsRefused r (update.shown profile here)) (sym w.0) (over-found (map seen_copy list) e w.1)
  list-found list (Err fault.Memory) e w = absurd w

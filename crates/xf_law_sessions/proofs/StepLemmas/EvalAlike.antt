-- What actions evaluate goes with a renumbering: their rows and contexts, values, truths, texts and numbers, and what roles mean.
use Rattle.std.proofs.Common.{◌≡◌, ℕ, zero, suc, Bool, true, false, List, [], ◌∷◌, map, get_or, slice_get, Option, Some, None, option_map, Result, Ok, Err, refl, sym, ap, ◌∙◌, subst, if◌then◌else◌, ℤ}
use Rattle.std.specs.Prelude.{⊤}
use Rattle.std.proofs.lemmas.Option.{slice_get-map}
use Rattle.xf_def_syntax.specs.declared.action.Action.{Action}
use Rattle.xf_def_syntax.specs.declared.action.Work as ast
use Rattle.xf_def_syntax.specs.declared.action.Work.TheVariants as written
use Rattle.xf_def_syntax.specs.declared.element.Control.{Control}
use Rattle.xf_def_syntax.specs.declared.element.Control.TheVariants as control
use Rattle.xf_def_syntax.specs.declared.element.Element as element
use Rattle.xf_def_syntax.specs.declared.element.Kind.{Kind}
use Rattle.xf_def_syntax.specs.declared.element.Kind.TheVariants as kind
use Rattle.xf_def_syntax.specs.declared.expr.Expr.{Expr}
use Rattle.xf_def_forest.specs.Visit.{has}
use Rattle.xf_def_xpath.specs.declared.value.Value.{Value}
use Rattle.xf_def_xpath.specs.Conversions.{truth_of, number_of}
use Rattle.xf_def_xpath.specs.Meaning.{meaning, text_worth}
use Rattle.xf_def_xpath.specs.Setting.{Focus, Meaning}
use Rattle.xf_def_xpath.specs.Same.{renumbered_value, renumbered_focus, renumbered_property}
use Rattle.xf_def_xpath.proofs.Options.{then-through}
use Rattle.xf_def_xpath.proofs.RenumberLaws.{truth-renumbered, number_of-renumbered}
use Rattle.xf_def_xpath.proofs.RenumberValues.{Renumbers, meaning-renumbered}
use Rattle.xf_def_ui.specs.Around.{Around, setting}
use Rattle.xf_def_ui.specs.Context.{Context, context_of}
use Rattle.xf_def_ui.specs.Elements.{element_at, ancestors, repeats_around}
use Rattle.xf_def_ui.specs.Index.{Index, index_of}
use Rattle.xf_def_ui.specs.Index as ui_index
use Rattle.xf_def_ui.specs.Interface.{Interface}
use Rattle.xf_def_ui.specs.Named.{row_for, rows_from, handler_rows, cut_before, cut_at}
use Rattle.xf_def_machine.specs.Program.{InsertBy, DeleteBy, Work, Act, Role, Program, role_at}
use Rattle.xf_def_machine.specs.Program as program
use Rattle.xf_def_machine.specs.State.{State}
use Rattle.xf_def_machine.specs.Refusal.{Refused, or_long}
use Rattle.xf_def_machine.specs.Flow.{◌>>=◌}
use Rattle.xf_def_machine.specs.Surround.{Told, interface, quiet}
use Rattle.xf_def_machine.specs.Tables.{work_of, act_of, role_of_control, role_of}
use Rattle.xf_def_machine.specs.Events.{Fired, fired_at}
use Rattle.xf_def_machine.specs.Acting.{Acting, acting_with, acting_in, acting, surroundings, binding_of, value_for, truth_for, text_for, whole_of, whole_for}
use Rattle.xf_def_machine.specs.Same.{renumbered_index}
use Rattle.xf_law_sessions.specs.Same.Controls.{GoesAround}
use Rattle.xf_law_sessions.proofs.SameLemmas.AroundGoes.{BoundGoes, renumbered_context, strings, setting-goes, strings-go, meaning-goes, context-goes}
use Rattle.xf_law_sessions.proofs.SameLemmas.IndexGoes.{node-at}
use Rattle.xf_law_sessions.proofs.SameLemmas.LabelsGo.{MeaningGoes, worth-goes}
use Rattle.xf_law_sessions.proofs.SameLemmas.StateGoes.{elements-go, around-goes}
use Rattle.xf_law_sessions.specs.Step.Steps.{IsOfForm}
use Rattle.xf_law_sessions.proofs.StepLemmas.OptionThen.{and_then}
use Rattle.xf_law_sessions.proofs.StepLemmas.Alike.{Two, other, Fits, mapped, long-mapped, long-same}
use Rattle.xf_law_sessions.proofs.StepLemmas.ChangesAlike.{has-form, renumbered_fired}

-- ---- what roles mean

pub record InsertGoes (f : ℕ → ℕ) (w : InsertBy) : Type 0 where
  pub context : MeaningGoes f w.context
  pub origin : MeaningGoes f w.origin
  pub at : MeaningGoes f w.at

pub record DeleteGoes (f : ℕ → ℕ) (w : DeleteBy) : Type 0 where
  pub context : MeaningGoes f w.context
  pub at : MeaningGoes f w.at

abbrev pub WorkGoes : (ℕ → ℕ) → Work → Type 0
WorkGoes f (program.set_value value) = MeaningGoes f value
WorkGoes f (program.insert w) = InsertGoes f w
WorkGoes f (program.delete w) = DeleteGoes f w
WorkGoes f (program.set_index k m) = Renumbers f m
WorkGoes f work = ⊤

pub record ActGoes (f : ℕ → ℕ) (a : Act) : Type 0 where
  pub condition : MeaningGoes f a.condition
  pub repetition : MeaningGoes f a.repetition
  pub work : WorkGoes f a.work

abbrev pub RoleGoes : (ℕ → ℕ) → Role → Type 0
RoleGoes f (program.action a) = ActGoes f a
RoleGoes f role = ⊤

module _ (e : Two) where
  meant : (o : Option Expr) → MeaningGoes e.f (option_map meaning o)
  meant None = tt
  meant (Some expr) = meaning-renumbered e.f e.runs.renumbers expr

  work-goes : (w : ast.Work) → WorkGoes e.f (work_of w)
  work-goes written.Action = tt
  work-goes (written.SetValue value) = meant value
  work-goes (written.Insert w) = record { context = meant w.context; origin = meant w.origin; at = meant w.at }
  work-goes (written.Delete w) = record { context = meant w.context; at = meant w.at }
  work-goes (written.SetIndex k expr) = meaning-renumbered e.f e.runs.renumbers expr
  work-goes (written.Toggle n) = tt
  work-goes (written.SetFocus n) = tt
  work-goes (written.Dispatch w) = tt
  work-goes (written.Send target) = tt
  work-goes (written.Load resource) = tt
  work-goes written.Message = tt
  work-goes written.Reset = tt
  work-goes written.Rebuild = tt
  work-goes written.Recalculate = tt
  work-goes written.Revalidate = tt
  work-goes written.Refresh = tt

  act-goes : (a : Action) → ActGoes e.f (act_of a)
  act-goes a = record { condition = meant a.condition; repetition = meant a.repetition; work = work-goes a.work }

  control-goes : (c : Control) → RoleGoes e.f (role_of_control c)
  control-goes control.Input = tt
  control-goes control.Secret = tt
  control-goes control.Textarea = tt
  control-goes (control.Select is_free) = tt
  control-goes (control.SelectOne is_free) = tt
  control-goes control.Trigger = tt
  control-goes (control.Submit target) = tt
  control-goes c = tt

  role-goes : (k : Kind) → RoleGoes e.f (role_of k)
  role-goes (kind.Model k) = tt
  role-goes (kind.Submission k) = tt
  role-goes (kind.Control place c) = control-goes c
  role-goes (kind.Action a) = act-goes a
  role-goes k = tt

  at-goes : (es : List element.Element) (n : ℕ) → RoleGoes e.f (get_or (map (λ x. role_of x.kind) es) n program.other)
  at-goes [] zero = tt
  at-goes [] (suc n) = tt
  at-goes (x ∷ xs) zero = role-goes x.kind
  at-goes (x ∷ xs) (suc n) = at-goes xs n

  pub roles-go : (s : State) → IsOfForm s.form → (n : ℕ) → RoleGoes e.f (role_at s.form n)
  roles-go s h n = subst (λ (x : Program). RoleGoes e.f (role_at x n)) (sym h.is) (at-goes h.form.elements n)

  -- ---- rows of events

  cut-goes : (form : Interface) (is : List Index) (rs : List ℕ) → cut_at form (map (renumbered_index e.f) is) rs ≡ map e.f (cut_at form is rs)
  cut-goes form is [] = refl
  cut-goes form is (r ∷ rs) =
      ap (λ o. cut_before o (cut_at form (map (renumbered_index e.f) is) rs)) (node-at e.f (ui_index.number_of form r) is)
      ∙ ap (cut_before (option_map e.f (index_of form is r).node)) (cut-goes form is rs) ∙ by (index_of form is r).node
    where
      by : (o : Option ℕ) → cut_before (option_map e.f o) (map e.f (cut_at form is rs)) ≡ map e.f (cut_before o (cut_at form is rs))
      by None = refl
      by (Some n) = refl

  pub fired-is : (s : State) (name : List ℕ) (told : Told) (target : ℕ)
      → fired_at (other e s) name (map (renumbered_property e.f) told) target ≡ renumbered_fired e.f (fired_at s name told target)
  fired-is s name told target =
      ap {A = List ℕ} {B = Fired} (λ rows. record (renumbered_fired e.f (fired_at s name told target)) { rows = rows }) (cut-goes (interface s) s.indexes (repeats_around (interface s) target))

  -- ---- rows of handlers

  row-goes : (form : Interface) (is : List Index) (around_target rows : List ℕ) (place r : ℕ)
      → row_for form (map (renumbered_index e.f) is) around_target (map e.f rows) place r ≡ option_map e.f (row_for form is around_target rows place r)
  row-goes form is around_target rows place r = by (has r around_target)
    where
      by : (b : Bool) → ◌≡◌ {A = Option ℕ} (if b then slice_get (map e.f rows) place else (index_of form (map (renumbered_index e.f) is) r).node)
          (option_map e.f (if b then slice_get rows place else (index_of form is r).node))
      by true = slice_get-map e.f rows place
      by false = node-at e.f (ui_index.number_of form r) is

  from-goes : (form : Interface) (is : List Index) (around_target rows : List ℕ) (place : ℕ) (rs : List ℕ)
      → rows_from form (map (renumbered_index e.f) is) around_target (map e.f rows) place rs ≡ option_map (map e.f) (rows_from form is around_target rows place rs)
  from-goes form is around_target rows place [] = refl
  from-goes form is around_target rows place (r ∷ rs) =
      let more : List Index → List ℕ → Option (List ℕ) = λ js all. rows_from form js around_target all (suc place) rs in
      ap (λ o. and_then o (λ n. and_then (more (map (renumbered_index e.f) is) (map e.f rows)) (λ ns. Some (n ∷ ns)))) (row-goes form is around_target rows place r)
      ∙ then-through e.f (map e.f) (row_for form is around_target rows place r) (λ n. and_then (more is rows) (λ ns. Some (n ∷ ns)))
      (λ n. and_then (more (map (renumbered_index e.f) is) (map e.f rows)) (λ ns. Some (n ∷ ns)))
      (λ n. ap (λ o. and_then o (λ ns. Some (e.f n ∷ ns))) (from-goes form is around_target rows (suc place) rs)
      ∙ then-through (map e.f) (map e.f) (more is rows) (λ ns. Some (n ∷ ns)) (λ ns. Some (e.f n ∷ ns)) (λ ns. refl))

  pub handler-goes : (form : Interface) (is : List Index) (target : ℕ) (rows : List ℕ) (handler : ℕ)
      → handler_rows form (map (renumbered_index e.f) is) target (map e.f rows) handler ≡ option_map (map e.f) (handler_rows form is target rows handler)
  handler-goes form is target rows handler = from-goes form is (ancestors form target) rows 0 (repeats_around form handler)

  -- ---- actions that are about to act

  abbrev pub renumbered_acting : Acting → Acting
  renumbered_acting x = record {
    element = x.element;
    rows = map e.f x.rows;
    model = x.model;
    focus = renumbered_focus e.f x.focus;
    told = map (renumbered_property e.f) x.told;
  }

  with-goes : (x : Fired) (n : ℕ) (rows : List ℕ) (c : Context) → acting_with (renumbered_fired e.f x) n (map e.f rows) (renumbered_context e.f c) ≡ option_map renumbered_acting (acting_with x n rows c)
  with-goes x n rows c = by c.focus
    where
      by : (o : Option Focus) → option_map (λ (y : Focus). record { element = n; rows = map e.f rows; model = c.model; focus = y; told = map (renumbered_property e.f) x.told }) (option_map (renumbered_focus e.f) o)
          ≡ option_map renumbered_acting (option_map (λ (y : Focus). record { element = n; rows = rows; model = c.model; focus = y; told = x.told }) o)
      by None = refl
      by (Some y) = refl

  bindings : (s : State) → Fits e s → (n : ℕ) → BoundGoes e.f (element_at (interface s) n).binding
  bindings s h n = (elements-go e.f e.runs.renumbers s (has-form s h.form) n).binding

  quiet-goes : (s : State) → Fits e s → GoesAround e.f (quiet e.p s) (quiet e.p (other e s))
  quiet-goes s h = around-goes e.p e.f e.runs.renumbers e.second s (has-form s h.form) None

  in-goes : (x : Fired) (n : ℕ) (s : State) → Fits e s → (o : Option (List ℕ))
      → acting_in e.p (renumbered_fired e.f x) n (other e s) (option_map (map e.f) o) ≡ mapped e (option_map renumbered_acting) (acting_in e.p x n s o)
  in-goes x n s h None = refl
  in-goes x n s h (Some rows) =
      ap (λ o. or_long (other e s) o >>= λ c. Ok (acting_with (renumbered_fired e.f x) n (map e.f rows) c))
      (context-goes e.f e.runs.renumbers (quiet e.p s) (quiet e.p (other e s)) (quiet-goes s h) (interface s) (bindings s h) rows n)
      ∙ by (context_of (interface s) (quiet e.p s) rows n)
    where
      by : (o : Option Context) → (or_long (other e s) (option_map (renumbered_context e.f) o) >>= λ c. Ok (acting_with (renumbered_fired e.f x) n (map e.f rows) c))
          ≡ mapped e (option_map renumbered_acting) (or_long s o >>= λ c. Ok (acting_with x n rows c))
      by None = refl
      by (Some c) = ap Ok (with-goes x n rows c)

  pub acting-goes : (x : Fired) (n : ℕ) (s : State) → Fits e s → acting e.p (renumbered_fired e.f x) n (other e s) ≡ mapped e (option_map renumbered_acting) (acting e.p x n s)
  acting-goes x n s h =
      ap (acting_in e.p (renumbered_fired e.f x) n (other e s)) (handler-goes (interface s) s.indexes x.event.target x.rows n)
      ∙ in-goes x n s h (handler_rows (interface s) s.indexes x.event.target x.rows n)

  -- ---- what they evaluate

  pub seen-goes : (x : Acting) (s : State) → Fits e s → GoesAround e.f (surroundings e.p x s) (surroundings e.p (renumbered_acting x) (other e s))
  seen-goes x s h = around-goes e.p e.f e.runs.renumbers e.second s (has-form s h.form) (Some x.told)

  pub own-goes : (x : Acting) (s : State) → Fits e s → BoundGoes e.f (binding_of x s)
  own-goes x s h = bindings s h x.element

  pub value-goes : (x : Acting) (s : State) → Fits e s → (c : Focus) (m : Meaning) → Renumbers e.f m
      → value_for e.p (renumbered_acting x) (other e s) (renumbered_focus e.f c) m ≡ mapped e (renumbered_value e.f) (value_for e.p x s c m)
  value-goes x s h c m r =
      ap (or_long (other e s)) (meaning-goes e.f e.runs.renumbers (surroundings e.p x s) (surroundings e.p (renumbered_acting x) (other e s)) (seen-goes x s h) m r x.model c)
      ∙ long-mapped e (renumbered_value e.f) s (m (setting (surroundings e.p x s) x.model c.node) c)

  pub truth-goes : (x : Acting) (s : State) → Fits e s → (m : Meaning) → Renumbers e.f m → truth_for e.p (renumbered_acting x) (other e s) m ≡ truth_for e.p x s m
  truth-goes x s h m r = ap (λ o. o >>= λ value. Ok (truth_of value)) (value-goes x s h x.focus m r) ∙ by (value_for e.p x s x.focus m)
    where
      by : (o : Result Value Refused) → (mapped e (renumbered_value e.f) o >>= λ value. Ok (truth_of value)) ≡ (o >>= λ value. Ok (truth_of value))
      by (Ok v) = ap Ok (truth-renumbered e.f v)
      by (Err refusal) = refl

  pub text-goes : (x : Acting) (s : State) → Fits e s → (c : Focus) (m : Meaning) → Renumbers e.f m → text_for e.p (renumbered_acting x) (other e s) (renumbered_focus e.f c) m ≡ text_for e.p x s c m
  text-goes x s h c m r =
      ap (or_long (other e s))
      (worth-goes e.f e.runs.renumbers (interface s) (elements-go e.f e.runs.renumbers s (has-form s h.form)) (surroundings e.p x s) (surroundings e.p (renumbered_acting x) (other e s)) (seen-goes x s h) m r x.model c)
      ∙ long-same e s (text_worth m (setting (surroundings e.p x s) x.model c.node) c)

  pub whole-goes : (x : Acting) (s : State) → Fits e s → (c : Focus) (m : Meaning) → Renumbers e.f m → whole_for e.p (renumbered_acting x) (other e s) (renumbered_focus e.f c) m ≡ whole_for e.p x s c m
  whole-goes x s h c m r =
      let a = surroundings e.p x s in
      let b = surroundings e.p (renumbered_acting x) (other e s) in
      let last : State → Around → ℕ → Value → Result (Option ℤ) Refused = λ t y n value. or_long t (number_of (setting y x.model n) value) >>= λ k. Ok (whole_of t.form.decimals k) in
      ap (λ o. o >>= last (other e s) b (e.f c.node)) (value-goes x s h c m r) ∙ by (value_for e.p x s c m)
    where
      same-number : (v : Value) → number_of (setting (surroundings e.p (renumbered_acting x) (other e s)) x.model (e.f c.node)) (renumbered_value e.f v) ≡ number_of (setting (surroundings e.p x s) x.model c.node) v
      same-number v =
          let a = surroundings e.p x s in
          let b = surroundings e.p (renumbered_acting x) (other e s) in
          ap (λ t. number_of t (renumbered_value e.f v)) (setting-goes e.f e.runs.renumbers a b (seen-goes x s h) x.model c.node)
          ∙ number_of-renumbered e.f e.runs.renumbers (setting a x.model c.node) (strings e.f e.runs.renumbers a b (seen-goes x s h)) (strings-go e.f e.runs.renumbers a b (seen-goes x s h) x.model c.node) v

      by : (o : Result Value Refused)
          → (mapped e (renumbered_value e.f) o >>= λ value. or_long (other e s) (number_of (setting (surroundings e.p (renumbered_acting x) (other e s)) x.model (e.f c.node)) value) >>= λ k. Ok (whole_of s.form.decimals k))
          ≡ (o >>= λ value. or_long s (number_of (setting (surroundings e.p x s) x.model c.node) value) >>= λ k. Ok (whole_of s.form.decimals k))
      by (Err refusal) = refl
      by (Ok v) =
          ap (λ o. or_long (other e s) o >>= λ k. Ok (whole_of s.form.decimals k)) (same-number v)
          ∙ ap (λ o. o >>= λ k. Ok (whole_of s.form.decimals k)) (long-same e s (number_of (setting (surroundings e.p x s) x.model c.node) v))

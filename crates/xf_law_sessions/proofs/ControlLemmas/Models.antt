-- The model in scope of an element is one of the form, and so is that of an action.
use Rattle.std.proofs.Common.{ℕ, ◌≡◌, List, [], ◌∷◌, ◌++◌, Option, Some, None, option_map, Result, Ok, Err, refl, sym, subst}
use Rattle.std.specs.Prelude.{unwrap_or, slice_get}
use Rattle.xf_def_xpath.specs.Setting.{◌>>=◌}
use Rattle.xf_def_ui.specs.Around.{Around, first_bound, all_bound}
use Rattle.xf_def_ui.specs.Context.{Inside, Context, free, named_model, scope_of, focus_in, place_of, row_place, rest, enter_bound, enter_sent, enter_by, enter, entered, inside, context_in, context_of}
use Rattle.xf_def_ui.specs.Elements.{element_at, elements_on, path_to}
use Rattle.xf_def_ui.specs.Interface.{Bound, unbound, nodes, by_bind, Sort, other, repeated, Interface}
use Rattle.xf_def_ui.specs.Named.{handler_rows}
use Rattle.xf_def_machine.specs.Acting.{Acting, acting, acting_in, acting_with}
use Rattle.xf_def_machine.specs.Events.{Fired}
use Rattle.xf_def_machine.specs.Profile.{Profile}
use Rattle.xf_def_machine.specs.Program.{Program}
use Rattle.xf_def_machine.specs.Refusal.{Refused, or_long}
use Rattle.xf_def_machine.specs.State.{State}
use Rattle.xf_def_machine.specs.Surround.{interface, quiet}
use Rattle.xf_def_machine.specs.Targets.{scope_through, model_around}
use Rattle.xf_law_machine.proofs.RestLemmas.Holds.{Held, held-then}
use Rattle.xf_law_sessions.specs.Control.Models.{IsModelOf, HasModels, ScopeLaws}

-- a fact of what there is, if anything is
abbrev pub IfSome : {A : Type 0} → (A → Type 0) → Option A → Type 0
IfSome P None = Unit {0}
IfSome P (Some x) = P x

if-mapped : {A B : Type 0} (P : B → Type 0) (g : A → B) (o : Option A) → ((x : A) → P (g x)) → IfSome P (option_map g o)
if-mapped P g None h = tt
if-mapped P g (Some x) h = h x

if-moved : {A B : Type 0} (P : A → Type 0) (Q : B → Type 0) (g : A → B) (o : Option A) → IfSome P o → ((x : A) → P x → Q (g x)) → IfSome Q (option_map g o)
if-moved P Q g None i h = tt
if-moved P Q g (Some x) i h = h x i

if-then : {A B : Type 0} (P : A → Type 0) (Q : B → Type 0) (o : Option A) (next : A → Option B) → IfSome P o → ((x : A) → P x → IfSome Q (next x)) → IfSome Q (o >>= next)
if-then P Q None next i h = tt
if-then P Q (Some x) next i h = h x i

module _ (form : Program) (h : HasModels form) where
  abbrev f : Interface
  f = form.interface

  abbrev Low : ℕ → Type 0
  Low model = IsModelOf form model

  unwrapped : (o : Option ℕ) (outer : ℕ) → ((m : ℕ) → o ≡ Some m → Low m) → Low outer → Low (unwrap_or o outer)
  unwrapped None outer k i = i
  unwrapped (Some m) outer k i = k m refl

  scope-low : (outer n : ℕ) → Low outer → Low (scope_of f outer (element_at f n))
  scope-low outer n i = by (element_at f n).binding
    where
      by : (b : Bound) → Low (unwrap_or (named_model f b (element_at f n).model) outer)
      by unbound = unwrapped (element_at f n).model outer (h.named n) i
      by (nodes m) = unwrapped (element_at f n).model outer (h.named n) i
      by (by_bind k) = unwrapped (slice_get f.bind_models k) outer (h.bound k) i

  abbrev InLow : Inside → Type 0
  InLow s = Low s.model

  module _ (a : Around) where
    bound-low : (s : Inside) (model : ℕ) (binding : Bound) → Low model → IfSome InLow (enter_bound a s model binding)
    bound-low s model unbound i = i
    bound-low s model (nodes m) i = if-mapped InLow (λ n. record { model = model; place = place_of n; rows = s.rows }) (first_bound a model (nodes m) (focus_in a model s.place)) (λ n. i)
    bound-low s model (by_bind k) i = if-mapped InLow (λ n. record { model = model; place = place_of n; rows = s.rows }) (first_bound a model (by_bind k) (focus_in a model s.place)) (λ n. i)

    sent-low : (s : Inside) (model : ℕ) (binding : Bound) → Low model → IfSome InLow (enter_sent a s model binding)
    sent-low s model unbound i = i
    sent-low s model (nodes m) i = bound-low (record s { place = free }) model (nodes m) i
    sent-low s model (by_bind k) i = bound-low (record s { place = free }) model (by_bind k) i

    by-low : (s : Inside) (model : ℕ) (binding : Bound) (sort : Sort) → Low model → IfSome InLow (enter_by a s model binding sort)
    by-low s model binding (repeated k start) i =
        if-mapped InLow (λ rows. record { model = model; place = row_place rows s.rows; rows = rest s.rows }) (all_bound a model binding (focus_in a model s.place)) (λ rows. i)
    by-low s model binding other i = sent-low s model binding i
    by-low s model binding sort i = bound-low s model binding i

    entered-low : (ns : List ℕ) (s : Inside) → InLow s → IfSome InLow (entered f a s (elements_on f ns))
    entered-low [] s i = i
    entered-low (n ∷ ns) s i =
        let e = element_at f n in
        if-then InLow InLow (enter f a s e) (λ t. entered f a t (elements_on f ns)) (by-low s (scope_of f s.model e) e.binding e.sort (scope-low s.model n i)) (λ t j. entered-low ns t j)

    pub context-low : (rows : List ℕ) (n : ℕ) → IfSome (λ c. Low c.model) (context_of f a rows n)
    context-low rows n =
        if-moved InLow (λ c. Low c.model) (λ s. context_in f a s (element_at f n)) (inside f a rows n)
        (entered-low (path_to f n) (record { model = 0; place = free; rows = rows }) h.some) (λ s i. scope-low s.model n i)

  -- the model around an element
  through-low : (ns : List ℕ) (model : ℕ) → Low model → Low (scope_through f model (elements_on f ns))
  through-low [] model i = i
  through-low (n ∷ ns) model i = through-low ns (scope_of f model (element_at f n)) (scope-low model n i)

  pub around-low : (n : ℕ) → Low (model_around f n)
  around-low n = through-low (path_to f n ++ n ∷ []) 0 h.some

  -- that of an action
  abbrev pub ActingLow : Acting → Type 0
  ActingLow x = Low x.model

  with-low : (e : Fired) (n : ℕ) (rows : List ℕ) (c : Context) → Low c.model → IfSome ActingLow (acting_with e n rows c)
  with-low e n rows c i = if-mapped ActingLow (λ x. record { element = n; rows = rows; model = c.model; focus = x; told = e.told }) c.focus (λ x. i)

  in-low : (p : Profile) (e : Fired) (n : ℕ) (s : State) → s.form ≡ form → (o : Option (List ℕ)) → Held (IfSome ActingLow) (acting_in p e n s o)
  in-low p e n s is None = tt
  in-low p e n s is (Some rows) =
      let o = context_of (interface s) (quiet p s) rows n in
      let low : IfSome (λ c. Low c.model) o = subst (λ (x : Program). IfSome (λ c. Low c.model) (context_of x.interface (quiet p s) rows n)) (sym is) (context-low (quiet p s) rows n) in
      held-then (λ c. Low c.model) (IfSome ActingLow) (or_long s o) (λ c. Ok (acting_with e n rows c)) (long o low) (with-low e n rows)
    where
      long : (o : Option Context) → IfSome (λ c. Low c.model) o → Held (λ c. Low c.model) (or_long s o)
      long None i = tt
      long (Some c) i = i

  pub acting-low : (p : Profile) (e : Fired) (n : ℕ) (s : State) → s.form ≡ form → Held (IfSome ActingLow) (acting p e n s)
  acting-low p e n s is = in-low p e n s is (handler_rows (interface s) s.indexes e.event.target e.rows n)

of-acting : (form : Program) (r : Result (Option Acting) Refused) (x : Acting) → Held (IfSome (λ (a : Acting). IsModelOf form a.model)) r → r ≡ Ok (Some x) → IsModelOf form x.model
of-acting form (Err refusal) x h e = cc e
of-acting form (Ok o) x h e = let same : o ≡ Some x = cc e in subst (IfSome (λ (a : Acting). IsModelOf form a.model)) same h

pub scope_laws : ScopeLaws
scope_laws = record {
  acting = λ p e n s x h q. of-acting s.form (acting p e n s) x (acting-low s.form h p e n s refl) q;
  around = λ form n h. around-low form h n;
}

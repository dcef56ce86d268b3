-- What is read over the data and the event is what the machine reads in its state.
use Rattle.std.proofs.Common.{◌≡◌, ℕ, List, [], ◌∷◌, Option, Some, None, option_map, Result, Ok, refl, sym, ap, ◌∙◌, subst, ◌⊎◌, inl, inr}
use Rattle.xf_def_xpath.specs.declared.fault.EvalFault.{EvalFault}
use Rattle.xf_def_xpath.specs.declared.fault.EvalFault.TheVariants as eval
use Rattle.xf_def_xpath.specs.declared.value.Value.{Value}
use Rattle.xf_def_xpath.specs.Conversions.{number_of, truth_of}
use Rattle.xf_def_xpath.specs.Setting.{Focus}
use Rattle.xf_def_values.specs.Conversions.{Decimal}
use Rattle.xf_def_ui.specs.Around.{Around, alone, setting}
use Rattle.xf_def_ui.specs.Context.{Context, Inside}
use Rattle.xf_def_ui.specs.Elements.{element_at}
use Rattle.xf_def_ui.specs.Interface.{Bound, unbound, nodes, by_bind}
use Rattle.xf_def_ui.specs.Labels.{text_in}
use Rattle.xf_def_machine.specs.declared.limit.LimitWord.TheVariants as word
use Rattle.xf_def_machine.specs.Acting.{Acting, surroundings, whole_of}
use Rattle.xf_def_machine.specs.Flow.{◌>>=◌}
use Rattle.xf_def_machine.specs.Refusal.{Refused, limit, or_long}
use Rattle.xf_def_machine.specs.State.{State}
use Rattle.xf_def_machine.specs.Surround.{Told, around, interface}
use Rattle.xf_def_machine.specs.Telling.{loaded_text}
use Rattle.xf_actions.specs.Performs.{Refuses, RefusedAs}
use Rattle.xf_eval_context.specs.declared.over.Over.{Over}
use Rattle.xf_eval_context.specs.Over.{around_over, text_or, truth_worth, whole_worth}
use Rattle.xf_def_form.specs.Formed.{profile}
use Rattle.xf_actions.specs.Fault.{means, fault_of}
use Rattle.xf_engine_world.specs.Seen.{IsOver}

-- a string was too long, or memory was wanting
pub long-told : {X : Type 0} (e : EvalFault) (s : State) (given : Option X) → (e ≡ eval.Memory) ⊎ ((e ≡ eval.Long) × (given ≡ None)) → Refuses (means (fault_of e)) s.calls (or_long s given)
unfolding Refuses
long-told e s given (inl h) = subst (λ f. Refuses (means (fault_of f)) s.calls (or_long s given)) (sym h) tt
long-told e s given (inr p) =
    subst (λ f. Refuses (means (fault_of f)) s.calls (or_long s given)) (sym p.0)
    (subst (λ o. RefusedAs (limit (word.Long ∷ [])) s.calls (or_long s o)) (sym p.1) ((word.Long, inl refl, refl), refl))

module _ (o : Over) (s : State) (event : Option Told) (is : IsOver o s event) where
  pub read-some : {X : Type 0} (ask : Around → Option X) (x : X) → ask (around_over o) ≡ Some x → or_long s (ask (around profile s event)) ≡ Ok x
  read-some ask x e = ap (λ b. or_long s (ask b)) is.around ∙ ap (or_long s) e

  pub read-fault : {X : Type 0} (ask : Around → Option X) (e : EvalFault) → (e ≡ eval.Memory) ⊎ ((e ≡ eval.Long) × (ask (around_over o) ≡ None))
      → Refuses (means (fault_of e)) s.calls (or_long s (ask (around profile s event)))
  read-fault ask e h = subst (λ b. Refuses (means (fault_of e)) s.calls (or_long s (ask b))) (sym is.around) (long-told e s (ask (around_over o)) h)

-- ---- truths and whole numbers

pub truth-by : (s : State) (a : Around) (model : ℕ) (c : Focus) (o : Option Value)
    → (or_long s o >>= λ v. Ok (truth_of v)) ≡ or_long s (truth_worth a model c (λ t x. o))
truth-by s a model c None = refl
truth-by s a model c (Some v) = refl

pub whole-by : (s : State) (a : Around) (model : ℕ) (c : Focus) (o : Option Value)
    → (or_long s o >>= λ v. or_long s (number_of (setting a model c.node) v) >>= λ k. Ok (whole_of a.given.decimals k)) ≡ or_long s (whole_worth a model c (λ t x. o))
whole-by s a model c None = refl
whole-by s a model c (Some v) = by (number_of (setting a model c.node) v)
  where
    by : (o : Option Decimal) → (or_long s o >>= λ k. Ok (whole_of a.given.decimals k)) ≡ or_long s (option_map (whole_of a.given.decimals) o)
    by None = refl
    by (Some k) = refl

-- ---- the context that is moved

abbrev at_node : ℕ → Option ℕ → Context
at_node model n = record { model = model; focus = option_map alone n }

pub moved-by : (s : State) (model : ℕ) (o : Option (Option ℕ))
    → (or_long s (option_map (λ n. at_node model n) o) >>= λ (c : Context). Ok c.focus) ≡ (or_long s o >>= λ n. Ok (option_map alone n))
moved-by s model None = refl
moved-by s model (Some n) = refl

-- ---- the text that is loaded

pub loaded-by : (s : State) (x : Acting) (resource : List ℕ) (binding : Bound)
    → loaded_text profile x resource s binding ≡ or_long s (text_or (surroundings profile x s) (record { model = x.model; focus = Some x.focus }) resource binding)
loaded-by s x resource unbound = refl
loaded-by s x resource (nodes m) = refl
loaded-by s x resource (by_bind k) = refl

-- ---- the text of a message

-- by what the elements around the message give it
abbrev pub spoken_in : State → Acting → Inside → Result (List ℕ) Refused
spoken_in s x within = or_long s (text_in (interface s) (surroundings profile x s) within (element_at (interface s) x.element))

-- An action that is about to act (XForms 1.1, sections 7.2 and 10): its rows, by the event that it is called for, and its context over the
-- present data. One without a context node is passed over.
use Rattle.std.specs.Prelude.{ℕ, Bool, List, Option, Some, None, option_map, Result, Ok, ℤ, pos}
use Rattle.std.specs.Int.{int_div_euclid}
use Rattle.xf_num.specs.Number.{scale, rounded}
use Rattle.xf_def_xpath.specs.declared.value.Value.{Value}
use Rattle.xf_def_xpath.specs.Setting.{Focus, Meaning}
use Rattle.xf_def_xpath.specs.Meaning.{text_worth}
use Rattle.xf_def_xpath.specs.Conversions.{truth_of, number_of}
use Rattle.xf_def_ui.specs.Interface.{Bound}
use Rattle.xf_def_ui.specs.Elements.{element_at}
use Rattle.xf_def_ui.specs.Around.{Around, setting}
use Rattle.xf_def_ui.specs.Context.{Context, context_of}
use Rattle.xf_def_ui.specs.Named.{handler_rows}
use Rattle.xf_def_machine.specs.Program.{Act, Role, action, role_at}
use Rattle.xf_def_machine.specs.Profile.{Profile}
use Rattle.xf_def_machine.specs.State.{State}
use Rattle.xf_def_machine.specs.Refusal.{Refused, or_long}
use Rattle.xf_def_machine.specs.Flow.{◌>>=◌}
use Rattle.xf_def_machine.specs.Surround.{Told, interface, around, quiet}
use Rattle.xf_def_machine.specs.Events.{Fired}

-- an action that acts
pub record Acting : Type 0 where
  -- the element of the action
  pub element : ℕ
  -- the rows of the repeats around it
  pub rows : List ℕ
  -- its model in scope, and its context
  pub model : ℕ
  pub focus : Focus
  -- the properties of the event
  pub told : Told

-- ---- the action

-- the action that an element is
abbrev pub act_in : Role → Option Act
act_in (action a) = Some a
act_in role = None

-- that of the element with this number
abbrev pub act_at : State → ℕ → Option Act
act_at s n = act_in (role_at s.form n)

-- where there is a context node
abbrev pub acting_with : Fired → ℕ → List ℕ → Context → Option Acting
acting_with e n rows c = option_map (λ x. record { element = n; rows = rows; model = c.model; focus = x; told = e.told }) c.focus

-- where there are rows
abbrev pub acting_in : Profile → Fired → ℕ → State → Option (List ℕ) → Result (Option Acting) Refused
acting_in p e n s None = Ok None
acting_in p e n s (Some rows) = or_long s (context_of (interface s) (quiet p s) rows n) >>= λ c. Ok (acting_with e n rows c)

-- of the element, called for this event: none where an index is 0 or it has no context node
abbrev pub acting : Profile → Fired → ℕ → State → Result (Option Acting) Refused
acting p e n s = acting_in p e n s (handler_rows (interface s) s.indexes e.event.target e.rows n)

-- ---- what it evaluates: the properties of the event are seen

-- what surrounds its expressions
abbrev pub surroundings : Profile → Acting → State → Around
surroundings p x s = around p s (Some x.told)

-- what its element binds
abbrev pub binding_of : Acting → State → Bound
binding_of x s = (element_at (interface s) x.element).binding

-- the value of an expression at a context node
abbrev pub value_for : Profile → Acting → State → Focus → Meaning → Result Value Refused
value_for p x s c m = or_long s (m (setting (surroundings p x s) x.model c.node) c)

-- that of an expression at its own context, as a truth
abbrev pub truth_for : Profile → Acting → State → Meaning → Result Bool Refused
truth_for p x s m = value_for p x s x.focus m >>= λ value. Ok (truth_of value)

-- as a text
abbrev pub text_for : Profile → Acting → State → Focus → Meaning → Result (List ℕ) Refused
text_for p x s c m = or_long s (text_worth m (setting (surroundings p x s) x.model c.node) c)

-- a number as a whole one (XPath 1.0, section 4.4): None is NaN
abbrev pub whole_of : ℕ → Option ℤ → Option ℤ
whole_of d k = option_map (λ units. int_div_euclid units (pos (scale d))) (rounded d k)

-- as a whole number
abbrev pub whole_for : Profile → Acting → State → Focus → Meaning → Result (Option ℤ) Refused
whole_for p x s c m =
    value_for p x s c m >>= λ value. or_long s (number_of (setting (surroundings p x s) x.model c.node) value) >>= λ k. Ok (whole_of s.form.decimals k)

-- What stands around an element of a form, as code has it and as definitions do (XForms 1.1, section 7.2).
use Rattle.std.specs.Prelude.{ℕ, List, map, Option, Some, option_map}
use Rattle.xf_def_ui.specs.Around.{Around, first_bound}
use Rattle.xf_def_ui.specs.Context as context
use Rattle.xf_def_ui.specs.Interface.{Bound, unbound, Sort, other}
use Rattle.xf_def_ui.specs.Focused.{focus_of}
use Rattle.xf_eval_context.specs.declared.inside.Inside.{Inside}
use Rattle.xf_eval_context.specs.declared.inside.Place.{Place}
use Rattle.xf_eval_context.specs.declared.inside.Place.TheVariants.{Free, Lost, On}
use Rattle.xf_eval_context.specs.declared.inside.Situation.{Situation}

abbrev pub seen_place : Place → context.Place
seen_place Free = context.free
seen_place Lost = context.lost
seen_place (On focus) = context.on (focus_of focus)

abbrev pub seen_inside : Inside → context.Inside
seen_inside i = record { model = i.model; place = seen_place i.place; rows = map (λ n. n.number) i.rows.now }

abbrev pub seen_context : Situation → context.Context
seen_context c = record { model = c.model; focus = option_map focus_of c.focus }

-- what the first element of a form has around it
abbrev pub first_inside : List ℕ → context.Inside
first_inside rows = record { model = 0; place = context.free; rows = rows }

-- a submission has nothing around it
abbrev pub place_for : Sort → context.Place → context.Place
place_for other place = context.free
place_for sort place = place

-- the place that a binding in a model gives, evaluated at another one
abbrev pub bound_place : Around → ℕ → context.Place → context.Place → Bound → Option context.Place
bound_place a model place from unbound = Some place
bound_place a model place from binding = option_map context.place_of (first_bound a model binding (context.focus_in a model from))

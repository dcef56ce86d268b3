-- What is handed down, as code has it and as definitions do.
use Rattle.std.specs.Prelude.{ℕ, ◌≡◌, map, option_map}
use Rattle.xf_def_ui.specs.declared.marks.Marks.{Marks}
use Rattle.xf_def_ui.specs.Interface.{Element, Interface}
use Rattle.xf_def_ui.specs.Around.{Around}
use Rattle.xf_def_ui.specs.Context.{context_in}
use Rattle.xf_def_ui.specs.Copies.{is_open_by, own_binding}
use Rattle.xf_eval_context.specs.Inside.{seen_context, seen_place}
use Rattle.xf_controls.specs.Seen.{number}
use Rattle.xf_controls_copies.specs.Handed as down
use Rattle.xf_controls_copies.specs.declared.handed.Found.{Found}
use Rattle.xf_controls_copies.specs.declared.handed.Handed.{Handed}

abbrev pub seen_handed : Handed → down.Handed
seen_handed h = record { model = h.model; place = seen_place h.place; rows = map number h.rows.now; is_enabled = h.is_enabled }

-- where an element is evaluated, and whether what it binds is open
pub record IsFound (f : Interface) (a : Around) (marks : ℕ → Marks) (h : down.Handed) (e : Element) (found : Found) : Type 0 where
  pub situation : seen_context found.situation ≡ context_in f a (down.inside_of h) e
  pub is_open : found.is_open ≡ is_open_by marks (own_binding e e.sort) (option_map number found.node)

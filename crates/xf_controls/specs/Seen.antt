-- Copies and surroundings, as code has them and as definitions do.
use Rattle.std.specs.Prelude.{ℕ, Bool, ◌&&◌, List, Option, Some, None, option_map, bytes_eq, ◌==◌}
use Rattle.xf_def_forest.specs.declared.content.Node.{Node}
use Rattle.xf_def_forest.specs.declared.node.NodeId.{NodeId}
use Rattle.xf_def_xpath.specs.Binding.{as_list}
use Rattle.xf_eval.specs.Live.{AllLive}
use Rattle.xf_def_ui.specs.Context as context
use Rattle.xf_def_ui.specs.Copies as copies
use Rattle.xf_def_ui.specs.Around.{alone}
use Rattle.xf_def_ui.specs.Notifications as told
use Rattle.xf_controls.specs.declared.copy.ControlCopy.{ControlCopy}
use Rattle.xf_controls.specs.declared.handed.Place.{Place}
use Rattle.xf_controls.specs.declared.handed.Place.TheVariants as place
use Rattle.xf_controls.specs.declared.handed.Handed.{Handed}
use Rattle.xf_controls.specs.declared.refresh.Notification.{Notification}
use Rattle.xf_controls.specs.Handed as handed

abbrev pub number : NodeId → ℕ
number n = n.number

-- ---- copies

abbrev pub seen_copy : ControlCopy → copies.Copy
seen_copy c = record {
  element = c.element;
  rows = c.rows;
  node = option_map number c.node;
  value = c.value;
  enabled = c.enabled;
  readwrite = c.readwrite;
  required = c.required;
  valid = c.valid;
  items = c.items;
}

abbrev pub is_copy_at : ℕ → List ℕ → copies.Copy → Bool
is_copy_at n rows c = (c.element == n) && bytes_eq c.rows rows

abbrev pub seen_notification : Notification → told.Notification
seen_notification n = record { name = n.name.now; target = n.target; rows = n.rows }

-- ---- surroundings

abbrev pub seen_place : Place → context.Place
seen_place place.Free = context.free
seen_place place.Lost = context.lost
seen_place (place.On n) = context.on (alone n.number)

abbrev pub seen_handed : Handed → handed.Handed
seen_handed h = record { model = h.model; place = seen_place h.place; is_open = h.is_open }

-- the node stands in the forest
abbrev pub IsThere : Option NodeId → List Node → Type 0
IsThere node nodes = AllLive (as_list (option_map number node)) nodes

abbrev pub node_of_place : Place → Option NodeId
node_of_place (place.On n) = Some n
node_of_place place = None

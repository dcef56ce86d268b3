-- In which elements an element outside schemas may stand (XForms 1.1, sections 3, 8, 9 and 10). The root of a form stands as in a host element.
use Rattle.std.specs.Prelude.{Bool, true, false, not, ◌||◌, if◌then◌else◌}
use Rattle.xf_form_vocabulary.specs.declared.tag.Tag.{Tag}
use Rattle.xf_form_vocabulary.specs.declared.tag.Tag.TheVariants as tag
use Rattle.xf_form_vocabulary.specs.Classes.{is_container, is_control}

abbrev pub is_host : Tag → Bool
is_host tag.Host = true
is_host t = false

abbrev pub is_model : Tag → Bool
is_model tag.Model = true
is_model t = false

abbrev pub is_switch : Tag → Bool
is_switch tag.Switch = true
is_switch t = false

-- host elements and containers
abbrev pub is_open : Tag → Bool
is_open t = is_host t || is_container t

abbrev pub holds_binds : Tag → Bool
holds_binds tag.Model = true
holds_binds tag.Bind = true
holds_binds t = false

abbrev pub tells_outputs : Tag → Bool
tells_outputs tag.Message = true
tells_outputs tag.Label = true
tells_outputs t = false

abbrev pub holds_choices : Tag → Bool
holds_choices tag.Select = true
holds_choices tag.SelectOne = true
holds_choices tag.Choices = true
holds_choices t = false

abbrev pub is_item : Tag → Bool
is_item tag.Item = true
is_item tag.Itemset = true
is_item t = false

abbrev pub has_label : Tag → Bool
has_label tag.Choices = true
has_label tag.Group = true
has_label tag.Case = true
has_label t = is_item t || is_control t

abbrev pub holds_actions : Tag → Bool
holds_actions tag.Model = true
holds_actions tag.Submission = true
holds_actions tag.Action = true
holds_actions t = is_open t || is_control t

-- core controls, and the rest: actions
abbrev pub may_stand_by_class : Tag → Tag → Bool
may_stand_by_class t around = if is_control t then is_open around else holds_actions around

abbrev pub may_stand : Tag → Tag → Bool
may_stand tag.Host around = true
may_stand tag.Unknown around = false
may_stand tag.Instance around = is_model around
may_stand tag.Submission around = is_model around
may_stand tag.Schema around = is_model around
may_stand tag.Bind around = holds_binds around
may_stand tag.Case around = is_switch around
may_stand tag.Output around = is_open around || tells_outputs around
may_stand tag.Item around = holds_choices around
may_stand tag.Itemset around = holds_choices around
may_stand tag.Choices around = holds_choices around
may_stand tag.Value around = is_item around
may_stand tag.Label around = has_label around
may_stand tag.Help around = not (is_host around)
may_stand tag.Hint around = not (is_host around)
may_stand tag.Alert around = not (is_host around)
may_stand tag.Extension around = not (is_host around)
may_stand tag.Model around = is_open around
may_stand tag.Switch around = is_open around
may_stand tag.Group around = is_open around
may_stand tag.Repeat around = is_open around
may_stand t around = may_stand_by_class t around

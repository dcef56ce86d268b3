-- Classes of elements (XForms 1.1, sections 8, 9 and 10).
use Rattle.std.specs.Prelude.{Bool, true, false, ◌||◌}
use Rattle.xf_form_vocabulary.specs.declared.tag.Tag.{Tag}
use Rattle.xf_form_vocabulary.specs.declared.tag.Tag.TheVariants as tag

-- controls may stand in it, as they may in a host element
abbrev pub is_container : Tag → Bool
is_container tag.Group = true
is_container tag.Case = true
is_container tag.Repeat = true
is_container t = false

-- the core controls
abbrev pub is_control : Tag → Bool
is_control tag.Input = true
is_control tag.Secret = true
is_control tag.Textarea = true
is_control tag.Output = true
is_control tag.Select = true
is_control tag.SelectOne = true
is_control tag.Trigger = true
is_control tag.Submit = true
is_control t = false

-- what is counted as a control: core controls, containers and switches
abbrev pub is_counted : Tag → Bool
is_counted tag.Switch = true
is_counted t = is_container t || is_control t

abbrev pub is_action : Tag → Bool
is_action tag.Action = true
is_action tag.SetValue = true
is_action tag.Insert = true
is_action tag.Delete = true
is_action tag.SetIndex = true
is_action tag.Toggle = true
is_action tag.SetFocus = true
is_action tag.Dispatch = true
is_action tag.Send = true
is_action tag.Load = true
is_action tag.Message = true
is_action tag.Reset = true
is_action tag.Rebuild = true
is_action tag.Recalculate = true
is_action tag.Revalidate = true
is_action tag.Refresh = true
is_action t = false

-- it has no number: what stands in it is passed over, or is read as a schema
abbrev pub is_passed_over : Tag → Bool
is_passed_over tag.Help = true
is_passed_over tag.Hint = true
is_passed_over tag.Alert = true
is_passed_over tag.Extension = true
is_passed_over tag.Schema = true
is_passed_over t = false

-- an output in it is part of its text, and no control
abbrev pub tells_text : Tag → Bool
tells_text tag.Label = true
tells_text tag.Value = true
tells_text tag.Message = true
tells_text t = false

-- the texts in it count
abbrev pub keeps_text : Tag → Bool
keeps_text tag.SetValue = true
keeps_text t = tells_text t

-- its expressions are computed ones
abbrev pub has_properties : Tag → Bool
has_properties tag.Bind = true
has_properties t = false

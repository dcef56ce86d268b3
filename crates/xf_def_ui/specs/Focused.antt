-- The context of an expression, as the code has it.
use Rattle.xf_def_xpath.specs.Setting as setting
use Rattle.xf_def_ui.specs.declared.focus.Focus.{Focus}

-- with its node by number
abbrev pub focus_of : Focus → setting.Focus
focus_of x = record { node = x.node.number; position = x.position; size = x.size }

-- What an element binds, as code has it and as definitions do.
use Rattle.xf_def_xpath.specs.Meaning.{meaning}
use Rattle.xf_def_ui.specs.Interface as ui
use Rattle.xf_form_elements.specs.declared.bindings.Bound.{Bound}
use Rattle.xf_form_elements.specs.declared.bindings.Bound.TheVariants as bound

abbrev pub seen_bound : Bound → ui.Bound
seen_bound bound.Unbound = ui.unbound
seen_bound (bound.Nodes expr) = ui.nodes (meaning expr.now)
seen_bound (bound.ByBind k) = ui.by_bind k

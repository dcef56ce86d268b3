-- The words and the actions in the parts of an element, one part after the other: host elements are looked through (XForms 1.1, sections 10.1
-- and 10.2).
use Rattle.std.specs.Prelude.{ℕ, List, Option, Some, None, filter, if◌then◌else◌}
use Rattle.std.specs.List.{flat_map}
use Rattle.xf_def_syntax.specs.declared.element.Part.{Part}
use Rattle.xf_def_syntax.specs.declared.element.Part.TheVariants as part
use Rattle.xf_def_syntax.specs.Ordered.{child_in}
use Rattle.xf_def_ui.specs.Elements.{element_at, is_action, looked_through}
use Rattle.xf_def_ui.specs.Interface.{Interface}
use Rattle.xf_def_ui.specs.Labels.{pieces, words_in}

-- the part as an action
abbrev pub own_action : Interface → Part → Option ℕ
own_action f (part.Text text) = None
own_action f (part.Element n) = if is_action (element_at f n).sort then Some n else None

-- through so many host elements one inside the other
abbrev pub words_through : ℕ → Interface → List Part → List ℕ
words_through most f parts = flat_map words_in (pieces most f parts)

abbrev pub actions_through : ℕ → Interface → List Part → List ℕ
actions_through most f parts = filter (λ n. is_action (element_at f n).sort) (looked_through most f (flat_map child_in parts))

use Rattle.std.proofs.Common.{◌≡◌, drop}
use Rattle.std.specs.Prelude.{find}
use Rattle.std.specs.List.{flat_map}
use Rattle.xf_def_syntax.specs.Ordered.{child_in}
use Rattle.xf_def_ui.specs.Elements.{element_at}
use Rattle.xf_def_ui.specs.Interface.{interface_of}
use Rattle.xf_items.specs.Items.{is_sought}
use Rattle.xf_items.proofs.labels.first_sought.Given as goal

abbrev pub invariant-loop-part : goal.invariant-loop-part
invariant-loop-part l =
    find (λ m. is_sought l.sought (element_at (interface_of l.form) m).sort) (flat_map child_in l.parts)
    ≡ find (λ m. is_sought l.sought (element_at (interface_of l.form) m).sort) (flat_map child_in (drop l.part-index l.parts))

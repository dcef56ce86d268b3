use Rattle.std.proofs.Common.{◌≡◌, map, drop}
use Rattle.xf_name.specs.Bindings.{no_bindings}
use Rattle.xf_name.specs.Shown.{with_shown, shown_by}
use Rattle.xf_name.proofs.prefixes.Prefixes.of_elements.Given as goal

abbrev pub invariant-loop-element : goal.invariant-loop-element
invariant-loop-element l = with_shown no_bindings (map shown_by l.elements) ≡ with_shown l.prefixes (map shown_by (drop l.element-index l.elements))

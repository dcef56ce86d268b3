use Rattle.std.proofs.Common.{◌≡◌, [], ◌++◌, option_map}
use Rattle.serde_json.specs.View.{items_view}
use Rattle.xf_json.specs.Element.{children_in}
use Rattle.xf_json.specs.Part.{items_from}
use Rattle.xf_json.proofs.reading.+element.Given as goal

abbrev pub invariant-loop-i : goal.invariant-loop-i
invariant-loop-i l = children_in [] (items_from l.from (items_view l.items)) ≡ option_map (λ rest. l.children ++ rest) (children_in l.text (items_from l.i (items_view l.items)))

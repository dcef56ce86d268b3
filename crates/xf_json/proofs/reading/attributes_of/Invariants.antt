use Rattle.std.proofs.Common.{◌≡◌, ◌++◌, option_map}
use Rattle.serde_json.specs.View.{members_view}
use Rattle.xf_json.specs.Element.{attributes_in}
use Rattle.xf_json.proofs.reading.attributes_of.Given as goal

abbrev pub invariant-loop-name : goal.invariant-loop-name
invariant-loop-name l = attributes_in (members_view l.members.entries) ≡ option_map (λ rest. l.attributes ++ rest) (attributes_in (members_view l.name-iterator))

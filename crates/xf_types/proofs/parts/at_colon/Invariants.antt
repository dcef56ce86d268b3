use Rattle.std.proofs.Common.{◌≡◌, ◌≤◌, ◌++◌, ◌-◌, length, take, drop}
use Rattle.std.specs.Prelude.{option_map}
use Rattle.xf_name.specs.Part.{at_colon}
use Rattle.xf_types.proofs.parts.at_colon.Given as goal

abbrev pub invariant-loop-at : goal.invariant-loop-at
invariant-loop-at l = record {
  within : l.at ≤ length l.text;
  same : at_colon l.text ≡ option_map (λ p. (take l.at l.text ++ p.0, p.1)) (at_colon (drop l.at l.text));
}

abbrev pub decreases-loop-at : goal.decreases-loop-at
decreases-loop-at l = length l.text - l.at

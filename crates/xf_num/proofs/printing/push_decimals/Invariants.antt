use Rattle.std.proofs.Common.{◌≡◌, ◌≤◌, ◌<◌, ◌++◌, string_bytes}
use Rattle.xf_num.specs.Number.{scale}
use Rattle.xf_num.specs.Written.{after_point, decimals_of}
use Rattle.xf_num.proofs.printing.push_decimals.Given as goal

abbrev pub invariant-places : goal.invariant-places
invariant-places l = record {
  few : l.left ≤ 9;
  below_one : l.rest < scale l.left;
  so_far : string_bytes l.text ++ decimals_of l.left l.rest
      ≡ string_bytes l.fn.text ++ after_point (decimals_of l.fn.decimals l.fn.units);
}

abbrev pub decreases-places : goal.decreases-places
decreases-places l = l.left

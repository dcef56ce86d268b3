use Rattle.std.proofs.Common.{◌≡◌, ◌≤◌, ◌+◌, ◌-◌, min, length, drop}
use Rattle.std.specs.Str.Parse.{digits_value_after}
use Rattle.xf_num.specs.Number.{size_limit}
use Rattle.xf_num.specs.Written.{leading_digits}
use Rattle.xf_num.proofs.reading.digits_onto.Given as goal

abbrev pub invariant-loop-count : goal.invariant-loop-count
invariant-loop-count l = record {
  within : l.count ≤ length l.text;
  capped : l.size ≤ size_limit;
  value : min (digits_value_after 10 l.size (leading_digits (drop l.count l.text))) size_limit
      ≡ min (digits_value_after 10 l.fn.start (leading_digits l.text)) size_limit;
  counted : l.count + length (leading_digits (drop l.count l.text)) ≡ length (leading_digits l.text);
}

abbrev pub decreases-loop-count : goal.decreases-loop-count
decreases-loop-count l = length l.text - l.count

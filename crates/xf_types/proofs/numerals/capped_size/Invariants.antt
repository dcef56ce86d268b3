use Rattle.std.proofs.Common.{◌≡◌, ◌≤◌, ◌^◌, min, true, drop}
use Rattle.std.specs.Str.Parse.{digits_value_after}
use Rattle.xf_num.specs.Written.{is_empty, after_digits}
use Rattle.xf_types.proofs.numerals.capped_size.Given as goal

abbrev pub invariant-loop-c : goal.invariant-loop-c
invariant-loop-c l = record {
  capped : l.size ≤ 2 ^ 64;
  digits : is_empty (after_digits (drop l.c-index l.digits)) ≡ true;
  value : min (digits_value_after 10 l.size (drop l.c-index l.digits)) (2 ^ 64) ≡ min (digits_value_after 10 0 l.digits) (2 ^ 64);
}

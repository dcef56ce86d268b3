use Rattle.std.proofs.Common.{◌≡◌, drop}
use Rattle.xf_num.specs.Written.{is_empty, after_digits}
use Rattle.xf_num.proofs.text.all_digits.Given as goal

abbrev pub invariant-loop-c : goal.invariant-loop-c
invariant-loop-c l = is_empty (after_digits (drop l.c-index l.text)) ≡ is_empty (after_digits l.text)

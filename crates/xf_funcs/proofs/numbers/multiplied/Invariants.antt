use Rattle.std.proofs.Common.{◌≡◌}
use Rattle.xf_funcs.specs.Numbers.{multiplied}
use Rattle.xf_funcs.proofs.numbers.multiplied.Given as goal

abbrev pub invariant-loop : goal.invariant-loop
invariant-loop l = l.product ≡ multiplied l.fn.decimals l.number l.counter

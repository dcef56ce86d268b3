use Rattle.std.proofs.Common.{sym, arith}
use Rattle.std.proofs.lemmas.Bool.Decides.{nat_tests}
use Rattle.xf_line.proofs.Arrays.{activate_unless}
use Rattle.xf_line.proofs.reading.activate_in.Goals as goal

pub returns-in_default : goal.returns-in_default
returns-in_default c = sym (activate_unless c.args.rest.now (λ e. grind (arith, nat_tests)))

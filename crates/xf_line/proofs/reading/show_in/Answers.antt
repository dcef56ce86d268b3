use Rattle.std.proofs.Common.{sym, arith}
use Rattle.std.proofs.lemmas.Bool.Decides.{nat_tests}
use Rattle.xf_line.proofs.Arrays.{show_unless}
use Rattle.xf_line.proofs.reading.show_in.Goals as goal

pub returns-in_default : goal.returns-in_default
returns-in_default c = sym (show_unless c.args.rest.now (λ e. grind (arith, nat_tests)))

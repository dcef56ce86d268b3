use Rattle.std.proofs.Common.{◌≡◌, ◌-◌, ◌==◌, true, false, length, get_or, sym, ◌∙◌, arith}
use Rattle.std.proofs.lemmas.Bool.Decides.{nat_tests}
use Rattle.xf_schema.proofs.DecimalLaws.{last-other, last-zero}
use Rattle.xf_schema.proofs.decimals.without_last_zeros.Goals as goal

pub loop-rest-preserved : goal.loop-rest-preserved
loop-rest-preserved c =
    let rest = c.loop-rest.rest.now in
    let test = c.if-last-ne48.false in
    let last : (get_or rest (length rest - 1) 0 == 48) ≡ true = grind (arith, nat_tests, test) in
    last-zero rest c.in-len1-up.len_at_least last ∙ c.loop-rest.invariant

pub returns-then-last-ne48 : goal.returns-then-last-ne48
returns-then-last-ne48 c =
    let rest = c.loop-rest.rest.now in
    let test = c.if-last-ne48.true in
    let last : (get_or rest (length rest - 1) 0 == 48) ≡ false = grind (arith, nat_tests, test) in
    sym (last-other rest c.in-len1-up.len_at_least last) ∙ c.loop-rest.invariant

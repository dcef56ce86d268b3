use Rattle.std.proofs.Common.{◌≡◌, length, sym, ◌∙◌, arith}
use Rattle.std.proofs.lemmas.Bool.Decides.{nat_tests}
use Rattle.xf_schema.proofs.DecimalLaws.{before-nothing, nothing-left}
use Rattle.xf_schema.proofs.decimals.is_before.Goals as goal

pub returns : goal.returns
returns c =
    let test = c.loop-left-test in
    let end : length c.loop-left.left.now ≡ 0 = grind (arith, nat_tests, test) in
    nothing-left c.loop-left.left.now c.loop-left.right.now c.is_empty-2.result end c.is_empty-2.ensures ∙ sym c.loop-left.invariant

pub returns-then-is_empty : goal.returns-then-is_empty
returns-then-is_empty c =
    let test = c.if-is_empty.ensures in
    let none : length c.loop-left.right.now ≡ 0 = grind (arith, nat_tests, test) in
    sym (before-nothing c.loop-left.left.now c.loop-left.right.now none) ∙ sym c.loop-left.invariant

use Rattle.std.proofs.Common.{◌∙◌, sym}
use Rattle.xf_dates.proofs.DecimalLemmas.{decimals_are_some}
use Rattle.xf_dates.proofs.decimals.decimal_units.Goals as goal

pub unreachable-requires : goal.unreachable-requires
unreachable-requires c =
    let few = rw c.count-most.ensures.value at c.count-most.ensures.most in
    let some = decimals_are_some c.args.decimals c.args.digits.now c.with_decimals.result few c.requires c.with_decimals.ensures in
    let none = sym c.in-None.is ∙ c.units.ensures.value in
    cc

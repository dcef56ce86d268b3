use Rattle.std.proofs.Common.{◌≡◌, ℕ, ◌∙◌, ap, arith, pos, negsuc, neg_ℤ, ◌*ℤ◌}
use Rattle.std.proofs.lemmas.Int.{ints}
use Rattle.xf_num.specs.Number.{scale, in_range}
use Rattle.xf_funcs.specs.Numbers.{order_number}
use Rattle.xf_funcs.proofs.searching.compared.Goals as goal

less : (units : ℕ) → negsuc 0 *ℤ pos units ≡ neg_ℤ (pos units)
less units = omega (arith, ints)

pub returns-in-Less : goal.returns-in-Less
returns-in-Less c =
    c.of_whole.ensures ∙ ap in_range (less (scale c.args.decimals)) ∙ ap (order_number c.args.decimals) c.in-Less.ensures

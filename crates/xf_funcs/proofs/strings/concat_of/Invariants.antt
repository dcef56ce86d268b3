use Rattle.std.proofs.Common.{◌≡◌, ◌≤◌, length, take, flat_map}
use Rattle.xf_base.specs.Limits.{string_limit}
use Rattle.xf_def_values.specs.Conversions.{text_in}
use Rattle.xf_funcs.proofs.strings.concat_of.Given as goal

abbrev pub invariant-loop-value : goal.invariant-loop-value
invariant-loop-value l = (l.made ≡ flat_map (text_in l.fn.decimals) (take l.value-index l.given)) × (length l.made ≤ string_limit)

use Rattle.std.proofs.Common.{◌+◌, ◌<◌, length, inr, refl, arith}
use Rattle.std.specs.Cow.{cow_str_bytes}
use Rattle.xf_base.specs.Limits.{string_limit}
use Rattle.xf_funcs.proofs.LimitLemmas.{concat_fault, concat_long}
use Rattle.xf_funcs.proofs.strings.concat_of.Goals as goal

pub returns-in-Err : goal.returns-in-Err
returns-in-Err c = concat_fault c.args.decimals c.args.given.now c.loop-value.value-index c.value-item.result c.in-Err.fault (omega arith) c.value-item.is c.in-Err.ensures

pub returns-then-len : goal.returns-then-len
returns-then-len c =
    let string = cow_str_bytes c.in-Ok.string in
    let long : string_limit < length c.loop-value.made + length string = omega arith in
    inr (refl, concat_long c.args.decimals c.args.given.now c.loop-value.value-index c.value-item.result c.loop-value.made string (omega arith) c.value-item.is c.loop-value.invariant.0 c.in-Ok.ensures long)

use Rattle.std.proofs.Common.{◌∙◌, ◌^◌, min, ap, sym, FitsSigned}
use Rattle.std.specs.Str.Parse.{digits_value}
use Rattle.std.specs.Int.{w128}
use Rattle.std.proofs.lemmas.Int.{to_z-of_z}
use Rattle.xf_types.proofs.SizeLemmas.{between_capped}
use Rattle.xf_types.proofs.numerals.is_between.Goals as goal

pub returns : goal.returns
returns c =
    let fits : FitsSigned w128 c.with_sign-value.result = record { sfits = c.with_sign-value.type_inv } in
    let bounds = c.is_in_bounds.ensures in
    between_capped c.args.least c.args.most c.args.text.now c.has_minus.result c.capped_size.result c.with_sign-value.result c.is_in_bounds.result
    (sym c.if-not-is_integer.ensures) c.requires.least c.requires.most c.has_minus.ensures
    (c.capped_size.ensures ∙ ap (λ digits. min (digits_value 10 digits) (2 ^ 64)) c.without_sign.ensures) c.with_sign-value.ensures
    (simp to_z-of_z at bounds)

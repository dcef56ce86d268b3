use Rattle.std.proofs.Common.{◌∙◌, sym, ap}
use Rattle.std.specs.Prelude.{◌&&◌}
use Rattle.xf_types.specs.Parts.{is_name}
use Rattle.xf_types.proofs.PartLemmas.{is_name-cut, is_name-whole, after_colon-shorter}
use Rattle.xf_types.proofs.parts.is_name.Goals as goal

pub returns-then-not-is_name_part : goal.returns-then-not-is_name_part
returns-then-not-is_name_part c =
    let rest = c.in-Some.after.now in
    sym (is_name-cut c.loop-before.rest.now c.in-Some.before.now rest c.in-Some.ensures
    ∙ ap (λ b. b && is_name rest) (sym c.if-not-is_name_part.ensures))
    ∙ c.loop-before.invariant

pub loop-before-smaller : goal.loop-before-smaller
loop-before-smaller c = after_colon-shorter c.loop-before.rest.now c.in-Some.before.now c.in-Some.after.now c.in-Some.ensures

pub loop-before-preserved : goal.loop-before-preserved
loop-before-preserved c =
    let rest = c.in-Some.after.now in
    sym (is_name-cut c.loop-before.rest.now c.in-Some.before.now rest c.in-Some.ensures
    ∙ ap (λ b. b && is_name rest) (sym c.if-not-is_name_part.ensures))
    ∙ c.loop-before.invariant

pub returns : goal.returns
returns c = c.is_name_part-2.ensures ∙ sym (is_name-whole c.loop-before.rest.now c.in_default.ensures) ∙ c.loop-before.invariant

use Rattle.std.proofs.Common.{sym, ap, ◌∙◌}
use Rattle.std.specs.Prelude.{option_map}
use Rattle.xf_schema.proofs.WayLaws.{end-further, end-here}
use Rattle.xf_schema.proofs.bases.end_of.Goals as goal

pub loop-left-preserved : goal.loop-left-preserved
loop-left-preserved c =
    let found = sym c.declared_at.ensures ∙ ap (option_map (λ r. r.now)) c.in-Some.is in
    c.loop-left.invariant ∙ end-further c.args.types.now c.loop-left.further c.in-Some.restriction.now c.loop-left.left c.loop-left-test.true found

pub returns-in_default : goal.returns-in_default
returns-in_default c =
    c.built_in_at.ensures
    ∙ sym (end-here c.args.types.now c.loop-left.further c.loop-left.left c.loop-left-test.true (sym c.in_default.ensures))
    ∙ sym c.loop-left.invariant

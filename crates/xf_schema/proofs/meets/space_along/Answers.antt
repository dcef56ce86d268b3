use Rattle.std.proofs.Common.{◌-◌, sym, ap, ◌∙◌}
use Rattle.std.specs.Prelude.{option_map}
use Rattle.xf_schema.specs.Facets.{nearest_space, or_further}
use Rattle.xf_schema.specs.Types.{way}
use Rattle.xf_schema.proofs.WayLaws.{no-rule, way-further}
use Rattle.xf_schema.proofs.meets.space_along.Goals as goal

pub loop-left-preserved : goal.loop-left-preserved
loop-left-preserved c =
    let types = c.args.types.now in
    let restriction = c.in-Some.restriction.now in
    let found = sym c.declared_at.ensures ∙ ap (option_map (λ r. r.now)) c.in-Some.is in
    let none = no-rule c.own_space-own.result (sym c.if-is_some.ensures) in
    let further = nearest_space (way (c.loop-left.left - 1) types restriction.base) in
    c.loop-left.invariant
    ∙ ap nearest_space (way-further types c.loop-left.further restriction c.loop-left.left c.loop-left-test.true found)
    ∙ ap (λ own. or_further own further) (sym c.own_space-own.ensures ∙ none)

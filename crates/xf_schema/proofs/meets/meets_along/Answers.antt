use Rattle.std.proofs.Common.{◌≡◌, ◌-◌, true, sym, ap, ◌∙◌, arith}
use Rattle.std.specs.Prelude.{◌&&◌, option_map}
use Rattle.std.specs.List.{list_all}
use Rattle.xf_schema.specs.Facets.{meets_restriction}
use Rattle.xf_schema.specs.Types.{way}
use Rattle.xf_schema.proofs.WayLaws.{way-further}
use Rattle.xf_schema.proofs.meets.meets_along.Goals as goal

pub loop-left-preserved : goal.loop-left-preserved
loop-left-preserved c =
    let types = c.args.types.now in
    let restriction = c.in-Some.restriction.now in
    let meets = meets_restriction c.args.kind c.args.text.now in
    let found = sym c.declared_at.ensures ∙ ap (option_map (λ r. r.now)) c.in-Some.is in
    let test = c.if-not-meets_restriction.ensures in
    let kept : meets restriction ≡ true = grind (arith, test) in
    let further = way (c.loop-left.left - 1) types restriction.base in
    c.loop-left.invariant
    ∙ ap (list_all meets) (way-further types c.loop-left.further restriction c.loop-left.left c.loop-left-test.true found)
    ∙ ap (λ b. b && list_all meets further) kept

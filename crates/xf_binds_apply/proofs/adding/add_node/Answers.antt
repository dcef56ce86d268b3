use Rattle.std.proofs.Common.{map, get_or, sym, subst}
use Rattle.std.specs.List.{flat_map}
use Rattle.xf_def_forest.specs.Shape.{shape_of}
use Rattle.xf_def_model.specs.Applied.{entries_at, entry_of, standing_in}
use Rattle.xf_def_model.specs.declared.property.Property.TheVariants.{Kind}
use Rattle.xf_binds.specs.Held.{entries_in}
use Rattle.xf_binds_apply.specs.Adding.{Added, Tells, exception_after}
use Rattle.xf_binds_apply.proofs.AddLaws.{added-next, added-stop}
use Rattle.xf_binds_apply.proofs.StandingLaws.{standing-parts}
use Rattle.xf_binds_apply.proofs.adding.add_node.Goals as goal

pub loop-property-preserved : goal.loop-property-preserved
loop-property-preserved c = λ given h.
    let all = shape_of c.args.forest.now.forest.nodes in
    let n = c.args.node.number in
    let ps = c.args.properties.now in
    let i = c.loop-property.property-index in
    let now = entries_in c.loop-property.applied in
    let after = entries_in c.add_entry.new.applied in
    let parts = standing-parts (flat_map (standing_in n) given) c.args.standing h in
    added-next (entries_at c.args.bind given n) all ps i Kind (entries_in c.args.applied.now) now after c.loop-property-test.true (c.loop-property.invariant given h)
    (subst (λ l. Added all now (map (entry_of c.args.bind (get_or ps i Kind) n) l) after) (sym parts.1) (c.in-Ok.ensures parts.0 parts.2))

pub returns-in-Err : goal.returns-in-Err
returns-in-Err c = λ given h.
    let all = shape_of c.args.forest.now.forest.nodes in
    let n = c.args.node.number in
    let ps = c.args.properties.now in
    let i = c.loop-property.property-index in
    let now = entries_in c.loop-property.applied in
    let parts = standing-parts (flat_map (standing_in n) given) c.args.standing h in
    added-stop (entries_at c.args.bind given n) all ps i Kind (entries_in c.args.applied.now) now c.in-Err.e c.loop-property-test.true (c.loop-property.invariant given h)
    (subst (λ l. Tells c.in-Err.e (exception_after all now (map (entry_of c.args.bind (get_or ps i Kind) n) l))) (sym parts.1) (c.in-Err.ensures parts.0 parts.2))

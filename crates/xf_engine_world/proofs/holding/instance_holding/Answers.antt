use Rattle.std.proofs.Common.{sym, ap, ◌∙◌}
use Rattle.xf_def_forest.specs.Changes.{root_of}
use Rattle.xf_def_forest.specs.Forest.{Forest}
use Rattle.xf_def_forest.specs.Order.{instance_of}
use Rattle.xf_def_forest.specs.Visit.{top_of, visits}
use Rattle.xf_engine_state.specs.Held.{last_place}
use Rattle.xf_engine_world.proofs.HoldLaws.{gone-held, none-held}
use Rattle.xf_engine_world.proofs.holding.instance_holding.Goals as goal

pub returns-then-not-is_live : goal.returns-then-not-is_live
returns-then-not-is_live c =
    let n = c.args.node.number in
    let nodes = c.forest-forest.result.now.forest.nodes in
    sym (ap (λ (f : Forest). instance_of (top_of n (visits f.nodes)) f.nodes) (sym c.forest-forest.ensures) ∙ gone-held n nodes (sym c.is_live.ensures ∙ c.if-not-is_live.true))

pub returns-in-Some : goal.returns-in-Some
returns-in-Some c =
    let n = c.args.node.number in
    sym (ap (λ (f : Forest). instance_of (top_of n (visits f.nodes)) f.nodes) (sym c.forest-forest.ensures) ∙ c.in-Some.ensures.1)

pub returns-in-None : goal.returns-in-None
returns-in-None c =
    let n = c.args.node.number in
    let nodes = c.forest-forest.result.now.forest.nodes in
    sym (ap (λ (f : Forest). instance_of (top_of n (visits f.nodes)) f.nodes) (sym c.forest-forest.ensures)
    ∙ none-held (top_of n (visits nodes)) last_place nodes (ap (λ (f : Forest). root_of last_place f.nodes) c.forest-forest.ensures ∙ c.few_roots.ensures) c.in-None.ensures)

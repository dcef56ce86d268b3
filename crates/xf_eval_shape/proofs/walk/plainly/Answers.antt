use Rattle.std.proofs.Common.{ap, ◌∙◌}
use Rattle.std.specs.List.{list_all}
use Rattle.std.proofs.lemmas.Result.{IfOk-weaker}
use Rattle.xf_def_forest.specs.Forest.{has_number}
use Rattle.xf_def_forest.proofs.BackLaws.{and-true}
use Rattle.xf_eval_shape.specs.Spots.{stands}
use Rattle.xf_eval_shape.proofs.Reached.{owned-spots, plain-reached, reached-stands}
use Rattle.xf_eval_shape.proofs.Results.{ok-two}
use Rattle.xf_eval_shape.proofs.walk.plainly.Goals as goal

pub returns-clause-value : goal.returns-clause-value
returns-clause-value c =
    let f = c.args.forest.now.forest in
    let n = c.args.node.number in
    let p = and-true (has_number n f.nodes) (stands f.nodes n) c.requires.spot in
    IfOk-weaker c.owned.result _ _ (λ spots h. h ∙ c.in_ok-nodes.ensures.value ∙ plain-reached f c.is_sound.ensures n p.0 p.1 c.args.axis c.args.test.now c.requires.plain) c.owned.ensures.numbers

pub returns-clause-spots : goal.returns-clause-spots
returns-clause-spots c =
    let f = c.args.forest.now.forest in
    let n = c.args.node.number in
    let p = and-true (has_number n f.nodes) (stands f.nodes n) c.requires.spot in
    ok-two c.owned.result _ _ _
    (λ spots a b. owned-spots f.nodes spots.items _ b a c.in_ok-nodes.ensures.live
    (ap (list_all (stands f.nodes)) (c.in_ok-nodes.ensures.value ∙ plain-reached f c.is_sound.ensures n p.0 p.1 c.args.axis c.args.test.now c.requires.plain) ∙ reached-stands f.nodes c.args.axis c.args.test.now n))
    c.owned.ensures.numbers c.owned.ensures.owned

use Rattle.std.proofs.Common.{ap, ◌∙◌}
use Rattle.std.specs.List.{list_all}
use Rattle.std.proofs.lemmas.Result.{IfOk-weaker}
use Rattle.xf_def_forest.specs.Forest.{has_number}
use Rattle.xf_def_forest.proofs.BackLaws.{and-true}
use Rattle.xf_def_xpath.specs.Steps.{reached}
use Rattle.xf_eval_shape.specs.Spots.{numbers_at, shaped, stands}
use Rattle.xf_eval.specs.Worth.{seen}
use Rattle.xf_eval_shape.proofs.Positions.{keeps-all, keeps-same}
use Rattle.xf_eval_shape.proofs.Reached.{owned-spots, plain-reached, reached-stands}
use Rattle.xf_eval_shape.proofs.Results.{ok-two}
use Rattle.xf_eval_shape.proofs.places.plainly_placed.Goals as goal

pub returns-clause-value : goal.returns-clause-value
returns-clause-value c =
    let f = c.args.forest.now.forest in
    let n = c.args.node.number in
    let p = and-true (has_number n f.nodes) (stands f.nodes n) c.requires.spot in
    IfOk-weaker c.owned.result _ _
    (λ spots h. keeps-same c.args.decimals c.args.number (reached c.args.axis c.args.test.now (seen f.nodes) n) (reached c.args.axis c.args.test.now (shaped f.nodes) n) c.in_ok-nodes.nodes (numbers_at spots.items)
    (plain-reached f c.is_sound.ensures n p.0 p.1 c.args.axis c.args.test.now c.requires.plain) h c.in_ok-nodes.ensures.value)
    c.owned.ensures.numbers

pub returns-clause-spots : goal.returns-clause-spots
returns-clause-spots c =
    let f = c.args.forest.now.forest in
    let n = c.args.node.number in
    let p = and-true (has_number n f.nodes) (stands f.nodes n) c.requires.spot in
    let same = plain-reached f c.is_sound.ensures n p.0 p.1 c.args.axis c.args.test.now c.requires.plain in
    ok-two c.owned.result _ _ _
    (λ spots a b. owned-spots f.nodes spots.items c.in_ok-nodes.nodes b a c.in_ok-nodes.ensures.live
    (keeps-all c.args.decimals c.args.number (stands f.nodes) (reached c.args.axis c.args.test.now (seen f.nodes) n) c.in_ok-nodes.nodes c.in_ok-nodes.ensures.value
    (ap (list_all (stands f.nodes)) same ∙ reached-stands f.nodes c.args.axis c.args.test.now n)))
    c.owned.ensures.numbers c.owned.ensures.owned

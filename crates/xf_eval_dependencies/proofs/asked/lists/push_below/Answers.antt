use Rattle.std.proofs.Common.{◌++◌, sym, ap, ◌∙◌}
use Rattle.std.proofs.lemmas.Result.{on_ok_weaker}
use Rattle.xf_def_forest.specs.Forest.{has_number}
use Rattle.xf_def_forest.proofs.BackLaws.{and-true}
use Rattle.xf_eval_shape.specs.Spots.{is_spot}
use Rattle.xf_eval_shape.proofs.Filled.{append-none}
use Rattle.xf_eval_dependencies.proofs.AskedLemmas.Spotted.{below-is, below_of, no-below}
use Rattle.xf_eval_dependencies.proofs.asked.lists.push_below.Goals as goal

pub push_down-requires : goal.push_down-requires
push_down-requires c =
    let nodes = c.args.forest.now.forest.nodes in
    (and-true (has_number c.in-Node.node.number nodes) _ (ap (is_spot nodes) (sym c.in-Node.is) ∙ c.requires)).0

pub returns-in-Node : goal.returns-in-Node
returns-in-Node c =
    let f = c.args.forest.now.forest in
    on_ok_weaker c.push_down.result
    (λ h. h ∙ ap (λ s. c.args.looks.now ++ below_of f.nodes s) (sym c.in-Node.is) ∙ ap (λ l. c.args.looks.now ++ l) (below-is f c.is_sound.ensures c.args.spot c.requires))
    c.push_down.ensures

pub returns-in_default : goal.returns-in_default
returns-in_default c =
    let f = c.args.forest.now.forest in
    sym (append-none c.args.looks.now)
    ∙ ap (λ l. c.args.looks.now ++ l) (sym (no-below f.nodes c.args.spot c.in_default.not-Node) ∙ below-is f c.is_sound.ensures c.args.spot c.requires)

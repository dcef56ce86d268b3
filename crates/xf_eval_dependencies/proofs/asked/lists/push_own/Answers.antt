use Rattle.std.proofs.Common.{◌++◌, sym, ap, ◌∙◌}
use Rattle.std.proofs.lemmas.Result.{on_ok_weaker}
use Rattle.xf_eval_shape.proofs.Filled.{append-none}
use Rattle.xf_eval_dependencies.proofs.AskedLemmas.Spotted.{own-is, own_of, no-own}
use Rattle.xf_eval_dependencies.proofs.asked.lists.push_own.Goals as goal

pub returns-in-Node : goal.returns-in-Node
returns-in-Node c =
    let f = c.args.forest.now.forest in
    on_ok_weaker c.push_if.result
    (λ h. h ∙ ap (λ s. c.args.looks.now ++ own_of f.nodes s) (sym c.in-Node.is) ∙ ap (λ l. c.args.looks.now ++ l) (own-is f c.is_sound.ensures c.args.spot c.requires))
    c.push_if.ensures

pub returns-in_default : goal.returns-in_default
returns-in_default c =
    let f = c.args.forest.now.forest in
    sym (append-none c.args.looks.now)
    ∙ ap (λ l. c.args.looks.now ++ l) (sym (no-own f.nodes c.args.spot c.in_default.not-Node) ∙ own-is f c.is_sound.ensures c.args.spot c.requires)

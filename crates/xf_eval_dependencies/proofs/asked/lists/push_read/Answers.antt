use Rattle.std.proofs.Common.{◌++◌, [], ◌∷◌, sym, ap, ◌∙◌}
use Rattle.std.proofs.lemmas.Result.{on_ok_weaker}
use Rattle.xf_def_forest.specs.Forest.{has_number}
use Rattle.xf_def_forest.proofs.BackLaws.{and-true}
use Rattle.xf_eval_shape.specs.Spots.{is_spot}
use Rattle.xf_eval_shape.proofs.Filled.{append-none}
use Rattle.xf_eval_dependencies.proofs.AskedLemmas.Spotted.{read-is, read_of}
use Rattle.xf_eval_dependencies.proofs.asked.lists.push_read.Goals as goal

pub reader_of-requires : goal.reader_of-requires
reader_of-requires c =
    let nodes = c.args.forest.now.forest.nodes in
    (and-true (has_number c.in-Node.node.number nodes) _ (ap (is_spot nodes) (sym c.in-Node.is) ∙ c.requires)).0

pub returns-in-Outside : goal.returns-in-Outside
returns-in-Outside c =
    let f = c.args.forest.now.forest in
    sym (append-none c.args.reads.now)
    ∙ ap (λ s. c.args.reads.now ++ read_of f.nodes s) (sym c.in-Outside.is)
    ∙ ap (λ l. c.args.reads.now ++ l) (read-is f c.is_sound.ensures c.args.spot c.requires)

pub returns-in-TextOf : goal.returns-in-TextOf
returns-in-TextOf c =
    let f = c.args.forest.now.forest in
    on_ok_weaker c.push.result
    (λ h. h ∙ ap (λ s. c.args.reads.now ++ read_of f.nodes s) (sym c.in-TextOf.is) ∙ ap (λ l. c.args.reads.now ++ l) (read-is f c.is_sound.ensures c.args.spot c.requires))
    c.push.ensures.ok

pub returns-in-Node : goal.returns-in-Node
returns-in-Node c =
    let f = c.args.forest.now.forest in
    on_ok_weaker c.push-in-Node.result
    (λ h. h ∙ ap (λ k. c.args.reads.now ++ k ∷ []) c.reader_of.ensures ∙ ap (λ s. c.args.reads.now ++ read_of f.nodes s) (sym c.in-Node.is) ∙ ap (λ l. c.args.reads.now ++ l) (read-is f c.is_sound.ensures c.args.spot c.requires))
    c.push-in-Node.ensures.ok

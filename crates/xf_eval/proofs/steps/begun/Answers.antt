use Rattle.std.proofs.Common.{◌∷◌, [], ap, ◌∙◌, sym}
use Rattle.xf_def_forest.specs.Forest.{has_number}
use Rattle.xf_def_forest.specs.Visit.{visits}
use Rattle.xf_def_forest.proofs.LiveLaws.{top-live}
use Rattle.xf_def_xpath.specs.Meaning.{focus_of}
use Rattle.xf_def_xpath.specs.Steps.{begun}
use Rattle.xf_eval.specs.Worth.{bare_setting}
use Rattle.xf_eval.proofs.Erased.{top-erased}
use Rattle.xf_eval.proofs.steps.begun.Goals as goal

pub returns-in-Root-clause-value : goal.returns-in-Root-clause-value
returns-in-Root-clause-value c =
    let n = c.args.context.now.node.number in
    let nodes = c.args.forest.now.forest.nodes in
    ap (λ k. k ∷ []) (c.top.ensures ∙ sym (top-erased n (visits nodes))) ∙ ap (λ start. begun start (bare_setting nodes) (focus_of c.args.context.now)) (sym c.in-Root.is)

pub returns-in-Root-clause-live : goal.returns-in-Root-clause-live
returns-in-Root-clause-live c =
    let n = c.args.context.now.node.number in
    let nodes = c.args.forest.now.forest.nodes in
    ap (λ k. has_number k nodes) c.top.ensures ∙ top-live n nodes c.requires.node

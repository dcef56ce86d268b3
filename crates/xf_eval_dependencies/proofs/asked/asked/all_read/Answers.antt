use Rattle.std.proofs.Common.{ap, ◌∙◌, subst}
use Rattle.std.proofs.lemmas.Result.{IfOk-weaker}
use Rattle.xf_def_xpath.specs.Asked.{with_read}
use Rattle.xf_eval_shape.specs.Spots.{numbers_at, shaped}
use Rattle.xf_eval_dependencies.specs.Asked.Tells.{Tells}
use Rattle.xf_eval_dependencies.proofs.asked.asked.all_read.Goals as goal

pub returns-clause-tells : goal.returns-clause-tells
returns-clause-tells c =
    let nodes = c.args.forest.now.forest.nodes in
    IfOk-weaker c.with_read.result _ _
    (λ told h a t. subst (λ ns. Tells nodes told (with_read (shaped nodes) ns a)) (ap numbers_at c.deref.ensures.value ∙ t.set) (h a t.reads t.looks))
    c.with_read.ensures.tells

use Rattle.std.proofs.Common.{sym, subst}
use Rattle.std.proofs.lemmas.Result.{IfOk-weaker}
use Rattle.xf_def_xpath.specs.Asked.{asked_first, with_read}
use Rattle.xf_eval_dependencies.specs.Asked.Tells.{Tells}
use Rattle.xf_eval_dependencies.specs.Ways.{part_asked}
use Rattle.xf_eval_dependencies.proofs.arguments.part_asked.Goals as goal

pub returns-in-Truth-clause-tells : goal.returns-in-Truth-clause-tells
returns-in-Truth-clause-tells c =
    let nodes = c.args.forest.now.forest.nodes in
    λ s all a told. subst (λ m. Tells nodes c.as_truth.result (part_asked m s a)) (sym c.in-Truth.is) (c.as_truth.ensures.tells nodes a told)

pub returns-in-Plain-clause-tells : goal.returns-in-Plain-clause-tells
returns-in-Plain-clause-tells c =
    let nodes = c.args.forest.now.forest.nodes in
    λ s all a told. subst (λ m. Tells nodes c.as_plain.result (part_asked m s a)) (sym c.in-Plain.is) (c.as_plain.ensures.tells nodes a told)

pub returns-in-First-clause-tells : goal.returns-in-First-clause-tells
returns-in-First-clause-tells c =
    let nodes = c.args.forest.now.forest.nodes in
    IfOk-weaker c.converted.result _ _
    (λ told h s all a t. subst (λ m. Tells nodes told (part_asked m s a)) (sym c.in-First.is) (subst (λ v. Tells nodes told (with_read v (asked_first a.is_loose a.set) a)) (sym all) (h a t)))
    c.converted.ensures.tells

pub returns-in-Each-clause-tells : goal.returns-in-Each-clause-tells
returns-in-Each-clause-tells c =
    let nodes = c.args.forest.now.forest.nodes in
    IfOk-weaker c.all_read.result _ _
    (λ told h s all a t. subst (λ m. Tells nodes told (part_asked m s a)) (sym c.in-Each.is) (subst (λ v. Tells nodes told (with_read v a.set a)) (sym all) (h a t)))
    c.all_read.ensures.tells

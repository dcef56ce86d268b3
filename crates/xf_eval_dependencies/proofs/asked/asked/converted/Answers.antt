use Rattle.std.proofs.Common.{sym, ap, ◌∙◌, subst}
use Rattle.std.proofs.lemmas.Result.{IfOk-weaker}
use Rattle.xf_def_xpath.specs.Asked.{asked_first, with_read}
use Rattle.xf_eval_shape.specs.Spots.{AreSpots, numbers_at, shaped}
use Rattle.xf_eval_dependencies.specs.Asked.Tells.{Tells, first_spots}
use Rattle.xf_eval_dependencies.proofs.AskedLemmas.Tellings.{first-are, first-numbers}
use Rattle.xf_eval_dependencies.proofs.asked.asked.converted.Goals as goal

pub with_read-requires-clause-spots : goal.with_read-requires-clause-spots
with_read-requires-clause-spots c =
    let nodes = c.args.forest.now.forest.nodes in
    subst (AreSpots nodes) (sym (c.asked_first.ensures ∙ ap (first_spots c.args.asked.is_loose) c.deref.ensures.value))
    (first-are nodes c.args.asked.is_loose c.args.asked.set.items c.requires.set)

pub returns-clause-tells : goal.returns-clause-tells
returns-clause-tells c =
    let nodes = c.args.forest.now.forest.nodes in
    IfOk-weaker c.with_read.result _ _
    (λ told h a t. subst (λ ns. Tells nodes told (with_read (shaped nodes) ns a))
    (ap numbers_at (c.asked_first.ensures ∙ ap (first_spots c.args.asked.is_loose) c.deref.ensures.value)
    ∙ first-numbers c.args.asked.is_loose c.args.asked.set.items
    ∙ ap (λ b. asked_first b (numbers_at c.args.asked.set.items)) t.is_loose
    ∙ ap (asked_first a.is_loose) t.set)
    (h a t.reads t.looks))
    c.with_read.ensures.tells

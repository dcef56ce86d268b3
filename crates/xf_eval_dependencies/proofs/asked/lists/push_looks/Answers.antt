use Rattle.std.proofs.Common.{◌++◌, inl, inr, sym, ap, ◌∙◌}
use Rattle.std.specs.Prelude.{filter}
use Rattle.std.proofs.lemmas.Result.{on_ok_weaker}
use Rattle.xf_def_xpath.specs.AskedSteps.{lists_of}
use Rattle.xf_eval_shape.specs.Spots.{number_at, shaped}
use Rattle.xf_eval_dependencies.specs.Asked.Tells.{is_list}
use Rattle.xf_eval_dependencies.proofs.AskedLemmas.Listings.{siblings-lists}
use Rattle.xf_eval_dependencies.proofs.asked.lists.push_looks.Goals as goal

pub returns-in-FollowingSibling : goal.returns-in-FollowingSibling
returns-in-FollowingSibling c =
    let f = c.args.forest.now.forest in
    let n = number_at c.args.spot in
    on_ok_weaker c.push_around.result
    (λ h. h ∙ ap (λ l. c.args.looks.now ++ l) (sym (siblings-lists f c.is_sound.ensures n) ∙
    elim c.in-FollowingSibling.is [
      | inl a ↦ ap (λ axis. filter (is_list f.nodes) (lists_of axis (shaped f.nodes) n)) (sym a)
      | inr b ↦ ap (λ axis. filter (is_list f.nodes) (lists_of axis (shaped f.nodes) n)) (sym b)
    ]))
    c.push_around.ensures

use Rattle.std.proofs.Common.{◌≡◌, [], ◌∷◌, ◌++◌, inl, inr, Some, ap, sym, ◌∙◌}
use Rattle.std.proofs.lemmas.Result.{on_ok_weaker}
use Rattle.xf_def_forest.specs.Visit.{visits}
use Rattle.xf_def_xpath.specs.Binding.{as_list}
use Rattle.xf_eval.proofs.Lists.{append-none}
use Rattle.xf_eval_context.specs.Nested.StandIns.{stand_ins_of}
use Rattle.xf_eval_context.proofs.NestedLemmas.StandInLaws.{stand-attribute, stand-element, stand-root, stand-text}
use Rattle.xf_eval_context.proofs.nested.bound.push_stand_ins.Goals as goal

pub returns-in-Root : goal.returns-in-Root
returns-in-Root c =
    on_ok_weaker c.push_children.result (λ e. e ∙ ap (λ l. c.args.found.now ++ l) (sym (stand-root c.args.node.number c.args.forest.now.forest.nodes c.in-Root.ensures))) c.push_children.ensures

pub returns-in-Some : goal.returns-in-Some
returns-in-Some c =
    let stands = stand-text c.args.node.number c.args.forest.now.forest.nodes c.in-Text.ensures ∙ ap as_list (sym c.in-Some.ensures) in
    on_ok_weaker c.push.result (λ e. e ∙ ap (λ l. c.args.found.now ++ l) (sym stands)) c.push.ensures.ok

pub returns-in-None : goal.returns-in-None
returns-in-None c =
    let stands = stand-text c.args.node.number c.args.forest.now.forest.nodes c.in-Text.ensures ∙ ap as_list (sym c.in-None.ensures) in
    sym (append-none c.args.found.now) ∙ ap (λ l. c.args.found.now ++ l) (sym stands)

pub returns-in-Element : goal.returns-in-Element
returns-in-Element c =
    let n = c.args.node.number in
    let nodes = c.args.forest.now.forest.nodes in
    let stands : stand_ins_of (visits nodes) n ≡ n ∷ [] = elim c.in-Element.is [
      | inl e ↦ stand-element n nodes (ap Some (sym e) ∙ c.kind.ensures)
      | inr e ↦ stand-attribute n nodes (ap Some (sym e) ∙ c.kind.ensures)
    ] in
    on_ok_weaker c.push-in-Element.result (λ e. e ∙ ap (λ l. c.args.found.now ++ l) (sym stands)) c.push-in-Element.ensures.ok

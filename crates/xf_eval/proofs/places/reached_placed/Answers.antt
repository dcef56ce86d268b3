use Rattle.std.proofs.Common.{◌<◌, ap, ◌∙◌, sym, subst, arith}
use Rattle.std.proofs.lemmas.Result.{IfOk-weaker}
use Rattle.xf_def_xpath.specs.Binding.{as_list}
use Rattle.xf_def_xpath.specs.Steps.{reached}
use Rattle.xf_eval.specs.Places.{IsPosition}
use Rattle.xf_eval.specs.Worth.{seen}
use Rattle.xf_eval.proofs.Lives.{reached-live}
use Rattle.xf_eval.proofs.Positions.{before-place, live-placed, position-keeps}
use Rattle.xf_eval.proofs.places.reached_placed.Goals as goal

pub returns-then-place-eq0-clause-value : goal.returns-then-place-eq0-clause-value
returns-then-place-eq0-clause-value c =
    let ns = reached c.args.axis c.args.test.now (seen c.args.forest.now.forest.nodes) c.args.node.number in
    position-keeps c.args.decimals c.args.number ns c.new.result 0 (subst (IsPosition c.args.decimals c.args.number) c.if-place-eq0.true c.position_of-place.ensures) c.new.ensures

pub returns-clause-value : goal.returns-clause-value
returns-clause-value c =
    let ns = reached c.args.axis c.args.test.now (seen c.args.forest.now.forest.nodes) c.args.node.number in
    let place = c.position_of-place.result in
    let above : 0 < place = omega (arith, c.if-place-eq0.false) in
    IfOk-weaker c.listed.result _ _ (λ kept h. position-keeps c.args.decimals c.args.number ns kept place c.position_of-place.ensures (h ∙ ap as_list (c.reached_at.ensures ∙ sym (before-place ns place above)))) c.listed.ensures

pub returns-clause-live : goal.returns-clause-live
returns-clause-live c =
    let nodes = c.args.forest.now.forest.nodes in
    let ns = reached c.args.axis c.args.test.now (seen nodes) c.args.node.number in
    let place = c.position_of-place.result in
    let above : 0 < place = omega (arith, c.if-place-eq0.false) in
    IfOk-weaker c.listed.result _ _ (λ kept h.
    live-placed ns kept place nodes (reached-live c.args.axis c.args.test.now c.args.node.number c.args.forest.now c.are_trees.ensures) (h ∙ ap as_list (c.reached_at.ensures ∙ sym (before-place ns place above)))) c.listed.ensures

use Rattle.std.proofs.Common.{sym, ◌∙◌}
use Rattle.std.proofs.lemmas.Result.{IfOk-weaker}
use Rattle.xf_def_forest.specs.Forest.{has_number}
use Rattle.xf_def_forest.proofs.BackLaws.{and-true}
use Rattle.xf_eval_shape.specs.Spots.{stands}
use Rattle.xf_eval_shape.proofs.Bounds.{children-filled, children-none, children-shown}
use Rattle.xf_eval_shape.proofs.Results.{ok-two}
use Rattle.xf_eval_shape.proofs.nodes.children.Goals as goal

pub returns-then-has_elements-clause-value : goal.returns-then-has_elements-clause-value
returns-then-has_elements-clause-value c =
    let f = c.args.forest.now.forest in
    let n = c.args.root.number in
    let p = and-true (has_number n f.nodes) (stands f.nodes n) c.requires.spot in
    IfOk-weaker c.reached.result _ _ (λ nodes h. h ∙ children-filled f c.is_sound.ensures n p.0 p.1 (sym c.has_elements.ensures ∙ c.if-has_elements.true)) c.reached.ensures.value

pub returns-then-has_elements-clause-shown : goal.returns-then-has_elements-clause-shown
returns-then-has_elements-clause-shown c =
    let f = c.args.forest.now.forest in
    let n = c.args.root.number in
    let p = and-true (has_number n f.nodes) (stands f.nodes n) c.requires.spot in
    ok-two c.reached.result _ _ _ (λ nodes h l. children-shown f c.is_sound.ensures n p.0 p.1 (sym c.has_elements.ensures ∙ c.if-has_elements.true) nodes h l) c.reached.ensures.value c.reached.ensures.live

pub returns-else-has_elements-clause-value : goal.returns-else-has_elements-clause-value
returns-else-has_elements-clause-value c =
    let f = c.args.forest.now.forest in
    let n = c.args.root.number in
    let p = and-true (has_number n f.nodes) (stands f.nodes n) c.requires.spot in
    c.new.ensures ∙ children-none f c.is_sound.ensures n p.0 p.1 c.requires.root (sym c.has_elements.ensures ∙ c.if-has_elements.false)

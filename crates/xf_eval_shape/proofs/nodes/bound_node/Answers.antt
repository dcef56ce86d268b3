use Rattle.std.proofs.Common.{sym, ap, ◌∙◌}
use Rattle.std.specs.List.{list_all}
use Rattle.std.proofs.lemmas.Result.{IfOk-weaker}
use Rattle.xf_def_forest.specs.Forest.{has_number}
use Rattle.xf_def_forest.proofs.BackLaws.{and-true}
use Rattle.xf_eval_shape.specs.Spots.{stands}
use Rattle.xf_eval_shape.specs.Woven.{is_shown}
use Rattle.xf_eval_shape.proofs.Bounds.{bound-itself, bound-root_in, bound-text_in, one-shown}
use Rattle.xf_eval_shape.proofs.nodes.bound_node.Goals as goal

pub returns-then-is_root-clause-value : goal.returns-then-is_root-clause-value
returns-then-is_root-clause-value c =
    let f = c.args.forest.now.forest in
    let n = c.args.node.number in
    let p = and-true (has_number n f.nodes) (stands f.nodes n) c.requires in
    IfOk-weaker c.children.result _ _ (λ nodes h. h ∙ bound-root_in f c.is_sound.ensures n p.0 p.1 (sym c.is_root.ensures ∙ c.if-is_root.true)) c.children.ensures.value

pub returns-then-is_text-clause-value : goal.returns-then-is_text-clause-value
returns-then-is_text-clause-value c =
    let f = c.args.forest.now.forest in
    let n = c.args.node.number in
    let p = and-true (has_number n f.nodes) (stands f.nodes n) c.requires in
    IfOk-weaker c.parent_of.result _ _ (λ nodes h. h ∙ bound-text_in f c.is_sound.ensures n p.0 p.1 (sym c.is_text.ensures ∙ c.if-is_text.true)) c.parent_of.ensures.value

pub returns-clause-value : goal.returns-clause-value
returns-clause-value c =
    let f = c.args.forest.now.forest in
    let n = c.args.node.number in
    let p = and-true (has_number n f.nodes) (stands f.nodes n) c.requires in
    IfOk-weaker c.single.result _ _ (λ nodes h. h ∙ bound-itself f c.is_sound.ensures n p.0 p.1 (sym c.is_root.ensures ∙ c.if-is_root.false) (sym c.is_text.ensures ∙ c.if-is_text.false)) c.single.ensures

pub returns-clause-shown : goal.returns-clause-shown
returns-clause-shown c =
    let f = c.args.forest.now.forest in
    IfOk-weaker c.single.result _ _ (λ nodes h. ap (list_all (is_shown f.nodes)) h ∙ one-shown f.nodes c.args.node.number c.requires) c.single.ensures

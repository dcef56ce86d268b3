use Rattle.std.proofs.Common.{ap, sym, ◌∙◌}
use Rattle.std.proofs.lemmas.Result.{IfOk-weaker}
use Rattle.xf_def_forest.specs.Forest.{has_number}
use Rattle.xf_def_forest.specs.Shape.{text_number}
use Rattle.xf_def_forest.proofs.BackLaws.{and-true}
use Rattle.xf_def_xpath.specs.AskedSteps.{is_kind}
use Rattle.xf_def_xpath.specs.Steps.{reached}
use Rattle.xf_eval_shape.specs.Spots.{is_leaf, numbers_at, shaped}
use Rattle.xf_eval_shape.proofs.Reached.{owner-own, text-numbers}
use Rattle.xf_eval_shape.proofs.TextAxes.{text-ancestors, text-below, text-default, text-parent_of, text-self}
use Rattle.xf_eval_shape.proofs.walk.from_text.Goals as goal

pub plainly-requires-clause-spot : goal.plainly-requires-clause-spot
plainly-requires-clause-spot c = owner-own c.args.forest.now.forest c.is_sound.ensures c.args.owner c.requires

pub plainly-requires-in-Ancestor-clause-spot : goal.plainly-requires-in-Ancestor-clause-spot
plainly-requires-in-Ancestor-clause-spot c = owner-own c.args.forest.now.forest c.is_sound.ensures c.args.owner c.requires

pub returns-in-Self_-clause-value : goal.returns-in-Self_-clause-value
returns-in-Self_-clause-value c =
    let f = c.args.forest.now.forest in
    let n = c.args.owner.number in
    let t = c.args.test.now in
    let p = and-true (has_number n f.nodes) (is_leaf f.nodes n) c.requires in
    IfOk-weaker c.text_alone.result _ _
    (λ found h. ap numbers_at h ∙ text-numbers (is_kind t) c.args.owner ∙ text-self f c.is_sound.ensures n p.0 p.1 t ∙ ap (λ a. reached a t (shaped f.nodes) (text_number n)) (sym c.in-Self_.is))
    c.text_alone.ensures

pub returns-in-DescendantOrSelf-clause-value : goal.returns-in-DescendantOrSelf-clause-value
returns-in-DescendantOrSelf-clause-value c =
    let f = c.args.forest.now.forest in
    let n = c.args.owner.number in
    let t = c.args.test.now in
    let p = and-true (has_number n f.nodes) (is_leaf f.nodes n) c.requires in
    IfOk-weaker c.text_alone-in-DescendantOrSelf.result _ _
    (λ found h. ap numbers_at h ∙ text-numbers (is_kind t) c.args.owner ∙ text-below f c.is_sound.ensures n p.0 p.1 t ∙ ap (λ a. reached a t (shaped f.nodes) (text_number n)) (sym c.in-DescendantOrSelf.is))
    c.text_alone-in-DescendantOrSelf.ensures

pub returns-in-Parent-clause-value : goal.returns-in-Parent-clause-value
returns-in-Parent-clause-value c =
    let f = c.args.forest.now.forest in
    let n = c.args.owner.number in
    let t = c.args.test.now in
    let p = and-true (has_number n f.nodes) (is_leaf f.nodes n) c.requires in
    IfOk-weaker c.plainly.result _ _
    (λ found h. h ∙ text-parent_of f c.is_sound.ensures n p.0 p.1 t ∙ ap (λ a. reached a t (shaped f.nodes) (text_number n)) (sym c.in-Parent.is))
    c.plainly.ensures.value

pub returns-in-Ancestor-clause-value : goal.returns-in-Ancestor-clause-value
returns-in-Ancestor-clause-value c =
    let f = c.args.forest.now.forest in
    let n = c.args.owner.number in
    let t = c.args.test.now in
    let p = and-true (has_number n f.nodes) (is_leaf f.nodes n) c.requires in
    IfOk-weaker c.plainly-in-Ancestor.result _ _
    (λ found h. h ∙ text-ancestors f c.is_sound.ensures n p.0 p.1 t ∙ ap (λ a. reached a t (shaped f.nodes) (text_number n)) (sym c.in-Ancestor.is))
    c.plainly-in-Ancestor.ensures.value

pub returns-in_default-clause-value : goal.returns-in_default-clause-value
returns-in_default-clause-value c =
    let f = c.args.forest.now.forest in
    let n = c.args.owner.number in
    let t = c.args.test.now in
    let p = and-true (has_number n f.nodes) (is_leaf f.nodes n) c.requires in
    ap numbers_at c.new.ensures.items
    ∙ text-default f c.is_sound.ensures n p.0 p.1 t c.args.axis c.in_default.not-Self_ c.in_default.not-DescendantOrSelf c.in_default.not-Parent c.in_default.not-Ancestor c.in_default.not-AncestorOrSelf

use Rattle.std.proofs.Common.{ap, sym, ◌∙◌, subst}
use Rattle.std.specs.Prelude.{filter}
use Rattle.std.proofs.lemmas.Result.{IfOk-weaker}
use Rattle.xf_def_forest.specs.Forest.{has_number}
use Rattle.xf_def_forest.proofs.BackLaws.{and-true}
use Rattle.xf_def_xpath.specs.AskedSteps.{is_kind}
use Rattle.xf_def_xpath.specs.Steps.{reached}
use Rattle.xf_eval_shape.specs.Spots.{AreSpots, numbers_at, shaped, stands}
use Rattle.xf_eval_shape.specs.Steps.{has_texts, is_other}
use Rattle.xf_eval_shape.proofs.Reached.{below-reached, child-reached, descendants-reached, spots-filter, texts-axis}
use Rattle.xf_eval_shape.proofs.walk.in_texts.Goals as goal

pub returns-in-Child-clause-value : goal.returns-in-Child-clause-value
returns-in-Child-clause-value c =
    let f = c.args.forest.now.forest in
    let n = c.args.node.number in
    let t = c.args.test.now in
    let p = and-true (has_number n f.nodes) (stands f.nodes n) c.requires.spot in
    let q = and-true (is_kind t) (has_texts f.nodes n c.args.axis) c.requires.texts in
    IfOk-weaker c.own_text.result _ _
    (λ found h. h ∙ child-reached f c.is_sound.ensures n p.0 p.1 t q.0 (ap (has_texts f.nodes n) (sym c.in-Child.is) ∙ q.1) ∙ ap (λ a. reached a t (shaped f.nodes) n) (sym c.in-Child.is))
    c.own_text.ensures.value

pub returns-in_ok-found-in-Descendant-clause-value : goal.returns-in_ok-found-in-Descendant-clause-value
returns-in_ok-found-in-Descendant-clause-value c =
    let f = c.args.forest.now.forest in
    let n = c.args.node.number in
    let t = c.args.test.now in
    let p = and-true (has_number n f.nodes) (stands f.nodes n) c.requires.spot in
    let q = and-true (is_kind t) (has_texts f.nodes n c.args.axis) c.requires.texts in
    IfOk-weaker c.without.result _ _
    (λ left h. ap numbers_at (h ∙ ap (filter (is_other n)) c.deref.ensures.value) ∙ descendants-reached f c.is_sound.ensures n p.0 p.1 t q.0 (ap (has_texts f.nodes n) (sym c.in-Descendant.is) ∙ q.1) c.in_ok-found-in-Descendant.found.items c.in_ok-found-in-Descendant.ensures.spots c.in_ok-found-in-Descendant.ensures.value ∙ ap (λ a. reached a t (shaped f.nodes) n) (sym c.in-Descendant.is))
    c.without.ensures

pub returns-in_ok-found-in-Descendant-clause-spots : goal.returns-in_ok-found-in-Descendant-clause-spots
returns-in_ok-found-in-Descendant-clause-spots c =
    let nodes = c.args.forest.now.forest.nodes in
    IfOk-weaker c.without.result _ _
    (λ left h. subst (AreSpots nodes) (sym (h ∙ ap (filter (is_other c.args.node.number)) c.deref.ensures.value)) (spots-filter nodes (is_other c.args.node.number) c.in_ok-found-in-Descendant.found.items c.in_ok-found-in-Descendant.ensures.spots))
    c.without.ensures

pub returns-in_default : goal.returns-in_default
returns-in_default c =
    let f = c.args.forest.now.forest in
    let n = c.args.node.number in
    let t = c.args.test.now in
    let p = and-true (has_number n f.nodes) (stands f.nodes n) c.requires.spot in
    let q = and-true (is_kind t) (has_texts f.nodes n c.args.axis) c.requires.texts in
    let same = texts-axis f.nodes n c.args.axis c.in_default.not-Child c.in_default.not-Descendant q.1 in record {
      value = IfOk-weaker c.with_texts-in_default.result _ _
          (λ found h. h ∙ below-reached f c.is_sound.ensures n p.0 p.1 t q.0 (ap (has_texts f.nodes n) (sym same) ∙ q.1) ∙ ap (λ a. reached a t (shaped f.nodes) n) (sym same))
          c.with_texts-in_default.ensures.value;
      spots = c.with_texts-in_default.ensures.spots;
    }

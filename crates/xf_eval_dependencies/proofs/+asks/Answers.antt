use Rattle.std.proofs.Common.{rules, tests, ◌≡◌, ◌≤◌, ◌+◌, ◌*◌, ◌<◌, ◌++◌, [], map, get_or, length, option_map, refl, sym, ap, ◌∙◌, subst, arith, inl, inr}
use denote.Param.Weighed.{most}
use Rattle.std.proofs.lemmas.Result.{IfOk-weaker}
use Rattle.xf_def_syntax.specs.declared.expr.Expr.{size-Expr}
use Rattle.xf_def_syntax.specs.declared.expr.Link.{Link, size-Link}
use Rattle.xf_def_forest.specs.declared.node.NodeId.{NodeId}
use Rattle.xf_def_xpath.specs.Asked.{as_plain, both, converted, plainly, tightly}
use Rattle.xf_def_xpath.specs.AskedCalls.{all_converted, argument, computed, either, links_asked, own_argument}
use Rattle.xf_def_xpath.specs.AskedSteps.{filtered, walks_asked}
use Rattle.xf_def_xpath.specs.Binding.{as_list}
use Rattle.xf_def_xpath.specs.Meaning.{focus_of}
use Rattle.xf_def_xpath.specs.Reads.{trace, trace_of_link, trace_of_step}
use Rattle.xf_eval.proofs.Falls.{chain-falls}
use Rattle.xf_eval_shape.specs.Over.{shape_at}
use Rattle.xf_eval_shape.specs.Spots.{numbers_at}
use Rattle.xf_eval_shape.proofs.FixedEquations.{links-fixed, predicates-placed, path-fixed, from-fixed}
use Rattle.xf_eval_dependencies.specs.Asked.Tells.{Tells}
use Rattle.xf_eval_dependencies.specs.Ways.{asked_by, part_asked, with_lists}
use Rattle.xf_eval_dependencies.proofs.Calls.{call-falls, call-fixed-parts, call-told}
use Rattle.xf_eval_dependencies.proofs.Levels.{number-asks, literal-asks, negated-asks, chain-asks, filter-asks, path-asks, from-asks}
use Rattle.xf_eval_dependencies.proofs.Rounds.{link-of, links-round, links-end, one-of, all-start, all-round, all-end, argument-within, argument-past}
use Rattle.xf_eval_dependencies.proofs.Told.{tells-same, tells-of, tells-in, tells-two}
use Rattle.xf_eval_dependencies.proofs.+asks.Goals as goal

-- ---- one level

pub expression::asked_of-returns-in-Number-clause-tells : goal.expression::asked_of-returns-in-Number-clause-tells
expression::asked_of-returns-in-Number-clause-tells g t c =
    let nodes = c.args.forest.now.forest.nodes in
    let s = shape_at (g.A.Around.given c.args.around.now) c.args.forest.now.forest.nodes c.args.context.now in
    let f = focus_of c.args.context.now in
    let plain : (trace c.args.expr.now).asked s f ≡ plainly [] [] =
    elim c.in-Number.is [
      | inl a ↦ number-asks s f c.args.expr.now a.0 a.1 a.2
      | inr b ↦ literal-asks s f c.args.expr.now b.0 b.1 b.2
    ] in
    subst (Tells nodes c.nothing.result) (sym plain) (c.nothing.ensures.tells nodes)

pub expression::asked_of-returns-in-Number-clause-stands : goal.expression::asked_of-returns-in-Number-clause-stands
expression::asked_of-returns-in-Number-clause-stands g t c =
    c.nothing.ensures.stands c.args.forest.now.forest.nodes

pub expression::asked_of-returns-in-Call-clause-tells : goal.expression::asked_of-returns-in-Call-clause-tells
expression::asked_of-returns-in-Call-clause-tells g t c =
    let given = g.A.Around.given c.args.around.now in
    let nodes = c.args.forest.now.forest.nodes in
    let context = c.args.context.now in
    let s = shape_at (g.A.Around.given c.args.around.now) c.args.forest.now.forest.nodes c.args.context.now in
    let f = focus_of c.args.context.now in
    let es = c.as_slice.result.now in
    let told = call-told given nodes context c.kind_of-kind.result c.way_of-way.result c.args.expr.now c.in-Call.field-0 c.in-Call.code c.in-Call.arguments es c.way_of-way.ensures c.kind_of-kind.ensures c.in-Call.is c.requires.fixed c.as_slice.ensures in
    tells-same nodes c.call_asked.result (asked_by c.way_of-way.result given context es s f) ((trace c.args.expr.now).asked s f) told c.call_asked.ensures.tells

pub expression::asked_of-returns-in-Negated-clause-tells : goal.expression::asked_of-returns-in-Negated-clause-tells
expression::asked_of-returns-in-Negated-clause-tells g t c =
    let nodes = c.args.forest.now.forest.nodes in
    let s = shape_at (g.A.Around.given c.args.around.now) c.args.forest.now.forest.nodes c.args.context.now in
    let f = focus_of c.args.context.now in
    let part = c.get.result.now in
    let same = ap (λ y. converted s ((trace y).asked s f)) c.get.ensures ∙ sym (negated-asks s f c.args.expr.now c.in-Negated.field-0 c.in-Negated.field-1 c.in-Negated.part c.in-Negated.is) in
    tells-same nodes c.one_converted.result (converted s ((trace part).asked s f)) ((trace c.args.expr.now).asked s f) same c.one_converted.ensures.tells

pub expression::asked_of-returns-in_ok-asked-in-Chain-clause-tells : goal.expression::asked_of-returns-in_ok-asked-in-Chain-clause-tells
expression::asked_of-returns-in_ok-asked-in-Chain-clause-tells g t c =
    let nodes = c.args.forest.now.forest.nodes in
    let s = shape_at (g.A.Around.given c.args.around.now) c.args.forest.now.forest.nodes c.args.context.now in
    let f = focus_of c.args.context.now in
    let asked = (trace c.in-Chain.first).asked s f in
    let part = subst (λ x. Tells nodes c.in_ok-asked-in-Chain.asked ((trace x).asked s f)) c.get-in-Chain.ensures c.in_ok-asked-in-Chain.ensures.tells in
    let same = ap (λ ls. links_asked (map trace_of_link ls) s f asked) c.as_slice-in-Chain.ensures ∙ sym (chain-asks s f c.args.expr.now c.in-Chain.first c.in-Chain.links c.in-Chain.is) in
    tells-of nodes c.links_asked.result c.in_ok-asked-in-Chain.asked (links_asked (map trace_of_link c.as_slice-in-Chain.result.now) s f) asked ((trace c.args.expr.now).asked s f) same part c.links_asked.ensures.tells

pub expression::asked_of-returns-in_ok-asked-in-Filter-clause-tells : goal.expression::asked_of-returns-in_ok-asked-in-Filter-clause-tells
expression::asked_of-returns-in_ok-asked-in-Filter-clause-tells g t c =
    let nodes = c.args.forest.now.forest.nodes in
    let s = shape_at (g.A.Around.given c.args.around.now) c.args.forest.now.forest.nodes c.args.context.now in
    let f = focus_of c.args.context.now in
    let asked = (trace c.in-Filter.first).asked s f in
    let part = subst (λ x. Tells nodes c.in_ok-asked-in-Filter.asked ((trace x).asked s f)) c.get-in-Filter.ensures c.in_ok-asked-in-Filter.ensures.tells in
    let same = ap (λ ps. filtered s (map trace ps) asked) c.as_slice-in-Filter.ensures ∙ sym (filter-asks s f c.args.expr.now c.in-Filter.first c.in-Filter.predicates c.in-Filter.is) in
    tells-of nodes c.filtered.result c.in_ok-asked-in-Filter.asked (filtered s (map trace c.as_slice-in-Filter.result.now)) asked ((trace c.args.expr.now).asked s f) same part c.filtered.ensures.tells

pub expression::asked_of-returns-in_ok-from-in-Path-clause-tells : goal.expression::asked_of-returns-in_ok-from-in-Path-clause-tells
expression::asked_of-returns-in_ok-from-in-Path-clause-tells g t c =
    let given = g.A.Around.given c.args.around.now in
    let nodes = c.args.forest.now.forest.nodes in
    let s = shape_at (g.A.Around.given c.args.around.now) c.args.forest.now.forest.nodes c.args.context.now in
    let f = focus_of c.args.context.now in
    let ns = numbers_at c.in_ok-from-in-Path.from.items in
    let steps = c.as_slice-in-Path.result.now in
    let same = path-asks s f c.args.expr.now c.in-Path.field-0 c.in-Path.start c.in-Path.steps steps ns c.in-Path.is c.as_slice-in-Path.ensures (c.in_ok-from-in-Path.ensures.value given) in
    tells-of nodes c.walks_asked.result c.tightly-asked.result (walks_asked s (map trace_of_step steps)) (tightly ns) ((trace c.args.expr.now).asked s f) same (c.tightly-asked.ensures.tells nodes) c.walks_asked.ensures.tells

pub expression::asked_of-returns-in_ok-asked-in-From-clause-tells : goal.expression::asked_of-returns-in_ok-asked-in-From-clause-tells
expression::asked_of-returns-in_ok-asked-in-From-clause-tells g t c =
    let nodes = c.args.forest.now.forest.nodes in
    let s = shape_at (g.A.Around.given c.args.around.now) c.args.forest.now.forest.nodes c.args.context.now in
    let f = focus_of c.args.context.now in
    let asked = (trace c.in-From.first).asked s f in
    let part = subst (λ x. Tells nodes c.in_ok-asked-in-From.asked ((trace x).asked s f)) c.get-in-From.ensures c.in_ok-asked-in-From.ensures.tells in
    let same = ap (λ ss. walks_asked s (map trace_of_step ss) asked) c.as_slice-in-From.ensures ∙ sym (from-asks s f c.args.expr.now c.in-From.first c.in-From.steps c.in-From.is) in
    tells-of nodes c.walks_asked-in-From.result c.in_ok-asked-in-From.asked (walks_asked s (map trace_of_step c.as_slice-in-From.result.now)) asked ((trace c.args.expr.now).asked s f) same part c.walks_asked-in-From.ensures.tells

-- ---- what its calls need

pub expression::asked_of-links_asked-requires : goal.expression::asked_of-links_asked-requires
expression::asked_of-links_asked-requires g t c =
    let ls = c.as_slice-in-Chain.result.now in
    let less : most size-Link ls < size-Expr c.args.expr.now = chain-falls c.args.expr.now c.in-Chain.first c.in-Chain.links ls c.in-Chain.is c.as_slice-in-Chain.ensures in
    let falls : 4 * most size-Link ls + 1 < t = omega (arith, c.decreases, less) in
    λ κs h. (falls, (search rules, (links-fixed c.args.expr.now c.in-Chain.first c.in-Chain.links ls c.in-Chain.is c.requires.fixed c.as_slice-in-Chain.ensures, (c.requires.ready, c.in_ok-asked-in-Chain.ensures.stands))))

pub expression::asked_of-call_asked-requires : goal.expression::asked_of-call_asked-requires
expression::asked_of-call_asked-requires g t c =
    let es = c.as_slice.result.now in
    let less : most size-Expr es < size-Expr c.args.expr.now = call-falls c.args.expr.now c.in-Call.field-0 c.in-Call.code c.in-Call.arguments es c.in-Call.is c.as_slice.ensures in
    let falls : 4 * most size-Expr es + 3 < t = omega (arith, c.decreases, less) in
    λ κs h. (falls, (search rules, (call-fixed-parts c.args.expr.now c.in-Call.field-0 c.in-Call.code c.in-Call.arguments es c.in-Call.is c.requires.fixed c.as_slice.ensures, c.requires.ready)))

pub expression::asked_of-filtered-requires-clause-placed : goal.expression::asked_of-filtered-requires-clause-placed
expression::asked_of-filtered-requires-clause-placed g t c =
    predicates-placed c.args.expr.now c.in-Filter.first c.in-Filter.predicates c.as_slice-in-Filter.result.now c.in-Filter.is c.requires.fixed c.as_slice-in-Filter.ensures

pub expression::asked_of-walks_asked-requires-clause-fixed : goal.expression::asked_of-walks_asked-requires-clause-fixed
expression::asked_of-walks_asked-requires-clause-fixed g t c =
    path-fixed c.args.expr.now c.in-Path.field-0 c.in-Path.start c.in-Path.steps c.as_slice-in-Path.result.now c.in-Path.is c.requires.fixed c.as_slice-in-Path.ensures

pub expression::asked_of-walks_asked-requires-clause-stands : goal.expression::asked_of-walks_asked-requires-clause-stands
expression::asked_of-walks_asked-requires-clause-stands g t c =
    c.tightly-asked.ensures.stands c.args.forest.now.forest.nodes c.in_ok-from-in-Path.ensures.spots

pub expression::asked_of-walks_asked-requires-in-From-clause-fixed : goal.expression::asked_of-walks_asked-requires-in-From-clause-fixed
expression::asked_of-walks_asked-requires-in-From-clause-fixed g t c =
    from-fixed c.args.expr.now c.in-From.first c.in-From.steps c.as_slice-in-From.result.now c.in-From.is c.requires.fixed c.as_slice-in-From.ensures

-- ---- operators

pub expression::links_asked-loop-link-preserved : goal.expression::links_asked-loop-link-preserved
expression::links_asked-loop-link-preserved g t c =
    let nodes = c.args.forest.now.forest.nodes in
    let s = shape_at (g.A.Around.given c.args.around.now) c.args.forest.now.forest.nodes c.args.context.now in
    let f = focus_of c.args.context.now in
    let ls = c.args.links.now in
    let i = c.loop-link.link-index in
    let d = c.link-item.result in record {
      stands = c.in_ok-left.ensures.stands;
      tells = λ a h.
          let p = c.loop-link.invariant.tells a h in (
            link-of s f (get_or ls i d) p.0,
            subst (λ (l : Link). Tells nodes c.in_ok-left.left (link-of s f l p.0)) c.link-item.is (c.in_ok-left.ensures.tells p.0 p.1),
            links-round s f ls i d p.0 (links_asked (map trace_of_link ls) s f a) p.2 c.loop-link-test.true,
          );
    }

pub expression::links_asked-returns-clause-tells : goal.expression::links_asked-returns-clause-tells
expression::links_asked-returns-clause-tells g t c =
    let nodes = c.args.forest.now.forest.nodes in
    let s = shape_at (g.A.Around.given c.args.around.now) c.args.forest.now.forest.nodes c.args.context.now in
    let f = focus_of c.args.context.now in
    λ a h.
    let p = c.loop-link.invariant.tells a h in
    let whole = links_asked (map trace_of_link c.args.links.now) s f a in
    subst (Tells nodes c.loop-link.left) (links-end s f c.args.links.now c.loop-link.link-index p.0 whole p.2 c.loop-link-test.false) p.1

pub expression::linked-returns-clause-tells : goal.expression::linked-returns-clause-tells
expression::linked-returns-clause-tells g t c =
    let s = shape_at (g.A.Around.given c.args.around.now) c.args.forest.now.forest.nodes c.args.context.now in
    IfOk-weaker c.operated.result _ _ (λ told h a i. h s refl a _ i c.in_ok-right.ensures.tells) c.operated.ensures.tells

-- ---- calls

pub arguments::call_asked-returns-in-Nothing-clause-tells : goal.arguments::call_asked-returns-in-Nothing-clause-tells
arguments::call_asked-returns-in-Nothing-clause-tells g t c =
    let given = g.A.Around.given c.args.around.now in
    let nodes = c.args.forest.now.forest.nodes in
    let context = c.args.context.now in
    let s = shape_at (g.A.Around.given c.args.around.now) c.args.forest.now.forest.nodes c.args.context.now in
    let f = focus_of c.args.context.now in
    subst (λ w. Tells nodes c.nothing.result (asked_by w given context c.args.arguments.now s f)) (sym c.in-Nothing.is) (c.nothing.ensures.tells nodes)

pub arguments::call_asked-returns-in-Nothing-clause-stands : goal.arguments::call_asked-returns-in-Nothing-clause-stands
arguments::call_asked-returns-in-Nothing-clause-stands g t c =
    c.nothing.ensures.stands c.args.forest.now.forest.nodes

pub arguments::call_asked-returns-in-Truth-clause-tells : goal.arguments::call_asked-returns-in-Truth-clause-tells
arguments::call_asked-returns-in-Truth-clause-tells g t c =
    let given = g.A.Around.given c.args.around.now in
    let nodes = c.args.forest.now.forest.nodes in
    let context = c.args.context.now in
    let s = shape_at (g.A.Around.given c.args.around.now) c.args.forest.now.forest.nodes c.args.context.now in
    let f = focus_of c.args.context.now in
    subst (λ w. Tells nodes c.as_truth.result (asked_by w given context c.args.arguments.now s f)) (sym c.in-Truth.is) (c.as_truth.ensures.tells nodes (plainly [] []) (c.nothing-in-Truth.ensures.tells nodes))

pub arguments::call_asked-returns-in-Truth-clause-stands : goal.arguments::call_asked-returns-in-Truth-clause-stands
arguments::call_asked-returns-in-Truth-clause-stands g t c =
    c.as_truth.ensures.stands c.args.forest.now.forest.nodes (c.nothing-in-Truth.ensures.stands c.args.forest.now.forest.nodes)

pub arguments::call_asked-returns-in_ok-asked-in-Asking-clause-tells : goal.arguments::call_asked-returns-in_ok-asked-in-Asking-clause-tells
arguments::call_asked-returns-in_ok-asked-in-Asking-clause-tells g t c =
    let given = g.A.Around.given c.args.around.now in
    let nodes = c.args.forest.now.forest.nodes in
    let context = c.args.context.now in
    let s = shape_at (g.A.Around.given c.args.around.now) c.args.forest.now.forest.nodes c.args.context.now in
    let f = focus_of c.args.context.now in
    let all = all_converted (map trace c.args.arguments.now) s f in
    subst (λ w. Tells nodes c.as_truth-in-Asking.result (asked_by w given context c.args.arguments.now s f)) (sym c.in-Asking.is) (c.as_truth-in-Asking.ensures.tells nodes all c.in_ok-asked-in-Asking.ensures.tells)

pub arguments::call_asked-returns-in_ok-asked-in-Instance-clause-tells : goal.arguments::call_asked-returns-in_ok-asked-in-Instance-clause-tells
arguments::call_asked-returns-in_ok-asked-in-Instance-clause-tells g t c =
    let given = g.A.Around.given c.args.around.now in
    let nodes = c.args.forest.now.forest.nodes in
    let context = c.args.context.now in
    let s = shape_at (g.A.Around.given c.args.around.now) c.args.forest.now.forest.nodes c.args.context.now in
    let f = focus_of c.args.context.now in
    let es = c.args.arguments.now in
    let all = all_converted (map trace es) s f in
    let ns = as_list (option_map (λ (n : NodeId). n.number) c.document.result) in
    let same = ap (λ m. with_lists s (as_list m) all) (sym c.document.ensures.value) ∙ ap (λ w. asked_by w given context es s f) (sym c.in-Instance.is) in
    tells-in nodes c.with_document.result c.in_ok-asked-in-Instance.asked (λ z x. with_lists z ns x) s s.all all (asked_by c.args.way given context es s f) refl same c.in_ok-asked-in-Instance.ensures.tells c.with_document.ensures.tells

pub arguments::call_asked-returns-in_ok-asked-in-Own-clause-tells : goal.arguments::call_asked-returns-in_ok-asked-in-Own-clause-tells
arguments::call_asked-returns-in_ok-asked-in-Own-clause-tells g t c =
    let given = g.A.Around.given c.args.around.now in
    let nodes = c.args.forest.now.forest.nodes in
    let context = c.args.context.now in
    let s = shape_at (g.A.Around.given c.args.around.now) c.args.forest.now.forest.nodes c.args.context.now in
    let f = focus_of c.args.context.now in
    let es = c.args.arguments.now in
    tells-in nodes c.part_asked.result c.in_ok-asked-in-Own.asked (part_asked c.in-Own.made) s s.all (own_argument (map trace es) s f) (asked_by c.args.way given context es s f) refl (ap (λ w. asked_by w given context es s f) (sym c.in-Own.is)) c.in_ok-asked-in-Own.ensures.tells c.part_asked.ensures.tells

pub arguments::call_asked-returns-in_ok-asked-in-One-clause-tells : goal.arguments::call_asked-returns-in_ok-asked-in-One-clause-tells
arguments::call_asked-returns-in_ok-asked-in-One-clause-tells g t c =
    let given = g.A.Around.given c.args.around.now in
    let nodes = c.args.forest.now.forest.nodes in
    let context = c.args.context.now in
    let s = shape_at (g.A.Around.given c.args.around.now) c.args.forest.now.forest.nodes c.args.context.now in
    let f = focus_of c.args.context.now in
    let es = c.args.arguments.now in
    tells-in nodes c.part_asked-in-One.result c.in_ok-asked-in-One.asked (part_asked c.in-One.made) s s.all (argument 0 (map trace es) s f) (asked_by c.args.way given context es s f) refl (ap (λ w. asked_by w given context es s f) (sym c.in-One.is)) c.in_ok-asked-in-One.ensures.tells c.part_asked-in-One.ensures.tells

pub arguments::chosen-returns-clause-tells : goal.arguments::chosen-returns-clause-tells
arguments::chosen-returns-clause-tells g t c =
    let nodes = c.args.forest.now.forest.nodes in
    let s = shape_at (g.A.Around.given c.args.around.now) c.args.forest.now.forest.nodes c.args.context.now in
    let f = focus_of c.args.context.now in
    let condition = as_plain (argument 0 (map trace c.args.arguments.now) s f) in
    let branches = either s (argument 1 (map trace c.args.arguments.now) s f) (argument 2 (map trace c.args.arguments.now) s f) in
    tells-two nodes c.either-2.result c.as_plain.result c.in_ok-branches.branches either s s.all condition branches refl (c.as_plain.ensures.tells nodes (argument 0 (map trace c.args.arguments.now) s f) c.in_ok-condition.ensures.tells)
    (c.in_ok-branches.ensures.tells s refl (argument 1 (map trace c.args.arguments.now) s f) (argument 2 (map trace c.args.arguments.now) s f) c.in_ok-one.ensures.tells c.in_ok-other.ensures.tells) c.either-2.ensures.tells

pub arguments::branched-returns-clause-tells : goal.arguments::branched-returns-clause-tells
arguments::branched-returns-clause-tells g t c =
    let nodes = c.args.forest.now.forest.nodes in
    let s = shape_at (g.A.Around.given c.args.around.now) c.args.forest.now.forest.nodes c.args.context.now in
    let f = focus_of c.args.context.now in
    IfOk-weaker c.both.result _ _ (λ told h. h nodes (argument 0 (map trace c.args.arguments.now) s f) (computed s (argument 1 (map trace c.args.arguments.now) s f) (argument 2 (map trace c.args.arguments.now) s f)) c.in_ok-condition.ensures.tells (c.in_ok-branches.ensures.tells s refl (argument 1 (map trace c.args.arguments.now) s f) (argument 2 (map trace c.args.arguments.now) s f) c.in_ok-one.ensures.tells c.in_ok-other.ensures.tells)) c.both.ensures.tells

pub arguments::argument-returns-in-Some-clause-tells : goal.arguments::argument-returns-in-Some-clause-tells
arguments::argument-returns-in-Some-clause-tells g t c =
    let nodes = c.args.forest.now.forest.nodes in
    let s = shape_at (g.A.Around.given c.args.around.now) c.args.forest.now.forest.nodes c.args.context.now in
    let f = focus_of c.args.context.now in
    let es = c.args.arguments.now in
    let small : c.args.at < length es = search (rules, tests) in
    let same = ap (λ x. (trace x).asked s f) c.in-Some.ensures.lookup.1 ∙ sym (argument-within s f es c.args.at _ small) in
    tells-same nodes c.asked_of.result ((trace c.in-Some.argument.now).asked s f) (argument c.args.at (map trace es) s f) same c.asked_of.ensures.tells

pub arguments::argument-returns-in-None-clause-tells : goal.arguments::argument-returns-in-None-clause-tells
arguments::argument-returns-in-None-clause-tells g t c =
    let nodes = c.args.forest.now.forest.nodes in
    let s = shape_at (g.A.Around.given c.args.around.now) c.args.forest.now.forest.nodes c.args.context.now in
    let f = focus_of c.args.context.now in
    let large : length c.args.arguments.now ≤ c.args.at = omega (arith, c.in-None.ensures.lookup.3) in
    subst (Tells nodes c.nothing.result) (sym (argument-past s f c.args.arguments.now c.args.at large)) (c.nothing.ensures.tells nodes)

pub arguments::argument-returns-in-None-clause-stands : goal.arguments::argument-returns-in-None-clause-stands
arguments::argument-returns-in-None-clause-stands g t c =
    c.nothing.ensures.stands c.args.forest.now.forest.nodes

pub arguments::all_converted-loop-argument-init : goal.arguments::all_converted-loop-argument-init
arguments::all_converted-loop-argument-init g t c =
    let nodes = c.args.forest.now.forest.nodes in
    let s = shape_at (g.A.Around.given c.args.around.now) c.args.forest.now.forest.nodes c.args.context.now in
    let f = focus_of c.args.context.now in
    record {
      stands = c.nothing-all.ensures.stands nodes;
      tells = ([], [], c.nothing-all.ensures.tells nodes, all-start s f c.args.arguments.now);
    }

pub arguments::all_converted-loop-argument-preserved : goal.arguments::all_converted-loop-argument-preserved
arguments::all_converted-loop-argument-preserved g t c =
    let nodes = c.args.forest.now.forest.nodes in
    let s = shape_at (g.A.Around.given c.args.around.now) c.args.forest.now.forest.nodes c.args.context.now in
    let f = focus_of c.args.context.now in
    let es = c.args.arguments.now in
    let i = c.loop-argument.argument-index in
    let d = c.argument-item.result in
    let one = one-of s f d in
    let p = c.loop-argument.invariant.tells in record {
      stands = c.in_ok-all.ensures.stands nodes c.loop-argument.invariant.stands c.in_ok-one.ensures.stands;
      tells = (
        p.0 ++ (one-of s f (get_or es i d)).reads,
        p.1 ++ (one-of s f (get_or es i d)).looks,
        subst (λ x. Tells nodes c.in_ok-all.all (both (plainly p.0 p.1) (one-of s f x))) c.argument-item.is (c.in_ok-all.ensures.tells nodes (plainly p.0 p.1) one p.2 c.in_ok-one.ensures.tells),
        all-round s f es i d p.0 p.1 (all_converted (map trace es) s f) p.3 c.loop-argument-test.true,
      );
    }

pub arguments::all_converted-returns-clause-tells : goal.arguments::all_converted-returns-clause-tells
arguments::all_converted-returns-clause-tells g t c =
    let nodes = c.args.forest.now.forest.nodes in
    let s = shape_at (g.A.Around.given c.args.around.now) c.args.forest.now.forest.nodes c.args.context.now in
    let f = focus_of c.args.context.now in
    let es = c.args.arguments.now in
    let p = c.loop-argument.invariant.tells in
    subst (Tells nodes c.loop-argument.all) (all-end s f es c.loop-argument.argument-index p.0 p.1 (all_converted (map trace es) s f) p.3 c.loop-argument-test.false) p.2

pub arguments::one_converted-returns-clause-tells : goal.arguments::one_converted-returns-clause-tells
arguments::one_converted-returns-clause-tells g t c =
    let nodes = c.args.forest.now.forest.nodes in
    let s = shape_at (g.A.Around.given c.args.around.now) c.args.forest.now.forest.nodes c.args.context.now in
    let f = focus_of c.args.context.now in
    let asked = (trace c.args.argument.now).asked s f in
    tells-of nodes c.converted.result c.in_ok-asked.asked (λ x. converted s x) asked (converted s asked) refl c.in_ok-asked.ensures.tells c.converted.ensures.tells

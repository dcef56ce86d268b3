use Rattle.std.proofs.Common.{rules, ◌≡◌, ◌+◌, ◌*◌, ◌<◌, List, map, get_or, [], Some, inl, inr, sym, ap, ◌∙◌, subst, arith}
use denote.Param.Weighed.{most}
use Rattle.std.proofs.lemmas.Result.{IfOk-weaker}
use Rattle.xf_def_syntax.specs.declared.expr.Expr.{Expr, size-Expr}
use Rattle.xf_def_syntax.specs.declared.expr.Link.{Link, size-Link}
use Rattle.xf_def_xpath.specs.declared.value.Value.{Value}
use Rattle.xf_def_xpath.specs.Conversions.{nodes_of}
use Rattle.xf_def_xpath.specs.Meaning.{focus_of, meaning_of_link}
use Rattle.xf_def_xpath.specs.Operators.{chained, linked}
use Rattle.xf_def_xpath.specs.Setting.{LinkMeaning}
use Rattle.xf_def_xpath.proofs.Equations.{meaning-link}
use Rattle.xf_eval.proofs.Falls.{chain-falls}
use Rattle.xf_eval_shape.specs.Bound.{CallGives, Gives}
use Rattle.xf_eval_shape.specs.Fixed.{is_fixed}
use Rattle.xf_eval_shape.specs.Over.{nodes_at, shape_at}
use Rattle.xf_eval_shape.specs.Spots.{numbers_at}
use Rattle.xf_eval_shape.proofs.FixedEquations.{links-fixed, predicates-placed, path-fixed, from-fixed}
use Rattle.xf_eval_shape.proofs.Rounds.{chained-round, chained-end}
use Rattle.xf_eval_shape.proofs.Values.{call-are, chain-are, literal-are, negated-are, number-are}
use Rattle.xf_eval_shape.proofs.nodes.+nodes.Goals as goal

pub chained-loop-link-preserved : goal.chained-loop-link-preserved
chained-loop-link-preserved g t c =
    let s = shape_at (g.A.Around.given c.args.around.now) c.args.forest.now.forest.nodes c.args.context.now in
    let f = focus_of c.args.context.now in
    let ls = c.args.links.now in
    let i = c.loop-link.link-index in
    let d = c.link-item.result in
    let ks = numbers_at c.loop-link.nodes.items in
    let ms = numbers_at c.in_ok-nodes.nodes.items in record {
      spots = c.in_ok-nodes.ensures.spots;
      left = λ ns rest. c.loop-link.invariant.left ns (chained-round s f ls i d ns ks ms c.loop-link-test.true
          (subst (λ (l : Link). (v : Value) → nodes_of v ≡ ks → Gives ms (linked l.operator v (meaning_of_link l).right s f)) c.link-item.is c.in_ok-nodes.ensures.value)
          (ap (λ (m : LinkMeaning). m.operator) (meaning-link (get_or ls i d))) rest);
    }

pub chained-returns-clause-value : goal.chained-returns-clause-value
chained-returns-clause-value g t c =
    let s = shape_at (g.A.Around.given c.args.around.now) c.args.forest.now.forest.nodes c.args.context.now in
    let ks = numbers_at c.loop-link.nodes.items in
    c.loop-link.invariant.left ks (chained-end s (focus_of c.args.context.now) c.args.links.now c.loop-link.link-index ks c.loop-link-test.false)

pub nodes_at-chained-requires : goal.nodes_at-chained-requires
nodes_at-chained-requires g t c =
    let ls = c.as_slice-in-Chain.result.now in
    let less : most size-Link ls < size-Expr c.args.expr.now = chain-falls c.args.expr.now c.in-Chain.first c.in-Chain.links ls c.in-Chain.is c.as_slice-in-Chain.ensures in
    let falls : 2 * most size-Link ls + 1 < t = omega (arith, c.decreases, less) in
    λ κs h. (falls, (search rules, (links-fixed c.args.expr.now c.in-Chain.first c.in-Chain.links ls c.in-Chain.is c.requires.fixed c.as_slice-in-Chain.ensures, (c.requires.ready, c.in_ok-left-in-Chain.ensures.spots))))

pub nodes_at-kept_by_all-requires-clause-placed : goal.nodes_at-kept_by_all-requires-clause-placed
nodes_at-kept_by_all-requires-clause-placed g t c = predicates-placed c.args.expr.now c.in-Filter.first c.in-Filter.predicates c.as_slice-in-Filter.result.now c.in-Filter.is c.requires.fixed c.as_slice-in-Filter.ensures

pub nodes_at-walked-requires-clause-fixed : goal.nodes_at-walked-requires-clause-fixed
nodes_at-walked-requires-clause-fixed g t c = path-fixed c.args.expr.now c.in-Path.field-0 c.in-Path.start c.in-Path.steps c.as_slice-in-Path.result.now c.in-Path.is c.requires.fixed c.as_slice-in-Path.ensures

pub nodes_at-walked-requires-in-From-clause-fixed : goal.nodes_at-walked-requires-in-From-clause-fixed
nodes_at-walked-requires-in-From-clause-fixed g t c = from-fixed c.args.expr.now c.in-From.first c.in-From.steps c.as_slice-in-From.result.now c.in-From.is c.requires.fixed c.as_slice-in-From.ensures

pub nodes_at-returns-in-Call-clause-value : goal.nodes_at-returns-in-Call-clause-value
nodes_at-returns-in-Call-clause-value g t c =
    let given = g.A.Around.given c.args.around.now in
    let nodes = c.args.forest.now.forest.nodes in
    let context = c.args.context.now in
    let k = c.kind_of-kind.result in
    let fixed = sym (ap is_fixed c.in-Call.is) ∙ c.requires.fixed in
    IfOk-weaker c.call_nodes.result _ _
    (λ spots h. ap (λ e. nodes_at given nodes e context) c.in-Call.is
    ∙ call-are given nodes context k c.in-Call.field-0 c.in-Call.code c.in-Call.arguments c.kind_of-kind.ensures fixed (numbers_at spots.items)
    (subst (λ (es : List Expr). CallGives k given es context (numbers_at spots.items)) c.as_slice.ensures h))
    c.call_nodes.ensures.value

pub nodes_at-returns-in_ok-left-in-Chain-clause-value : goal.nodes_at-returns-in_ok-left-in-Chain-clause-value
nodes_at-returns-in_ok-left-in-Chain-clause-value g t c =
    let given = g.A.Around.given c.args.around.now in
    let nodes = c.args.forest.now.forest.nodes in
    let context = c.args.context.now in
    let s = shape_at given nodes context in
    let ks = numbers_at c.in_ok-left-in-Chain.left.items in
    IfOk-weaker c.chained.result _ _
    (λ spots h. ap (λ e. nodes_at given nodes e context) c.in-Chain.is
    ∙ chain-are given nodes context c.in-Chain.first c.in-Chain.links ks (numbers_at spots.items)
    (ap (λ e. nodes_at given nodes e context) (sym c.get.ensures) ∙ c.in_ok-left-in-Chain.ensures.value)
    (subst (λ (ls : List Link). (v : Value) → nodes_of v ≡ ks → Gives (numbers_at spots.items) (chained (map meaning_of_link ls) v s (focus_of context))) c.as_slice-in-Chain.ensures h))
    c.chained.ensures.value

pub nodes_at-returns-in-Number-clause-value : goal.nodes_at-returns-in-Number-clause-value
nodes_at-returns-in-Number-clause-value g t c =
    let given = g.A.Around.given c.args.around.now in
    let nodes = c.args.forest.now.forest.nodes in
    let context = c.args.context.now in
    let plain : nodes_at given nodes c.args.expr.now context ≡ Some [] =
    elim c.in-Number.is [
      | inl a ↦ ap (λ e. nodes_at given nodes e context) a.2 ∙ number-are given nodes context a.0 a.1
      | inr b ↦ elim b [
        | inl l ↦ ap (λ e. nodes_at given nodes e context) l.2 ∙ literal-are given nodes context l.0 l.1
        | inr k ↦ ap (λ e. nodes_at given nodes e context) k.3 ∙ negated-are given nodes context k.0 k.1 k.2 (sym (ap is_fixed k.3) ∙ c.requires.fixed)
      ]
    ] in
    plain ∙ ap (λ l. Some (numbers_at l)) (sym c.new.ensures.items)

use Rattle.std.proofs.Common.{◌≡◌, ◌++◌, ◌*◌, suc, ◌+◌, ◌-◌, ◌<◌, ◌≤◌, inl, inr, [], ◌∷◌, drop, take, Some, None, option_map, true, false, length, map, refl, sym, ap, ◌∙◌, subst, arith, rules, tests}
use denote.Param.Weighed.{most}
use Rattle.std.proofs.lemmas.Result.{err_from_is_err_and}
use Rattle.xf_def_syntax.specs.declared.expr.Expr.{size-Expr}
use Rattle.xf_def_syntax.specs.declared.expr.Link.{size-Link}
use Rattle.xf_def_syntax.specs.declared.expr.Step.{size-Step}
use Rattle.xf_funcs.specs.Called.{called}
use Rattle.xf_def_xpath.specs.declared.fault.EvalFault.TheVariants.{Long, Memory}
use Rattle.xf_def_xpath.specs.declared.value.Value.TheVariants.{Nodes, Text, Truth}
use Rattle.xf_def_xpath.specs.Comparisons.{compared}
use Rattle.xf_def_xpath.specs.Conversions.{string_of, truth_of}
use Rattle.xf_def_xpath.specs.Functions.{branched, plain_arguments}
use Rattle.xf_def_xpath.specs.Binding.{as_list}
use Rattle.xf_def_xpath.specs.Meaning.{focus_of, meaning, meaning_of_link, setting_of, walk_of}
use Rattle.xf_def_xpath.specs.Operators.{chained, linked}
use Rattle.xf_def_forest.specs.Axis.{is_reverse}
use Rattle.xf_def_forest.specs.Forest.{has_number}
use Rattle.xf_def_values.specs.Bounded.{◌>>=◌}
use Rattle.xf_def_xpath.specs.Steps.{begun_at, from_one, is_true_at, kept_by_all, kept_from, reached, walked}
use Rattle.xf_def_xpath.proofs.Equations.{meaning-Number}
use Rattle.xf_eval.specs.Taken.{taken}
use Rattle.xf_eval.proofs.Ordered.{alone-is, forward-in_order, taken-none, taken-one}
use Rattle.xf_eval.proofs.Positions.{first-asked, live-placed}
use Rattle.xf_eval.specs.Answered.{answered, decides}
use Rattle.xf_eval.specs.First.{counted, first_node, leads}
use Rattle.xf_eval.specs.declared.kinds.Kind.TheVariants as kind
use Rattle.xf_eval.specs.ByKind.{argument_or, by_kind, of_own_argument}
use Rattle.xf_eval.specs.OfOne.{one_worth, own_worth, plain_worth}
use Rattle.xf_eval.specs.Sides.{value_in}
use Rattle.xf_eval.specs.Worth.{seen, setting_in}
use Rattle.xf_eval.proofs.Arguments.{branched-long, branched-then, branched-else, one_plain, plain-long, plain-of-value, plains-done, plains-more, plains-stuck}
use Rattle.xf_eval.proofs.Falls.{chain-falls, filter-falls, from-falls}
use Rattle.xf_eval.proofs.Kept.{kept-counted, kept-long, live-added, none-kept, plain-taken, taken-done}
use Rattle.xf_eval.proofs.Links.{link-compared, link-long}
use Rattle.xf_eval.proofs.Lists.{append-none, onto, onto-start}
use Rattle.xf_eval.proofs.Lives.{live-get, live-in_order, live-is, live-item, reached-live}
use Rattle.xf_eval.proofs.Parts.{argument-past, argument-within, by-other, by-own, call-worth, linked-both, linked-long}
use Rattle.xf_eval.proofs.Runs.{added}
use Rattle.xf_eval.proofs.WayLaws.{empty-is, way-more, way-stuck, way-walks}
use Rattle.xf_eval.proofs.Bounded.{gives-same, part-long}
use Rattle.xf_eval.proofs.Firsts.{chain-made, chain-meaning, map-none, most-take, one-made, own-made, string-made, taken-first, walked-last, walked-part}
use Rattle.xf_eval.proofs.+value.Goals as goal
use Rattle.xf_eval.proofs.+value.Goals.{calls::branched-then-truth_of, calls::branched-else-truth_of, steps::asked_of_each-then-is_true_at+in_ok-push, steps::asked_of_each-else-is_true_at}

-- ---- calls

pub calls::argument-returns-in-Some-clause-value : goal.calls::argument-returns-in-Some-clause-value
calls::argument-returns-in-Some-clause-value g t c =
    let s = setting_of called (g.A.Around.given c.args.around.now) c.args.forest.now.forest.nodes c.args.context.now in
    let f = focus_of c.args.context.now in
    let es = c.args.arguments.now in
    let small : c.args.at < length es = search (rules, tests) in
    let b = c.args.is_converted in
    gives-same Memory Long (counted b) c.asked_at.result (option_map (counted b) (meaning c.in-Some.argument.now s f)) _
    (ap (option_map (counted b)) (ap (λ e. meaning e s f) c.in-Some.ensures.lookup.1 ∙ sym (argument-within es c.args.at _ c.in-Some.argument.now s f small))) c.asked_at.ensures.value

pub calls::argument-returns-in_ok-listed-in-None-clause-value : goal.calls::argument-returns-in_ok-listed-in-None-clause-value
calls::argument-returns-in_ok-listed-in-None-clause-value g t c =
    let s = setting_of called (g.A.Around.given c.args.around.now) c.args.forest.now.forest.nodes c.args.context.now in
    let f = focus_of c.args.context.now in
    let large : length c.args.arguments.now ≤ c.args.at = omega (arith, c.in-None.ensures.lookup.3) in
    let b = c.args.is_converted in
    ap (option_map (counted b)) (argument-past c.args.arguments.now c.args.at _ s f large) ∙ ap (λ l. Some (counted b (Nodes l))) (sym c.in_ok-listed-in-None.ensures)

pub calls::branched-returns-in_err-condition-clause-value : goal.calls::branched-returns-in_err-condition-clause-value
calls::branched-returns-in_err-condition-clause-value g t c =
    let s = setting_of called (g.A.Around.given c.args.around.now) c.args.forest.now.forest.nodes c.args.context.now in
    let f = focus_of c.args.context.now in
    let ms = map meaning c.args.arguments.now in
    let p = err_from_is_err_and c.from_residual.result c.from_residual.ensures.1 in
    let b = c.args.is_converted in
    rw (p.1, p.2) (part-long Memory Long _ _ (option_map (counted b) (branched ms s f)) c.in_err-condition.ensures.value (λ h. ap (option_map (counted b)) (branched-long ms s f h)))

pub calls::branched-returns-clause-value : goal.calls::branched-returns-clause-value
calls::branched-returns-clause-value g t c =
    let s = setting_of called (g.A.Around.given c.args.around.now) c.args.forest.now.forest.nodes c.args.context.now in
    let f = focus_of c.args.context.now in
    let ms = map meaning c.args.arguments.now in
    let chosen : branched ms s f ≡ argument_or c.if-truth_of.at [] ms s f =
    elim c.if-truth_of.branch [
      | calls::branched-then-truth_of w ↦
          branched-then ms s f c.in_ok-condition.condition c.in_ok-condition.ensures.value (sym c.truth_of.ensures ∙ w.if-truth_of.true) ∙ ap (λ a. argument_or a [] ms s f) (sym w.at-is)
      | calls::branched-else-truth_of w ↦
          branched-else ms s f c.in_ok-condition.condition c.in_ok-condition.ensures.value (sym c.truth_of.ensures ∙ w.if-truth_of.false) ∙ ap (λ a. argument_or a [] ms s f) (sym w.at-is)
    ] in
    let b = c.args.is_converted in
    gives-same Memory Long (counted b) c.argument-2.result _ _ (ap (option_map (counted b)) (sym chosen)) c.argument-2.ensures.value

pub calls::call_value-returns-in_ok-value-in_default-clause-value : goal.calls::call_value-returns-in_ok-value-in_default-clause-value
calls::call_value-returns-in_ok-value-in_default-clause-value g t c =
    let given = g.A.Around.given c.args.around.now in
    let nodes = c.args.forest.now.forest.nodes in
    let context = c.args.context.now in
    let ms = map meaning c.args.arguments.now in
    let o = c.in_default in
    let worth : by_kind c.args.kind c.args.code given nodes context ms ≡ one_worth given.decimals c.args.kind context.model given nodes c.in_ok-value-in_default.value =
    by-other c.args.kind c.args.code given nodes context ms
    o.not-Asking o.not-Plainly o.not-Owning o.not-Truth o.not-Choosing o.not-Branching o.not-LocalName o.not-Name o.not-Namespace o.not-Number o.not-Text o.not-Current o.not-Last o.not-Position
    ∙ one-made given.decimals c.args.kind context.model given nodes (argument_or 0 [] ms (setting_of called given nodes context) (focus_of context)) c.in_ok-value-in_default.value
    (subst (λ b. option_map (counted b) (argument_or 0 [] ms (setting_of called given nodes context) (focus_of context)) ≡ Some (counted b c.in_ok-value-in_default.value)) c.takes_plain-plain.ensures c.in_ok-value-in_default.ensures.value) in
    gives-same Memory Long (λ v. v) c.of_one.result _ _
    (ap (λ d. one_worth d c.args.kind context.model given nodes c.in_ok-value-in_default.value) c.decimals-decimals.ensures ∙ sym worth) c.of_one.ensures.value

pub calls::call_value-returns-in_ok-value-in-Owning-clause-value : goal.calls::call_value-returns-in_ok-value-in-Owning-clause-value
calls::call_value-returns-in_ok-value-in-Owning-clause-value g t c =
    let given = g.A.Around.given c.args.around.now in
    let nodes = c.args.forest.now.forest.nodes in
    let context = c.args.context.now in
    let ms = map meaning c.args.arguments.now in
    let k = c.args.kind in
    let code = c.args.code in
    let own : by_kind k code given nodes context ms ≡ of_own_argument k code given nodes context ms =
    elim c.in-Owning.is [
      | inl i ↦ by-own k kind.Owning code given nodes context ms i refl
      | inr r ↦ elim r [
        | inl i ↦ by-own k kind.Number code given nodes context ms i refl
        | inr r ↦ elim r [
          | inl i ↦ by-own k kind.Text code given nodes context ms i refl
          | inr r ↦ elim r [
            | inl i ↦ by-own k kind.LocalName code given nodes context ms i refl
            | inr r ↦ elim r [
              | inl i ↦ by-own k kind.Name code given nodes context ms i refl
              | inr i ↦ by-own k kind.Namespace code given nodes context ms i refl
            ]
          ]
        ]
      ]
    ] in
    gives-same Memory Long (λ v. v) c.of_own.result _ _
    (ap (λ d. own_worth d k code given nodes c.in_ok-value-in-Owning.value) c.decimals-decimals.ensures
    ∙ sym (own ∙ own-made given.decimals k code given nodes (argument_or 0 (context.node.number ∷ []) ms (setting_of called given nodes context) (focus_of context)) c.in_ok-value-in-Owning.value c.in_ok-value-in-Owning.ensures.value))
    c.of_own.ensures.value

pub calls::call_value-returns-in_ok-given-in-Asking-clause-value : goal.calls::call_value-returns-in_ok-given-in-Asking-clause-value
calls::call_value-returns-in_ok-given-in-Asking-clause-value g t c =
    let given = g.A.Around.given c.args.around.now in
    let nodes = c.args.forest.now.forest.nodes in
    let context = c.args.context.now in
    let ms = map meaning c.args.arguments.now in
    let code = c.args.code in
    let plains = c.in_ok-given-in-Asking.given.items in
    let worth : by_kind c.args.kind code given nodes context ms ≡ plain_worth given.decimals code plains =
    elim c.in-Asking.is [
      | inl i ↦ ap (λ k. by_kind k code given nodes context ms) i ∙ ap (λ m. m >>= plain_worth given.decimals code) c.in_ok-given-in-Asking.ensures
      | inr i ↦ ap (λ k. by_kind k code given nodes context ms) i ∙ ap (λ m. m >>= plain_worth given.decimals code) c.in_ok-given-in-Asking.ensures
    ] in
    gives-same Memory Long (λ v. v) c.called_plainly.result _ _
    (ap (plain_worth c.decimals-decimals.result code) c.as_slice.ensures.value ∙ ap (λ d. plain_worth d code plains) c.decimals-decimals.ensures ∙ sym worth)
    c.called_plainly.ensures.value

pub calls::call_value-returns-in_ok-text_of-in-Branching-clause-value : goal.calls::call_value-returns-in_ok-text_of-in-Branching-clause-value
calls::call_value-returns-in_ok-text_of-in-Branching-clause-value g t c =
    let given = g.A.Around.given c.args.around.now in
    let nodes = c.args.forest.now.forest.nodes in
    let context = c.args.context.now in
    let ms = map meaning c.args.arguments.now in
    let value = c.in_ok-value-in-Branching.value in
    ap (λ k. by_kind k c.args.code given nodes context ms) c.in-Branching.is
    ∙ ap (option_map Text)
    (string-made (setting_in given.decimals nodes) (branched ms (setting_of called given nodes context) (focus_of context)) value c.in_ok-value-in-Branching.ensures.value
    ∙ ap (λ d. string_of (setting_in d nodes) value) (sym c.decimals-decimals.ensures) ∙ c.in_ok-text_of-in-Branching.ensures)

pub calls::plain_arguments-loop-argument-init : goal.calls::plain_arguments-loop-argument-init
calls::plain_arguments-loop-argument-init g t c =
    let s = setting_of called (g.A.Around.given c.args.around.now) c.args.forest.now.forest.nodes c.args.context.now in
    let f = focus_of c.args.context.now in
    let ms = map meaning c.args.arguments.now in
    ap (λ l. onto l (plain_arguments ms s f)) c.new-given.ensures.items ∙ onto-start (plain_arguments ms s f)

pub calls::plain_arguments-returns-in_err-value : goal.calls::plain_arguments-returns-in_err-value
calls::plain_arguments-returns-in_err-value g t c =
    let given = g.A.Around.given c.args.around.now in
    let nodes = c.args.forest.now.forest.nodes in
    let s = setting_of called given nodes c.args.context.now in
    let f = focus_of c.args.context.now in
    let es = c.args.arguments.now in
    let p = err_from_is_err_and c.from_residual.result c.from_residual.ensures.1 in
    rw (p.1, p.2) (part-long Memory Long _ _ (plain_arguments (map meaning es) s f) c.in_err-value.ensures.value
    (λ h. plains-stuck s f c.loop-argument.given.items es c.loop-argument.argument-index c.argument-item.result c.loop-argument.invariant c.loop-argument-test.true
    (ap (λ e. one_plain s f (meaning e)) (sym c.argument-item.is) ∙ plain-long given nodes c.args.context.now c.argument-item.result h)))

pub calls::plain_arguments-returns-in_err-plain_of : goal.calls::plain_arguments-returns-in_err-plain_of
calls::plain_arguments-returns-in_err-plain_of g t c =
    let given = g.A.Around.given c.args.around.now in
    let nodes = c.args.forest.now.forest.nodes in
    let s = setting_of called given nodes c.args.context.now in
    let f = focus_of c.args.context.now in
    let es = c.args.arguments.now in
    let p = err_from_is_err_and c.from_residual-in_err-plain_of.result c.from_residual-in_err-plain_of.ensures.1 in
    rw (p.1, p.2) (part-long Memory Long _ _ (plain_arguments (map meaning es) s f) c.in_err-plain_of.ensures
    (λ h. plains-stuck s f c.loop-argument.given.items es c.loop-argument.argument-index c.argument-item.result c.loop-argument.invariant c.loop-argument-test.true
    (ap (λ e. one_plain s f (meaning e)) (sym c.argument-item.is) ∙ plain-of-value given nodes c.args.context.now c.argument-item.result c.in_ok-value.value c.in_ok-value.ensures.value ∙ h)))

pub calls::plain_arguments-loop-argument-preserved : goal.calls::plain_arguments-loop-argument-preserved
calls::plain_arguments-loop-argument-preserved g t c =
    let given = g.A.Around.given c.args.around.now in
    let nodes = c.args.forest.now.forest.nodes in
    let s = setting_of called given nodes c.args.context.now in
    let f = focus_of c.args.context.now in
    let es = c.args.arguments.now in
    ap (λ l. onto l (plain_arguments (map meaning (drop (c.loop-argument.argument-index + 1) es)) s f)) c.in_ok-push.ensures.items
    ∙ plains-more s f c.loop-argument.given.items es c.loop-argument.argument-index c.argument-item.result c.in_ok-plain_of.field-0 c.loop-argument.invariant c.loop-argument-test.true
    (ap (λ e. one_plain s f (meaning e)) (sym c.argument-item.is) ∙ plain-of-value given nodes c.args.context.now c.argument-item.result c.in_ok-value.value c.in_ok-value.ensures.value ∙ c.in_ok-plain_of.ensures)

pub calls::plain_arguments-returns : goal.calls::plain_arguments-returns
calls::plain_arguments-returns g t c =
    let s = setting_of called (g.A.Around.given c.args.around.now) c.args.forest.now.forest.nodes c.args.context.now in
    plains-done s (focus_of c.args.context.now) c.loop-argument.given.items c.args.arguments.now c.loop-argument.argument-index c.loop-argument.invariant c.loop-argument-test.false

-- ---- expressions

pub expression::value_at-chained-requires : goal.expression::value_at-chained-requires
expression::value_at-chained-requires g t c =
    let ls = c.as_slice-behind.result.now in
    let less : most size-Link ls < size-Expr c.args.expr.now = chain-falls c.args.expr.now c.in-Chain.first c.in-Chain.links ls c.in-Chain.is c.as_slice-behind.ensures in
    let falls : 6 * most size-Link ls + 1 < t = omega (arith, c.decreases, less) in
    λ κs h. (falls, (search rules, (c.requires, c.in_ok-left-in-Chain-2.ensures.live)))

pub expression::value_at-returns-in_ok-left-in-Chain-2-clause-value : goal.expression::value_at-returns-in_ok-left-in-Chain-2-clause-value
expression::value_at-returns-in_ok-left-in-Chain-2-clause-value g t c =
    let given = g.A.Around.given c.args.around.now in
    let nodes = c.args.forest.now.forest.nodes in
    let context = c.args.context.now in
    let s = setting_of called given nodes context in
    let f = focus_of context in
    let ls = c.as_slice-behind.result.now in
    let left = c.in_ok-left-in-Chain-2.left in
    let led : option_map (counted (leads ls)) (meaning c.get-start.result.now s f) ≡ Some (counted (leads ls) left) =
    subst (λ b. option_map (counted b) (meaning c.get-start.result.now s f) ≡ Some (counted b left)) c.leads-is_converted.ensures c.in_ok-left-in-Chain-2.ensures.value in
    gives-same Memory Long (λ v. v) c.chained.result _ (meaning c.args.expr.now s f)
    (sym (chain-meaning given nodes context c.args.expr.now c.in-Chain.first c.in-Chain.links ls c.in-Chain.is c.as_slice-behind.ensures
    ∙ ap (λ e. meaning e s f >>= λ v. chained (map meaning_of_link ls) v s f) (sym c.get-start.ensures)
    ∙ chain-made ls (meaning c.get-start.result.now s f) left s f led))
    c.chained.ensures.value

pub expression::value_at-kept_by_all-requires : goal.expression::value_at-kept_by_all-requires
expression::value_at-kept_by_all-requires g t c =
    let ps = c.as_slice-asked.result.now in
    let less : most size-Expr ps < size-Expr c.args.expr.now = filter-falls c.args.expr.now c.in-Filter.first c.in-Filter.predicates ps c.in-Filter.is c.as_slice-asked.ensures in
    let falls : 6 * most size-Expr ps + 4 < t = omega (arith, c.decreases, less) in
    λ κs h. (falls, (search rules, (c.requires, live-is c.args.forest.now.forest.nodes c.nodes_in-nodes.ensures c.in_ok-value-in-Filter.ensures.live)))

pub expression::value_at-walked-requires : goal.expression::value_at-walked-requires
expression::value_at-walked-requires g t c =
    let ss = c.as_slice-in-From.result.now in
    let less : most size-Step ss < size-Expr c.args.expr.now = from-falls c.args.expr.now c.in-From.first c.in-From.steps ss c.in-From.is c.as_slice-in-From.ensures in
    let falls : 6 * most size-Step ss + 3 < t = omega (arith, c.decreases, less) in
    λ κs h. (falls, (search rules, (c.requires, live-is c.args.forest.now.forest.nodes c.nodes_in-from.ensures c.in_ok-value-in-From.ensures.live)))

pub expression::value_at-returns-in-Call-clause-value : goal.expression::value_at-returns-in-Call-clause-value
expression::value_at-returns-in-Call-clause-value g t c =
    let given = g.A.Around.given c.args.around.now in
    let nodes = c.args.forest.now.forest.nodes in
    let context = c.args.context.now in
    let s = setting_of called given nodes context in
    let f = focus_of context in
    gives-same Memory Long (λ v. v) c.call_value.result _ (meaning c.args.expr.now s f)
    (ap (λ es. by_kind c.kind_of-kind.result c.in-Call.code given nodes context (map meaning es)) c.as_slice-given.ensures
    ∙ sym (ap (λ e. meaning e s f) c.in-Call.is ∙ call-worth c.in-Call.field-0 c.in-Call.code c.in-Call.arguments c.kind_of-kind.result given nodes context c.kind_of-kind.ensures))
    c.call_value.ensures.value

-- ---- operators

pub operators::linked-returns-clause-value : goal.operators::linked-returns-clause-value
operators::linked-returns-clause-value g t c =
    let given = g.A.Around.given c.args.around.now in
    let nodes = c.args.forest.now.forest.nodes in
    let context = c.args.context.now in
    let s = setting_of called given nodes context in
    let m = meaning c.args.link.now.right in
    let o = c.args.link.now.operator in
    let undecided : decides o (truth_of c.args.left) ≡ false = ap (decides o) (sym c.truth_of.ensures) ∙ sym c.decides.ensures ∙ c.if-decides.false in
    gives-same Memory Long (λ v. v) c.combined.result _ _
    (ap (λ d. answered o (setting_in d nodes) c.args.left c.in_ok-right.right) c.decimals.ensures
    ∙ sym (linked-both o c.args.left c.in_ok-right.right m given nodes context (focus_of context) undecided (subst (λ b. option_map (counted b) (m s (focus_of context)) ≡ Some (counted b c.in_ok-right.right)) c.converts-is_converted.ensures c.in_ok-right.ensures.value)))
    c.combined.ensures.value

pub operators::linked-returns-in_err-right-clause-value : goal.operators::linked-returns-in_err-right-clause-value
operators::linked-returns-in_err-right-clause-value g t c =
    let s = setting_of called (g.A.Around.given c.args.around.now) c.args.forest.now.forest.nodes c.args.context.now in
    let f = focus_of c.args.context.now in
    let m = meaning c.args.link.now.right in
    let o = c.args.link.now.operator in
    let undecided : decides o (truth_of c.args.left) ≡ false = ap (decides o) (sym c.truth_of.ensures) ∙ sym c.decides.ensures ∙ c.if-decides.false in
    let p = err_from_is_err_and c.from_residual.result c.from_residual.ensures.1 in
    rw (p.1, p.2) (part-long Memory Long _ _ (linked o c.args.left m s f) c.in_err-right.ensures.value
    (λ h. linked-long o c.args.left m s f undecided (subst (λ b. option_map (counted b) (m s f) ≡ None) c.converts-is_converted.ensures h)))

-- ---- first nodes

pub first::asked_at-first_walked-requires : goal.first::asked_at-first_walked-requires
first::asked_at-first_walked-requires g t c =
    let ss = c.as_slice-behind.result.now in
    let less : most size-Step ss < size-Expr c.args.expr.now = from-falls c.args.expr.now c.in-From.first c.in-From.steps ss c.in-From.is c.as_slice-behind.ensures in
    let falls : 6 * most size-Step ss + 4 < t = omega (arith, c.decreases, less) in
    λ κs h. (falls, (search rules, (c.requires, live-is c.args.forest.now.forest.nodes c.nodes_in-from.ensures c.in_ok-value-in-From.ensures.live)))

pub first::first_walked-walked-requires : goal.first::first_walked-walked-requires
first::first_walked-walked-requires g t c =
    let ss = c.args.steps.now in
    let k = length ss - 1 in
    let less : most size-Step (take k ss) ≤ most size-Step ss = most-take size-Step k ss in
    let falls : 6 * most size-Step (take k ss) + 3 < t = omega (arith, c.decreases, less) in
    λ κs h. (falls, (search rules, (c.requires.ready, c.requires.from)))

pub first::first_walked-returns-in_err-nodes-clause-value : goal.first::first_walked-returns-in_err-nodes-clause-value
first::first_walked-returns-in_err-nodes-clause-value g t c =
    let s = setting_of called (g.A.Around.given c.args.around.now) c.args.forest.now.forest.nodes c.args.context.now in
    let ss = c.args.steps.now in
    let p = err_from_is_err_and c.from_residual.result c.from_residual.ensures.1 in
    rw (p.1, p.2) (part-long Memory Long _ _ (option_map first_node (walked s (map walk_of ss) c.args.from)) c.in_err-nodes.ensures.value
    (λ h. ap (option_map first_node) (walked-part s ss (length ss - 1) c.args.from h)))

pub first::first_walked-returns-clause-value : goal.first::first_walked-returns-clause-value
first::first_walked-returns-clause-value g t c =
    let s = setting_of called (g.A.Around.given c.args.around.now) c.args.forest.now.forest.nodes c.args.context.now in
    let ss = c.args.steps.now in
    let k = length ss - 1 in
    let some : 0 < length ss = omega (arith, c.if-count-eq0.false) in
    let whole : length ss ≡ suc k = omega (arith, some) in
    gives-same Memory Long first_node c.first_taken.result _ _
    (ap (option_map first_node)
    (ap (λ x. walk_of x s c.in_ok-nodes.nodes) c.index-steps-count.is
    ∙ sym (walked-last s ss c.index-steps-count.result k c.args.from c.in_ok-nodes.nodes whole c.in_ok-nodes.ensures.value)))
    c.first_taken.ensures.value

pub first::first_taken-reached_at-first-requires : goal.first::first_taken-reached_at-first-requires
first::first_taken-reached_at-first-requires g t c = live-get c.in_ok-start.start 0 c.at.result.number c.args.forest.now.forest.nodes c.in_ok-start.ensures.live c.at.ensures

pub first::first_taken-returns-then-count-eq1-clause-value : goal.first::first_taken-returns-then-count-eq1-clause-value
first::first_taken-returns-then-count-eq1-clause-value g t c =
    let given = g.A.Around.given c.args.around.now in
    let nodes = c.args.forest.now.forest.nodes in
    let context = c.args.context.now in
    let s = setting_of called given nodes context in
    let step = c.args.step.now in
    let way = c.way_of-way.result in
    let n = c.at.result.number in
    let one : length c.in_ok-start.start ≡ 1 = sym c.len-count.ensures ∙ c.if-count-eq1.true in
    let none : step.predicates ≡ [] = empty-is step.predicates (sym c.len-asked.ensures ∙ c.if-asked-eq0.true) in
    let forward : is_reverse way.axis ≡ false = sym c.is_reverse.ensures ∙ c.if-not-is_reverse.true in
    ap (option_map first_node)
    (way-walks given nodes context step c.args.from c.in_ok-start.start way c.way_of-way.ensures c.in_ok-start.ensures.value
    ∙ ap (λ es. taken way.axis step.test (map meaning es) s c.in_ok-start.start) none
    ∙ ap (taken way.axis step.test [] s) (alone-is c.in_ok-start.start n one c.at.ensures))
    ∙ taken-first way.axis step.test s n c.in_ok-listed.field-0 c.args.forest.now c.are_trees.ensures refl forward (c.in_ok-listed.ensures ∙ ap as_list c.reached_at-first.ensures)

pub first::first_taken-returns-then-count-eq1-clause-live : goal.first::first_taken-returns-then-count-eq1-clause-live
first::first_taken-returns-then-count-eq1-clause-live g t c =
    let nodes = c.args.forest.now.forest.nodes in
    let axis = c.way_of-way.result.axis in
    let test = c.args.step.now.test in
    let n = c.at.result.number in
    live-placed (reached axis test (seen nodes) n) c.in_ok-listed.field-0 1 nodes (reached-live axis test n c.args.forest.now c.are_trees.ensures) (c.in_ok-listed.ensures ∙ ap as_list c.reached_at-first.ensures)

pub first::first_from-walked_from-requires : goal.first::first_from-walked_from-requires
first::first_from-walked_from-requires g t c =
    let ss = c.args.steps.now in
    let k = length ss - 1 in
    let less : most size-Step (take k ss) ≤ most size-Step ss = most-take size-Step k ss in
    let falls : 6 * most size-Step (take k ss) + 4 < t = omega (arith, c.decreases, less) in
    λ κs h. (falls, (search rules, (c.requires.ready, c.requires.node)))

pub first::first_from-returns-in_err-nodes-clause-value : goal.first::first_from-returns-in_err-nodes-clause-value
first::first_from-returns-in_err-nodes-clause-value g t c =
    let s = setting_of called (g.A.Around.given c.args.around.now) c.args.forest.now.forest.nodes c.args.context.now in
    let ss = c.args.steps.now in
    let from = c.args.node.number ∷ [] in
    let p = err_from_is_err_and c.from_residual-in_err-nodes.result c.from_residual-in_err-nodes.ensures.1 in
    rw (p.1, p.2) (part-long Memory Long _ _ (option_map first_node (walked s (map walk_of ss) from)) c.in_err-nodes.ensures.value
    (λ h. ap (option_map first_node) (walked-part s ss (length ss - 1) from h)))

pub first::first_from-returns-clause-value : goal.first::first_from-returns-clause-value
first::first_from-returns-clause-value g t c =
    let s = setting_of called (g.A.Around.given c.args.around.now) c.args.forest.now.forest.nodes c.args.context.now in
    let ss = c.args.steps.now in
    let k = length ss - 1 in
    let some : 0 < length ss = omega (arith, c.if-count-eq0.false) in
    let whole : length ss ≡ suc k = omega (arith, some) in
    gives-same Memory Long first_node c.first_taken.result _ _
    (ap (option_map first_node)
    (ap (λ x. walk_of x s c.in_ok-nodes.nodes) c.index-steps-count.is
    ∙ sym (walked-last s ss c.index-steps-count.result k (c.args.node.number ∷ []) c.in_ok-nodes.nodes whole c.in_ok-nodes.ensures.value)))
    c.first_taken.ensures.value

pub first::first_stepped-returns-then-not-way-clause-value : goal.first::first_stepped-returns-then-not-way-clause-value
first::first_stepped-returns-then-not-way-clause-value g t c =
    let given = g.A.Around.given c.args.around.now in
    let nodes = c.args.forest.now.forest.nodes in
    let context = c.args.context.now in
    let s = setting_of called given nodes context in
    let step = c.args.step.now in
    let way = c.way_of_one-way.result in
    let n = c.args.node.number in
    let above : way.is_below ≡ false = c.if-not-way.true in
    let none : step.predicates ≡ [] = empty-is step.predicates (sym c.len-asked.ensures ∙ c.if-asked-eq0.true) in
    let forward : is_reverse way.axis ≡ false = sym c.is_reverse.ensures ∙ c.if-not-is_reverse.true in
    ap (option_map first_node)
    (way-walks given nodes context step (n ∷ []) (n ∷ []) way c.way_of_one-way.ensures (ap (λ b. begun_at b (seen nodes) (n ∷ [])) (sym above))
    ∙ ap (λ es. taken way.axis step.test (map meaning es) s (n ∷ [])) none)
    ∙ taken-first way.axis step.test s n c.in_ok-listed.field-0 c.args.forest.now c.are_trees.ensures refl forward (c.in_ok-listed.ensures ∙ ap as_list c.reached_at-first.ensures)

pub first::first_stepped-returns-then-not-way-clause-live : goal.first::first_stepped-returns-then-not-way-clause-live
first::first_stepped-returns-then-not-way-clause-live g t c =
    let nodes = c.args.forest.now.forest.nodes in
    let axis = c.way_of_one-way.result.axis in
    let test = c.args.step.now.test in
    let n = c.args.node.number in
    live-placed (reached axis test (seen nodes) n) c.in_ok-listed.field-0 1 nodes (reached-live axis test n c.args.forest.now c.are_trees.ensures) (c.in_ok-listed.ensures ∙ ap as_list c.reached_at-first.ensures)

-- ---- operands

pub operand::compared_with-returns-in_err-right-clause-value : goal.operand::compared_with-returns-in_err-right-clause-value
operand::compared_with-returns-in_err-right-clause-value g t c =
    let s = setting_of called (g.A.Around.given c.args.around.now) c.args.forest.now.forest.nodes c.args.context.now in
    let f = focus_of c.args.context.now in
    let link = c.args.link.now in
    let left = value_in c.args.left.now in
    let p = err_from_is_err_and c.from_residual.result c.from_residual.ensures.1 in
    rw (p.1, p.2) (part-long Memory Long _ _ (chained (meaning_of_link link ∷ []) left s f) c.in_err-right.ensures.value
    (λ h. link-long link left s f c.requires.compares h))

pub operand::compared_with-returns-in_err-truth-clause-value : goal.operand::compared_with-returns-in_err-truth-clause-value
operand::compared_with-returns-in_err-truth-clause-value g t c =
    let given = g.A.Around.given c.args.around.now in
    let nodes = c.args.forest.now.forest.nodes in
    let context = c.args.context.now in
    let link = c.args.link.now in
    let left = value_in c.args.left.now in
    let right = value_in c.in_ok-right.right in
    let p = err_from_is_err_and c.from_residual-in_err-truth.result c.from_residual-in_err-truth.ensures.1 in
    rw (p.1, p.2) (part-long Memory Long _ _ (chained (meaning_of_link link ∷ []) left (setting_of called given nodes context) (focus_of context)) c.in_err-truth.ensures
    (λ h. link-compared link left right given nodes context (focus_of context) c.requires.compares c.in_ok-right.ensures.value
    ∙ ap (λ d. option_map Truth (compared (setting_in d nodes) link.operator left right)) (sym c.decimals-decimals.ensures) ∙ ap (option_map Truth) h))

pub operand::compared_with-returns-clause-value : goal.operand::compared_with-returns-clause-value
operand::compared_with-returns-clause-value g t c =
    let given = g.A.Around.given c.args.around.now in
    let nodes = c.args.forest.now.forest.nodes in
    let context = c.args.context.now in
    let link = c.args.link.now in
    let left = value_in c.args.left.now in
    let right = value_in c.in_ok-right.right in
    link-compared link left right given nodes context (focus_of context) c.requires.compares c.in_ok-right.ensures.value
    ∙ ap (λ d. option_map Truth (compared (setting_in d nodes) link.operator left right)) (sym c.decimals-decimals.ensures) ∙ ap (option_map Truth) c.in_ok-truth.ensures

-- ---- steps

pub steps::asked_of_each-asked_at-requires : goal.steps::asked_of_each-asked_at-requires
steps::asked_of_each-asked_at-requires g t c = λ κs h. (
  search rules,
  (
    search rules,
    record {
      around = c.requires.ready.around;
      node = live-get c.args.nodes.now c.loop-at.at c.at-node.result.number c.args.forest.now.forest.nodes c.requires.from c.at-node.ensures;
      current = c.requires.ready.current;
    },
  ),
)

pub steps::asked_of_each-returns-in_err-value-clause-value : goal.steps::asked_of_each-returns-in_err-value-clause-value
steps::asked_of_each-returns-in_err-value-clause-value g t c =
    let s = setting_of called (g.A.Around.given c.args.around.now) c.args.forest.now.forest.nodes c.args.context.now in
    let m = meaning c.args.predicate.now in
    let ns = c.args.nodes.now in
    let all : c.in-Ok.size ≡ length ns = c.loop-at.invariant.all in
    let within : c.loop-at.at < length ns = omega arith in
    let p = err_from_is_err_and c.from_residual.result c.from_residual.ensures.1 in
    rw (p.1, p.2) (part-long Memory Long _ _ (kept_from s m (length ns) 1 ns) c.in_err-value.ensures.value
    (λ h. ap (λ k. kept_from s m k 1 ns) (sym all) ∙ kept-long s m c.in-Ok.size c.loop-at.at c.at-node.result.number c.loop-at.kept ns c.loop-at.invariant.left within c.at-node.ensures (map-none (counted true) _ h)))

pub steps::asked_of_each-loop-at-preserved : goal.steps::asked_of_each-loop-at-preserved
steps::asked_of_each-loop-at-preserved g t c =
    let nodes = c.args.forest.now.forest.nodes in
    let s = setting_of called (g.A.Around.given c.args.around.now) nodes c.args.context.now in
    let m = meaning c.args.predicate.now in
    let ns = c.args.nodes.now in
    let n = c.at-node.result.number in
    let all : c.in-Ok.size ≡ length ns = c.loop-at.invariant.all in
    let within : c.loop-at.at < length ns = omega arith in
    let kept : c.if-is_true_at.kept ≡ added c.loop-at.kept n c.is_true_at.result =
    elim c.if-is_true_at.branch [
      | steps::asked_of_each-then-is_true_at+in_ok-push w ↦ w.kept-is ∙ w.in_ok-push.ensures.ok ∙ ap (added c.loop-at.kept n) (sym w.if-is_true_at.true)
      | steps::asked_of_each-else-is_true_at w ↦ w.kept-is ∙ ap (added c.loop-at.kept n) (sym w.if-is_true_at.false)
    ] in
    let live : has_number n nodes ≡ true = live-get ns c.loop-at.at n nodes c.requires.from c.at-node.ensures in
    record {
      all = all;
      live = live-is nodes kept (live-added c.loop-at.kept n c.is_true_at.result nodes c.loop-at.invariant.live live);
      left = ap (λ l. onto l (kept_from s m c.in-Ok.size (suc (c.loop-at.at + 1)) (drop (c.loop-at.at + 1) ns))) kept
          ∙ kept-counted s m c.in-Ok.size c.loop-at.at n c.loop-at.kept ns c.in_ok-value.value c.is_true_at.result c.loop-at.invariant.left within c.at-node.ensures c.in_ok-value.ensures.value
          (ap (λ d. is_true_at d (c.loop-at.at + 1) c.in_ok-value.value) (sym c.decimals-decimals.ensures) ∙ sym c.is_true_at.ensures);
    }

pub steps::kept_by-returns-in-Number-clause-value : goal.steps::kept_by-returns-in-Number-clause-value
steps::kept_by-returns-in-Number-clause-value g t c =
    let s = setting_of called (g.A.Around.given c.args.around.now) c.args.forest.now.forest.nodes c.args.context.now in
    let ns = c.args.nodes.now in
    ap (λ e. kept_from s (meaning e) (length ns) 1 ns) c.in-Number.is ∙ ap (λ m. kept_from s m (length ns) 1 ns) (meaning-Number c.in-Number.field-0 c.in-Number.number)
    ∙ c.in_ok-placed.ensures.value s (length ns) c.decimals.ensures

pub steps::from_one-returns-in_ok-first-in-Some-clause-value : goal.steps::from_one-returns-in_ok-first-in-Some-clause-value
steps::from_one-returns-in_ok-first-in-Some-clause-value g t c =
    let s = setting_of called (g.A.Around.given c.args.around.now) c.args.forest.now.forest.nodes c.args.context.now in
    let step = c.args.step.now in
    let ps = c.as_slice-predicates.result.now in
    let ns = reached c.args.axis step.test s.all c.args.node.number in
    gives-same Memory Long (λ v. v) c.kept_by_all.result _ _
    (first-asked c.decimals-decimals.result c.in-Some.number ps s ns c.in_ok-first-in-Some.first c.in-Some.ensures c.in_ok-first-in-Some.ensures.value c.decimals-decimals.ensures ∙ ap (λ es. kept_by_all s (map meaning es) ns) c.as_slice-predicates.ensures)
    c.kept_by_all.ensures.value

pub steps::walked-returns-in_err-nodes-clause-value : goal.steps::walked-returns-in_err-nodes-clause-value
steps::walked-returns-in_err-nodes-clause-value g t c =
    let given = g.A.Around.given c.args.around.now in
    let nodes = c.args.forest.now.forest.nodes in
    let context = c.args.context.now in
    let steps = c.args.steps.now in
    let p = err_from_is_err_and c.from_residual-in_err-nodes.result c.from_residual-in_err-nodes.ensures.1 in
    rw (p.1, p.2) (part-long Memory Long _ _ (walked (setting_of called given nodes context) (map walk_of steps) c.args.from) c.in_err-nodes.ensures.value
    (way-stuck given nodes context steps c.loop-step.step-index c.step-item.result c.loop-step.nodes c.in_ok-start.start c.way_of-way.result _
    c.loop-step.invariant.left c.loop-step-test.true c.step-item.is c.way_of-way.ensures c.in_ok-start.ensures.value))

pub steps::walked-loop-step-preserved : goal.steps::walked-loop-step-preserved
steps::walked-loop-step-preserved g t c =
    let given = g.A.Around.given c.args.around.now in
    let nodes = c.args.forest.now.forest.nodes in
    let context = c.args.context.now in
    record {
      live = c.in_ok-nodes.ensures.live;
      left = way-more given nodes context c.args.steps.now c.loop-step.step-index c.step-item.result c.loop-step.nodes c.in_ok-start.start _ c.way_of-way.result _
          c.loop-step.invariant.left c.loop-step-test.true c.step-item.is c.way_of-way.ensures c.in_ok-start.ensures.value c.in_ok-nodes.ensures.value;
    }

pub steps::taken-taken_from-requires : goal.steps::taken-taken_from-requires
steps::taken-taken_from-requires g t c = λ κs h.
    (search rules, (search rules, (c.requires.ready, live-get c.args.from.now 0 c.at.result.number c.args.forest.now.forest.nodes c.requires.from c.at.ensures)))

pub steps::taken-take-requires : goal.steps::taken-take-requires
steps::taken-take-requires g t c = λ κs h.
    let nodes = c.args.forest.now.forest.nodes in
    (search rules, (search rules, (c.requires.ready, live-item c.as_slice-node-items.result.now c.loop-node.node-index _ nodes (live-is nodes c.as_slice-node-items.ensures c.requires.from) c.loop-node-test.true)))

pub steps::taken_from-ordered-requires-clause-forward : goal.steps::taken_from-ordered-requires-clause-forward
steps::taken_from-ordered-requires-clause-forward g t c =
    let s = setting_of called (g.A.Around.given c.args.around.now) c.args.forest.now.forest.nodes c.args.context.now in
    forward-in_order c.args.axis c.args.step.now.test [] s c.args.node.number c.in_ok-found.found c.args.forest.now c.are_trees.ensures refl (ap Some (sym c.in_ok-found.ensures.value))

pub steps::taken_from-ordered-requires-2-clause-forward : goal.steps::taken_from-ordered-requires-2-clause-forward
steps::taken_from-ordered-requires-2-clause-forward g t c =
    let s = setting_of called (g.A.Around.given c.args.around.now) c.args.forest.now.forest.nodes c.args.context.now in
    let step = c.args.step.now in
    forward-in_order c.args.axis step.test (map meaning step.predicates) s c.args.node.number c.in_ok-kept.kept c.args.forest.now c.are_trees.ensures refl c.in_ok-kept.ensures.value

pub steps::take-returns-then-not-reaches_any : goal.steps::take-returns-then-not-reaches_any
steps::take-returns-then-not-reaches_any g t c =
    let s = setting_of called (g.A.Around.given c.args.around.now) c.args.forest.now.forest.nodes c.args.context.now in
    let ms = map meaning c.args.step.now.predicates in
    let found = c.args.found.now in
    record {
      value = ap (λ ns. option_map (λ kept. found ++ kept) (kept_by_all s ms ns)) (c.reaches_any.ensures (c.if-not-reaches_any.true))
          ∙ ap (option_map (λ kept. found ++ kept)) (none-kept s ms) ∙ ap Some (append-none found);
    }

pub steps::taken_from-returns-in_err-kept-clause-value : goal.steps::taken_from-returns-in_err-kept-clause-value
steps::taken_from-returns-in_err-kept-clause-value g t c =
    let s = setting_of called (g.A.Around.given c.args.around.now) c.args.forest.now.forest.nodes c.args.context.now in
    let step = c.args.step.now in
    let ms = map meaning step.predicates in
    let p = err_from_is_err_and c.from_residual-in_err-kept.result c.from_residual-in_err-kept.ensures.1 in
    rw (p.1, p.2) (part-long Memory Long _ _ (taken c.args.axis step.test ms s (c.args.node.number ∷ [])) c.in_err-kept.ensures.value
    (λ h. taken-none c.args.axis step.test ms s c.args.node.number h))

pub steps::taken_from-returns-clause-value : goal.steps::taken_from-returns-clause-value
steps::taken_from-returns-clause-value g t c =
    let s = setting_of called (g.A.Around.given c.args.around.now) c.args.forest.now.forest.nodes c.args.context.now in
    let step = c.args.step.now in
    let ms = map meaning step.predicates in
    taken-one c.args.axis step.test ms s c.args.node.number c.in_ok-kept.kept c.in_ok-kept.ensures.value ∙ ap Some (sym c.in_ok-ordered-2.ensures.value)

pub steps::taken-returns-then-len-eq1-clause-value : goal.steps::taken-returns-then-len-eq1-clause-value
steps::taken-returns-then-len-eq1-clause-value g t c =
    let s = setting_of called (g.A.Around.given c.args.around.now) c.args.forest.now.forest.nodes c.args.context.now in
    let step = c.args.step.now in
    let ms = map meaning step.predicates in
    let one : length c.args.from.now ≡ 1 = sym c.len.ensures ∙ c.if-len-eq1.true in
    let alone = alone-is c.args.from.now c.at.result.number one c.at.ensures in
    gives-same Memory Long (λ found. found) c.taken_from.result _ _ (ap (taken c.args.axis step.test ms s) (sym alone)) c.taken_from.ensures.value

pub steps::taken-returns-then-is_empty-clause-value : goal.steps::taken-returns-then-is_empty-clause-value
steps::taken-returns-then-is_empty-clause-value g t c =
    let nodes = c.args.forest.now.forest.nodes in
    let s = setting_of called (g.A.Around.given c.args.around.now) nodes c.args.context.now in
    let step = c.args.step.now in
    let none : map meaning step.predicates ≡ [] = ap (map meaning) (empty-is step.predicates (search (rules, tests, c.is_empty.ensures, c.if-is_empty.true, c.as_slice.ensures))) in
    plain-taken nodes c.args.axis step.test (map meaning step.predicates) s c.args.from.now c.in_ok-found.found c.in_ok-put_in_order.field-0 refl none c.in_ok-found.ensures c.in_ok-put_in_order.ensures

pub steps::taken-returns-then-is_empty-clause-live : goal.steps::taken-returns-then-is_empty-clause-live
steps::taken-returns-then-is_empty-clause-live g t c = live-is c.args.forest.now.forest.nodes c.in_ok-put_in_order.ensures (live-in_order _ c.args.forest.now.forest.nodes)

pub steps::taken-returns-clause-value : goal.steps::taken-returns-clause-value
steps::taken-returns-clause-value g t c =
    let nodes = c.args.forest.now.forest.nodes in
    let s = setting_of called (g.A.Around.given c.args.around.now) nodes c.args.context.now in
    let step = c.args.step.now in
    taken-done nodes (from_one c.args.axis step.test (map meaning step.predicates) s) c.loop-node.found c.in_ok-put_in_order-2.field-0 c.args.from.now c.as_slice-node-items.result.now c.loop-node.node-index
    c.as_slice-node-items.ensures c.loop-node.invariant c.loop-node-test.false c.in_ok-put_in_order-2.ensures

pub steps::taken-returns-clause-live : goal.steps::taken-returns-clause-live
steps::taken-returns-clause-live g t c =
    let nodes = c.args.forest.now.forest.nodes in
    live-is nodes c.in_ok-put_in_order-2.ensures (live-in_order _ nodes)

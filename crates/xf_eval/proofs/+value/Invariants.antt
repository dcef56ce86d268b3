use Rattle.std.proofs.Common.{◌≡◌, ◌++◌, suc, map, drop, length, Option, option_map}
use Rattle.xf_funcs.specs.Called.{called}
use Rattle.xf_def_xpath.specs.Conversions.{nodes_of, plain_of}
use Rattle.xf_def_xpath.specs.Meaning.{focus_of, meaning, meaning_of_link, setting_of, walk_of}
use Rattle.xf_def_xpath.specs.Operators.{chained}
use Rattle.xf_def_values.specs.declared.plain.Plain.{Plain}
use Rattle.xf_def_xpath.specs.Setting.{Meaning, ◌>>=◌, each, joined}
use Rattle.xf_def_xpath.specs.Steps.{from_one, kept_by_all, kept_from, walked}
use Rattle.xf_eval.specs.Live.{AllLive}
use Rattle.xf_eval.proofs.Lists.{onto}
use Rattle.xf_eval.proofs.+value.Given as goal

abbrev pub invariant-steps::walked-loop-step : goal.invariant-steps::walked-loop-step
invariant-steps::walked-loop-step g l =
    let s = setting_of called (g.A.Around.given l.around) l.forest.forest.nodes l.context in record {
      live : AllLive l.nodes l.forest.forest.nodes;
      left : walked s (map walk_of (drop l.step-index l.steps)) l.nodes ≡ walked s (map walk_of l.steps) l.initial.nodes;
    }

abbrev pub invariant-steps::taken-loop-node : goal.invariant-steps::taken-loop-node
invariant-steps::taken-loop-node g l =
    let s = setting_of called (g.A.Around.given l.around) l.forest.forest.nodes l.context in
    let one = from_one l.axis l.step.test (map meaning l.step.predicates) s in
    option_map (λ sets. l.found ++ joined sets) (each one (map (λ n. n.number) (drop l.node-index l.node-items))) ≡ option_map joined (each one (map (λ n. n.number) l.node-items))

abbrev pub invariant-steps::kept_by_all-loop-at : goal.invariant-steps::kept_by_all-loop-at
invariant-steps::kept_by_all-loop-at g l =
    let s = setting_of called (g.A.Around.given l.around) l.forest.forest.nodes l.context in record {
      live : AllLive l.left l.forest.forest.nodes;
      left : kept_by_all s (map meaning (drop l.at l.predicates)) l.left ≡ kept_by_all s (map meaning (drop l.asked l.predicates)) l.initial.left;
    }

abbrev pub invariant-steps::asked_of_each-loop-at : goal.invariant-steps::asked_of_each-loop-at
invariant-steps::asked_of_each-loop-at g l =
    let s = setting_of called (g.A.Around.given l.around) l.forest.forest.nodes l.context in
    let m = meaning l.predicate in record {
      all : l.size ≡ length l.nodes;
      live : AllLive l.kept l.forest.forest.nodes;
      left : onto l.kept (kept_from s m l.size (suc l.at) (drop l.at l.nodes)) ≡ kept_from s m l.size 1 l.nodes;
    }

abbrev pub invariant-operators::chained-loop-link : goal.invariant-operators::chained-loop-link
invariant-operators::chained-loop-link g l =
    let s = setting_of called (g.A.Around.given l.around) l.forest.forest.nodes l.context in
    let c = focus_of l.context in record {
      live : AllLive (nodes_of l.left) l.forest.forest.nodes;
      left : chained (map meaning_of_link (drop l.link-index l.links)) l.left s c ≡ chained (map meaning_of_link l.links) l.initial.left s c;
    }

abbrev pub invariant-calls::plain_arguments-loop-argument : goal.invariant-calls::plain_arguments-loop-argument
invariant-calls::plain_arguments-loop-argument g l =
    let s = setting_of called (g.A.Around.given l.around) l.forest.forest.nodes l.context in
    let c = focus_of l.context in
    let one : Meaning → Option Plain = λ m. m s c >>= plain_of s in
    onto l.given.items (each one (map meaning (drop l.argument-index l.arguments))) ≡ each one (map meaning l.arguments)

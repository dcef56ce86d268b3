use Rattle.std.proofs.Common.{◌≡◌, [], Some, option_map, map, drop}
use Rattle.xf_base.specs.Limits.{string_limit}
use Rattle.xf_def_forest.specs.Visit.{visits}
use Rattle.xf_def_xpath.specs.Setting.{each, joined}
use Rattle.xf_def_xpath.specs.Reads.{trace}
use Rattle.xf_def_model.specs.Nested.{set_from}
use Rattle.xf_eval.specs.Live.{AllLive}
use Rattle.xf_eval_context.specs.Nested.Chain.{scope_in}
use Rattle.xf_eval_context.proofs.NestedLemmas.SetLaws.{left}
use Rattle.xf_eval_context.proofs.nested.chain.selected.Given as goal

abbrev pub invariant-loop-node : goal.invariant-loop-node
invariant-loop-node g l =
    let all = visits l.forest.forest.nodes in
    let one = set_from (Some string_limit) (scope_in (g.A.Around.given l.around) [] l.model) all (trace l.node_set) in record {
      live : AllLive l.found l.forest.forest.nodes;
      left : left one l.found (drop l.node-index l.node-items) ≡ option_map joined (each one (map (λ n. n.number) l.node-items));
    }

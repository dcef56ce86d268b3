use Rattle.std.proofs.Common.{◌≡◌, ℕ, List, map, drop}
use Rattle.xf_def_xpath.specs.Asked.{Asked, both, plainly}
use Rattle.xf_def_xpath.specs.AskedCalls.{all_converted, links_asked}
use Rattle.xf_def_xpath.specs.Meaning.{focus_of}
use Rattle.xf_def_xpath.specs.Reads.{trace, trace_of_link}
use Rattle.xf_eval_shape.specs.Over.{shape_at}
use Rattle.xf_eval_dependencies.specs.Asked.Tells.{Stands, Tells}
use Rattle.xf_eval_dependencies.proofs.+asks.Given as goal

abbrev pub invariant-expression::links_asked-loop-link : goal.invariant-expression::links_asked-loop-link
invariant-expression::links_asked-loop-link g l =
    let nodes = l.forest.forest.nodes in
    let s = shape_at (g.A.Around.given l.around) nodes l.context in
    let c = focus_of l.context in record {
      stands : Stands nodes l.left;
      tells : (a : Asked) → Tells nodes l.initial.left a → (b : Asked) × (Tells nodes l.left b) × (links_asked (map trace_of_link (drop l.link-index l.links)) s c b ≡ links_asked (map trace_of_link l.links) s c a);
    }

abbrev pub invariant-arguments::all_converted-loop-argument : goal.invariant-arguments::all_converted-loop-argument
invariant-arguments::all_converted-loop-argument g l =
    let nodes = l.forest.forest.nodes in
    let s = shape_at (g.A.Around.given l.around) nodes l.context in
    let c = focus_of l.context in record {
      stands : Stands nodes l.all;
      tells : (reads : List ℕ) × (looks : List ℕ) × (Tells nodes l.all (plainly reads looks)) × (both (plainly reads looks) (all_converted (map trace (drop l.argument-index l.arguments)) s c) ≡ all_converted (map trace l.arguments) s c);
    }

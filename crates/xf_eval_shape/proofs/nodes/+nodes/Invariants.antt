use Rattle.std.proofs.Common.{◌≡◌, ℕ, List, map, drop}
use Rattle.xf_def_xpath.specs.declared.value.Value.{Value}
use Rattle.xf_def_xpath.specs.Conversions.{nodes_of}
use Rattle.xf_def_xpath.specs.Meaning.{focus_of, meaning_of_link}
use Rattle.xf_def_xpath.specs.Operators.{chained}
use Rattle.xf_eval_shape.specs.Bound.{Gives}
use Rattle.xf_eval_shape.specs.Over.{shape_at}
use Rattle.xf_eval_shape.specs.Spots.{AreSpots, numbers_at}
use Rattle.xf_eval_shape.proofs.nodes.+nodes.Given as goal

abbrev pub invariant-chained-loop-link : goal.invariant-chained-loop-link
invariant-chained-loop-link g l =
    let s = shape_at (g.A.Around.given l.around) l.forest.forest.nodes l.context in
    let c = focus_of l.context in record {
      spots : AreSpots l.forest.forest.nodes l.nodes.items;
      left : (ns : List ℕ) → ((w : Value) → nodes_of w ≡ numbers_at l.nodes.items → Gives ns (chained (map meaning_of_link (drop l.link-index l.links)) w s c)) →
          (v : Value) → nodes_of v ≡ numbers_at l.initial.nodes.items → Gives ns (chained (map meaning_of_link l.links) v s c);
    }

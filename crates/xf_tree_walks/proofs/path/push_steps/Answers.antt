use Rattle.std.proofs.Common.{map, subst}
use Rattle.xf_def_forest.specs.Path.{step_of}
use Rattle.xf_def_forest.specs.Visit.{visits}
use Rattle.xf_tree_walks.specs.Siblings.{AllPlaces}
use Rattle.xf_tree_walks.specs.Nodes.{node_of}
use Rattle.xf_tree_walks.specs.Walks.{number_of_row}
use Rattle.xf_tree_walks.proofs.PathTextLemmas.{steps-more, all-front}
use Rattle.xf_tree_walks.proofs.path.push_steps.Goals as goal

pub push_step-requires-clause-within : goal.push_step-requires-clause-within
push_step-requires-clause-within c =
    (all-front c.args.rows.now.items c.pop.new.self.items c.in-Some.place (subst (AllPlaces c.args.rows.now.items) c.in-Some.ensures.items c.loop-place.invariant.within)).1

pub loop-place-preserved : goal.loop-place-preserved
loop-place-preserved c =
    let rows = c.args.rows.now.items in
    let s = c.args.slots.now in
    record {
      so_far = steps-more (step_of (visits (map (node_of s) rows))) (number_of_row s rows) _ _ _ c.loop-place.left.items c.pop.new.self.items c.in-Some.place c.in-Some.ensures.items c.in_ok-push_step.ensures c.loop-place.invariant.so_far;
      within = (all-front rows c.pop.new.self.items c.in-Some.place (subst (AllPlaces rows) c.in-Some.ensures.items c.loop-place.invariant.within)).0;
    }

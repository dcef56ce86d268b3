use Rattle.std.proofs.Common.{◌≡◌, [], length}
use Rattle.xf_def_forest.specs.Shape.{shape_of}
use Rattle.xf_binds.specs.Held.{entries_in}
use Rattle.xf_binds_apply.specs.Adding.{Added}
use Rattle.xf_binds_apply.specs.Reached.{AreKept, scope_in}
use Rattle.xf_binds_apply.proofs.EntryLaws.{before}
use Rattle.xf_binds_apply.proofs.binds.apply.Given as goal

abbrev pub invariant-loop-bind : goal.invariant-loop-bind
invariant-loop-bind g l =
    let given = g.A.Around.given l.around in
    let nodes = l.forest.forest.nodes in record {
      long : length l.reached.items ≡ l.bind-index;
      kept : AreKept given l.binds l.model nodes l.reached.items;
      so_far : Added (shape_of nodes) [] (before (scope_in given l.binds l.model) (shape_of nodes) l.binds l.bind-index) (entries_in l.applied);
    }

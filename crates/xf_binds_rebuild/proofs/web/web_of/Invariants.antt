use Rattle.std.proofs.Common.{◌≡◌, true, map, take}
use Rattle.std.specs.List.{list_all}
use Rattle.xf_def_forest.specs.Shape.{shape_of}
use Rattle.xf_funcs.specs.Called.{called}
use Rattle.xf_def_model.specs.Rules.{scope_of}
use Rattle.xf_binds.specs.Held.{entries_in}
use Rattle.xf_binds_rebuild.specs.Found.{is_small}
use Rattle.xf_binds_rebuild.specs.Web.{asks_of}
use Rattle.xf_binds_rebuild.proofs.web.web_of.Given as goal

abbrev pub invariant-loop-at : goal.invariant-loop-at
invariant-loop-at g l = record {
  web : l.web ≡ map (asks_of (scope_of called (g.A.Around.given l.fn.around) l.fn.tables l.fn.model) (shape_of l.fn.forest.forest.nodes)) (take l.at (entries_in l.fn.applied));
  small : list_all is_small (take l.at (entries_in l.fn.applied)) ≡ true;
}

use Rattle.std.proofs.Common.{◌++◌, ◌∙◌, ap, sym}
use Rattle.xf_def_forest.specs.Shape.{shape_of}
use Rattle.xf_funcs.specs.Called.{called}
use Rattle.xf_def_model.specs.Rules.{scope_of}
use Rattle.xf_binds_rebuild.specs.Found.{asks_at, holds_at, is_there}
use Rattle.xf_binds_rebuild.proofs.Expressions.{append-none}
use Rattle.xf_binds_rebuild.proofs.web.push_asks.Goals as goal

pub asks_of-requires-clause-there : goal.asks_of-requires-clause-there
asks_of-requires-clause-there g c = ap (holds_at (is_there c.args.forest.now.forest.nodes)) c.in-Some.ensures ∙ c.requires.there

pub returns-in-None-clause-web : goal.returns-in-None-clause-web
returns-in-None-clause-web g c =
    sym (append-none c.args.web.now)
    ∙ ap (λ o. c.args.web.now ++ asks_at (scope_of called (g.A.Around.given c.args.around.now) c.args.tables.now c.args.model) (shape_of c.args.forest.now.forest.nodes) o) c.in-None.ensures

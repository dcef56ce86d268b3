use Rattle.std.proofs.Common.{Ok, ap, refl, sym, ◌∙◌}
use Rattle.xf_funcs.specs.Called.{called}
use Rattle.xf_def_model.specs.Rules.{scope_of}
use Rattle.xf_binds.specs.Held.{entries_in}
use Rattle.xf_binds.specs.Kept.{Entered}
use Rattle.xf_binds_rebuild.specs.Rebuilt.{table_with}
use Rattle.xf_binds_rebuild.proofs.Expressions.{node-sets}
use Rattle.xf_binds_rebuild.proofs.Rebuilds.{entries-there}
use Rattle.xf_binds_rebuild.proofs.rebuilding.rebuild.Goals as goal

pub apply-requires-clause-fixed : goal.apply-requires-clause-fixed
apply-requires-clause-fixed g c = node-sets c.args.tables.now.binds c.requires.fixed

pub web_of-requires-clause-there : goal.web_of-requires-clause-there
web_of-requires-clause-there g c =
    entries-there (scope_of called (g.A.Around.given c.args.around.now) c.args.tables.now c.args.model) c.args.forest.now.forest (entries_in c.in-Ok.applied) c.in-Ok.ensures

pub checked-requires-clause-there : goal.checked-requires-clause-there
checked-requires-clause-there g c =
    entries-there (scope_of called (g.A.Around.given c.args.around.now) c.args.tables.now c.args.model) c.args.forest.now.forest (entries_in c.in-Ok.applied) c.in-Ok.ensures

pub returns-in_ok-present-in-Ok-checked-clause-answer : goal.returns-in_ok-present-in-Ok-checked-clause-answer
returns-in_ok-present-in-Ok-checked-clause-answer g c =
    let scope = scope_of called (g.A.Around.given c.args.around.now) c.args.tables.now c.args.model in
    c.in-Ok-checked.ensures.answer scope refl c.in-Ok.ensures c.in_ok-web.ensures.web c.in_ok-web.ensures.small
    ∙ ap Ok (sym (c.rebuild.ensures ∙ ap (λ (o : Entered). table_with c.args.table.now c.args.model (entries_in o.held) o.asks) c.in_ok-present-in-Ok-checked.ensures))

pub returns-in-Err-checked-clause-answer : goal.returns-in-Err-checked-clause-answer
returns-in-Err-checked-clause-answer g c =
    let scope = scope_of called (g.A.Around.given c.args.around.now) c.args.tables.now c.args.model in
    c.in-Err-checked.ensures.answer scope refl c.in-Ok.ensures c.in_ok-web.ensures.web c.in_ok-web.ensures.small

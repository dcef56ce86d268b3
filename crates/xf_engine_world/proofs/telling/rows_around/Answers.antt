use Rattle.std.proofs.Common.{◌≡◌, map, subst}
use Rattle.std.specs.Prelude.{IfOk}
use Rattle.xf_def_syntax.specs.declared.form.Form.{Form}
use Rattle.xf_def_ui.specs.Interface.{interface_of}
use Rattle.xf_def_ui.specs.Named.{rows_cut}
use Rattle.xf_eval_context.specs.Indexes.{seen_index}
use Rattle.xf_engine_world.proofs.telling.rows_around.Goals as goal

pub returns : goal.returns
returns c =
    let n = c.args.element in
    let w = c.args.world.now in
    subst (λ os. IfOk c.rows_cut.result (λ rows. rows ≡ rows_cut (interface_of w.work.now.form) os n)) c.indexes.ensures
    (subst (λ (f : Form). IfOk c.rows_cut.result (λ rows. rows ≡ rows_cut (interface_of f) (map seen_index c.indexes.result.now) n)) c.form.ensures c.rows_cut.ensures)

use Rattle.std.proofs.Common.{Ok, map, sym, ap, ◌∙◌}
use Rattle.xf_def_syntax.specs.declared.form.Form.{Form}
use Rattle.xf_def_ui.specs.Index.{indexed_rows}
use Rattle.xf_def_ui.specs.Interface.{interface_of}
use Rattle.xf_eval_context.specs.Indexes.{seen_index}
use Rattle.xf_engine_world.proofs.choosing.named_copy.Goals as goal

pub returns-in-Ok : goal.returns-in-Ok
returns-in-Ok c =
    let n = c.args.element in
    let w = c.args.world.now in
    let indexes = map seen_index c.indexes.result.now in
    ap (λ rows. Ok rows) (sym (c.in-Ok.ensures
    ∙ ap (λ (f : Form). indexed_rows (interface_of f) indexes n) c.form.ensures
    ∙ ap (λ os. indexed_rows (interface_of w.work.now.form) os n) c.indexes.ensures))

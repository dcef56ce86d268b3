use Rattle.std.proofs.Common.{◌≡◌, ℕ, true, Ok, get_or, sym, ap, ◌∙◌}
use Rattle.std.specs.Prelude.{codes}
use Rattle.xf_def_syntax.specs.declared.form.Form.{Form}
use Rattle.xf_def_forest.specs.Forest.{Forest}
use Rattle.xf_def_forest.specs.Visit.{visits}
use Rattle.xf_def_ui.specs.Named.{rows_cut}
use Rattle.xf_def_machine.specs.Delete.{location_of}
use Rattle.xf_def_machine.specs.Events.{fired}
use Rattle.xf_def_machine.specs.Surround.{Told, interface}
use Rattle.xf_events.specs.Changed.{deleted_told}
use Rattle.xf_engine_world.specs.State.{state_of}
use Rattle.xf_engine_world.proofs.changed.delete_event.Goals as goal

pub returns-in-Ok : goal.returns-in-Ok
returns-in-Ok c =
    let s = state_of c.args.world.now in
    let place = c.args.instance in
    let name = codes "xforms-delete" in
    let n = c.instance_element-target.result in
    let same : n ≡ get_or s.form.instance_elements place 0 = c.instance_element-target.ensures ∙ ap (λ (f : Form). get_or f.instances place 0) c.form-form.ensures in
    let told : Forest → ℕ → Told = λ f decimals. deleted_told (visits f.nodes) c.args.nodes.now (location_of decimals c.args.set.now c.args.at) in
    ap (λ e. Ok e) (sym (c.in-Ok.ensures
    ∙ ap (λ (f : Form). fired name true true (told c.forest.result.now.forest f.decimals) n c.in_ok-rows.rows) c.form-form.ensures
    ∙ ap (λ (f : Forest). fired name true true (told f s.form.decimals) n c.in_ok-rows.rows) c.forest.ensures
    ∙ ap (λ rows. fired name true true (told s.forest s.form.decimals) n rows) c.in_ok-rows.ensures
    ∙ ap (λ k. fired name true true (told s.forest s.form.decimals) k (rows_cut (interface s) s.indexes k)) same))

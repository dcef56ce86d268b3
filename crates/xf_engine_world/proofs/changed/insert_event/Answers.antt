use Rattle.std.proofs.Common.{◌≡◌, true, Ok, map, get_or, sym, ap, ◌∙◌}
use Rattle.std.specs.Prelude.{codes}
use Rattle.xf_def_syntax.specs.declared.form.Form.{Form}
use Rattle.xf_def_forest.specs.Forest.{Forest}
use Rattle.xf_def_forest.specs.Visit.{visits}
use Rattle.xf_def_model.specs.Places as model
use Rattle.xf_def_ui.specs.Named.{rows_cut}
use Rattle.xf_def_machine.specs.Events.{fired}
use Rattle.xf_def_machine.specs.Surround.{Told, interface}
use Rattle.xf_actions.specs.Seen.{place_of}
use Rattle.xf_events.specs.Changed.{inserted_told}
use Rattle.xf_engine_world.specs.State.{state_of}
use Rattle.xf_engine_world.proofs.changed.insert_event.Goals as goal

pub returns-in-Ok : goal.returns-in-Ok
returns-in-Ok c =
    let s = state_of c.args.world.now in
    let i = c.args.inserting.now in
    let place = c.args.instance in
    let name = codes "xforms-insert" in
    let n = c.instance_element-target.result in
    let same : n ≡ get_or s.form.instance_elements place 0 = c.instance_element-target.ensures ∙ ap (λ (f : Form). get_or f.instances place 0) c.form.ensures in
    let told : Forest → Told = λ f. inserted_told (visits f.nodes) i.is_before c.args.tops.now (map (λ (q : model.Place). q.origin) (map place_of i.places)) i.location in
    ap (λ e. Ok e) (sym (c.in-Ok.ensures
    ∙ ap (λ (f : Forest). fired name true true (told f) n c.in_ok-rows.rows) c.forest.ensures
    ∙ ap (λ rows. fired name true true (told s.forest) n rows) c.in_ok-rows.ensures
    ∙ ap (λ k. fired name true true (told s.forest) k (rows_cut (interface s) s.indexes k)) same))

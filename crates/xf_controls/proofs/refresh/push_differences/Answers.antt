use Rattle.std.proofs.Common.{map}
use Rattle.std.proofs.lemmas.Result.{on_ok_weaker}
use Rattle.xf_def_ui.specs.Notifications.{state_names, value_names}
use Rattle.std.specs.Prelude.{codes}
use Rattle.xf_controls.specs.Seen.{seen_copy, seen_notification}
use Rattle.xf_controls.proofs.ToldLaws.{told-five}
use Rattle.xf_controls.proofs.refresh.push_differences.Goals as goal

pub returns : goal.returns
returns c =
    let old = seen_copy c.args.old.now in
    let new = seen_copy c.args.new.now in
    on_ok_weaker c.push_state-4.result (λ e. told-five new (value_names old new)
    (state_names (codes "xforms-valid") (codes "xforms-invalid") old.valid new.valid)
    (state_names (codes "xforms-readwrite") (codes "xforms-readonly") old.readwrite new.readwrite)
    (state_names (codes "xforms-required") (codes "xforms-optional") old.required new.required)
    (state_names (codes "xforms-enabled") (codes "xforms-disabled") old.enabled new.enabled)
    (map seen_notification c.args.all.now) (map seen_notification c.push_value.new.all) (map seen_notification c.push_state.new.all) (map seen_notification c.push_state-2.new.all) (map seen_notification c.push_state-3.new.all) (map seen_notification c.push_state-4.new.all)
    c.in_ok-push_value.ensures c.in_ok-push_state.ensures c.in_ok-push_state-2.ensures c.in_ok-push_state-3.ensures e) c.push_state-4.ensures

use Rattle.std.proofs.Common.{map, ap, ◌∙◌}
use Rattle.xf_controls.specs.Seen.{seen_copy}
use Rattle.xf_def_ui.specs.Notifications.{notifications}
use Rattle.xf_engine_state.specs.Does.{Twin}
use Rattle.xf_engine_state.proofs.work.Work.show_others.Goals as goal

pub returns-clause-done : goal.returns-clause-done
returns-clause-done c =
    let list = map seen_copy c.in_ok-list.list in
    record {
      list = list;
      shown = c.in_ok-list.ensures;
      told = c.in_ok-told.ensures ∙ ap (λ cs. notifications (map seen_copy cs) list) c.list.ensures ∙ ap (λ (t : Twin). notifications t.now.controls list) c.self.view_is;
      now = c.take_controls.ensures.now;
    }

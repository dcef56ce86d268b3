use Rattle.std.proofs.Common.{List, Err, sym, subst}
use Rattle.xf_controls.specs.declared.refresh.Notification.{Notification}
use Rattle.xf_controls.specs.Renewed.{renewed}
use Rattle.xf_engine_state.specs.Calls.{Renews}
use Rattle.xf_engine_state.proofs.RefreshLaws.{told-renews}
use Rattle.xf_engine_state.proofs.refreshing.renew.Goals as goal

pub returns-in-Err-clause-done : goal.returns-in-Err-clause-done
returns-in-Err-clause-done c =
    let given = renewed c.args.forest.now.forest.nodes c.args.shown.now.now in
    subst (λ e. Renews {X = List Notification} (Err e) given c.renew.new.self.now) (sym c.told.ensures) (told-renews c.in-Err.fault given c.renew.new.self.now c.in-Err.ensures.list)

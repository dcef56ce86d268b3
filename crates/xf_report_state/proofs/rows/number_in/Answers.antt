use Rattle.std.proofs.Common.{suc, ap, ◌∙◌}
use Rattle.std.proofs.lemmas.Result.{IfOk-weaker}
use Rattle.xf_report_state.proofs.RowLaws.{place-none, place-some}
use Rattle.xf_report_state.proofs.rows.number_in.Goals as goal

pub returns-in-None : goal.returns-in-None
returns-in-None c =
    IfOk-weaker c.number_at-in-None.result _ _ (λ number h. h ∙ ap suc (c.len.ensures ∙ place-none c.args.row.number c.args.rows.now c.in-None.ensures)) c.number_at-in-None.ensures

pub returns-in-Some : goal.returns-in-Some
returns-in-Some c = IfOk-weaker c.number_at.result _ _ (λ number h. h ∙ ap suc (place-some c.args.row.number c.args.rows.now c.in-Some.place c.in-Some.ensures)) c.number_at.ensures

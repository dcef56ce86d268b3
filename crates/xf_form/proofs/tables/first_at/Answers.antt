use Rattle.std.proofs.Common.{◌∙◌, ap, map}
use Rattle.std.specs.Prelude.{slice_get, unwrap_or}
use Rattle.xf_form_refusals.specs.Rows.{shown}
use Rattle.xf_form.specs.Submissions.{first_from}
use Rattle.xf_form.specs.Tables.{submissions_of}
use Rattle.xf_form.proofs.tables.first_at.Goals as goal

pub returns : goal.returns
returns c =
    let all = submissions_of c.args.plan.now.decimals c.args.plan.now.prefixes.now (map shown c.args.plan.now.rows.now) in
    c.first_of.ensures all c.requires.firsts ∙ ap (first_from 0 all) (c.model_at.ensures ∙ ap (λ l. unwrap_or (slice_get l c.args.place) 0) c.requires.scopes)

use Rattle.std.proofs.Common.{◌≡◌, [], map, drop}
use Rattle.xf_form_refusals.specs.Rows.{shown}
use Rattle.xf_form.specs.Scopes.{given_from, own_model}
use Rattle.xf_form.proofs.scopes.models_of.Given as goal

abbrev pub invariant-loop-place : goal.invariant-loop-place
invariant-loop-place l =
    let all = map shown l.rows in
    given_from l.models.items (own_model all) l.place (map shown (drop l.place l.rows)) ≡ given_from [] (own_model all) 0 all

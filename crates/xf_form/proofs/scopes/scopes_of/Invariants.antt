use Rattle.std.proofs.Common.{◌≡◌, [], map, drop}
use Rattle.xf_form_refusals.specs.Rows.{shown}
use Rattle.xf_form.specs.Scopes.{given_from, own_scope}
use Rattle.xf_form.proofs.scopes.scopes_of.Given as goal

abbrev pub invariant-loop-place : goal.invariant-loop-place
invariant-loop-place l =
    let all = map shown l.plan.rows.now in
    let own = own_scope l.plan.prefixes.now all in
    given_from l.all.items own l.place (map shown (drop l.place l.plan.rows.now)) ≡ given_from [] own 0 all

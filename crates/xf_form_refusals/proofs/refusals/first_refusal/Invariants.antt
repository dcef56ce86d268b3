use Rattle.std.proofs.Common.{◌≡◌, map, drop}
use Rattle.xf_form_refusals.specs.Decimals.{decimals_of}
use Rattle.xf_form_refusals.specs.Refusals.{first_from, first_model}
use Rattle.xf_form_refusals.specs.Rows.{shown}
use Rattle.xf_form_refusals.proofs.refusals.first_refusal.Given as goal

abbrev pub invariant-loop-place : goal.invariant-loop-place
invariant-loop-place l =
    let all = map shown l.rows in
    let d = decimals_of l.prefixes all in
    first_from d l.prefixes all (first_model all) 0 all ≡ first_from d l.prefixes all (first_model all) l.place (map shown (drop l.place l.rows))

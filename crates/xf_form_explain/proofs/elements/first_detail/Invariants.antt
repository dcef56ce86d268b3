use Rattle.std.proofs.Common.{◌≡◌, map, drop}
use Rattle.xf_form_refusals.specs.Rows.{shown}
use Rattle.xf_form_explain.specs.Details.{detail_from}
use Rattle.xf_form_explain.proofs.elements.first_detail.Given as goal

abbrev pub invariant-loop-place : goal.invariant-loop-place
invariant-loop-place l =
    let s = l.search in
    let all = map shown s.rows.now in
    detail_from s.number s.decimals s.prefixes.now all s.first_model 0 all ≡ detail_from s.number s.decimals s.prefixes.now all s.first_model l.place (map shown (drop l.place s.rows.now))

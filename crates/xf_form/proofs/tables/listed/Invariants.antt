use Rattle.std.proofs.Common.{◌≡◌, ◌++◌, map, drop, ℕ}
use Rattle.xf_form_refusals.specs.Rows.{Seen, shown}
use Rattle.xf_form.specs.Numbers.{number_of}
use Rattle.xf_form.specs.Tables.{each_from}
use Rattle.xf_form.proofs.tables.listed.Given as goal

abbrev pub invariant-loop-place : goal.invariant-loop-place
invariant-loop-place l =
    let all = map shown l.plan.rows.now in
    let own = λ (place : ℕ) (r : Seen). number_of all place in
    l.all ++ each_from l.class own l.place (map shown (drop l.place l.plan.rows.now)) ≡ each_from l.class own 0 all

use Rattle.std.proofs.Common.{◌≡◌, ◌++◌, map, drop}
use Rattle.xf_form_refusals.specs.Rows.{shown}
use Rattle.xf_form_refusals.specs.declared.classes.Class.TheVariants as class
use Rattle.xf_form.specs.Models.{bind_of}
use Rattle.xf_form.specs.Tables.{each_from}
use Rattle.xf_form.proofs.tables.binds_of.Given as goal

abbrev pub invariant-loop-place : goal.invariant-loop-place
invariant-loop-place l =
    let all = map shown l.plan.rows.now in
    l.all ++ each_from class.Bind (bind_of l.plan.decimals l.plan.prefixes.now all) l.place (map shown (drop l.place l.plan.rows.now)) ≡ each_from class.Bind (bind_of l.plan.decimals l.plan.prefixes.now all) 0 all

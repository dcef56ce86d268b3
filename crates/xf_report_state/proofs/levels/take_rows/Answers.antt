use Rattle.std.proofs.Common.{◌≡◌, [], length, map, sym, ap, ◌∙◌, arith}
use Rattle.std.specs.Prelude.{unwrap_or}
use Rattle.xf_def_ui.specs.Interface.{interface_of}
use Rattle.xf_def_ui.specs.Rows.{rows_of}
use Rattle.xf_eval_context.specs.Over.{around_over}
use Rattle.xf_report_state.proofs.LevelLaws.{level-there}
use Rattle.xf_report_state.proofs.levels.take_rows.Goals as goal

pub returns-then-level-repeat-clause-rows : goal.returns-then-level-repeat-clause-rows
returns-then-level-repeat-clause-rows c =
    let f = interface_of c.args.over.now.form.now in
    let a = around_over c.args.over.now in
    let l = c.in-Some.level in
    let same : l.repeat ≡ c.args.repeat = omega (arith, c.if-level-repeat.true) in
    level-there f a [] c.args.levels.now.items (length c.args.outer.now) l c.requires.levels (sym c.in-Some.ensures.level)
    ∙ ap (λ chain. unwrap_or (rows_of f a chain l.repeat) []) c.requires.outer
    ∙ ap (λ r. unwrap_or (rows_of f a (map (λ n. n.number) c.args.outer.now) r) []) same

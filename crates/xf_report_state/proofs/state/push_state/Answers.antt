use Rattle.std.proofs.Common.{◌++◌, map, sym, ap, ◌∙◌}
use Rattle.std.specs.Prelude.{string_bytes}
use Rattle.xf_def_forest.proofs.TextLaws.{in_forest}
use Rattle.xf_eval_context.specs.Indexes.{seen_index}
use Rattle.xf_controls.specs.Seen.{seen_copy}
use Rattle.xf_report.proofs.AnswerLaws.{then-ok}
use Rattle.xf_report_state.proofs.PartLaws.{state-is}
use Rattle.xf_report_state.proofs.state.push_state.Goals as goal

pub returns : goal.returns
returns g c =
    let m = g.M.NodeMarks.marks_of c.args.marks.now in
    then-ok c.push_parts.result (λ e p s is.
    e ∙ ap (λ l. string_bytes c.args.text.now ++ l)
    (sym (state-is p s c.args.over.now m (map seen_copy c.args.controls.now) (map seen_index c.args.indexes.now) c.args.cases.now (in_forest c.are_trees.ensures) is))) c.push_parts.ensures

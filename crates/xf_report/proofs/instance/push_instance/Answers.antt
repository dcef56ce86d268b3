use Rattle.std.proofs.Common.{◌++◌, ◌∙◌, ap, sym}
use Rattle.std.specs.Prelude.{string_bytes}
use Rattle.xf_def_forest.proofs.TextLaws.{in_forest}
use Rattle.xf_report.specs.Lines.{block_text}
use Rattle.xf_report.proofs.AnswerLaws.{then-ok}
use Rattle.xf_report.proofs.LineLaws.{instance-lines}
use Rattle.xf_report.proofs.instance.push_instance.Goals as goal

pub returns : goal.returns
returns g c =
    let old = string_bytes c.args.text.now in
    let m = g.M.NodeMarks.marks_of c.args.marks.now in
    let forest = c.args.forest.now.forest in
    then-ok c.push_block.result (λ e s is.
    e ∙ ap (λ p. old ++ block_text m forest.nodes c.args.place p) c.pair_among-pair.ensures
    ∙ ap (λ l. old ++ l) (sym (instance-lines s forest c.args.instances.now m c.args.place (in_forest c.are_trees.ensures) is))) c.push_block.ensures

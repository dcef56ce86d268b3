use Rattle.std.proofs.Common.{ℕ, ◌<◌, length, ◌∙◌, arith}
use Rattle.std.specs.Prelude.{string_bytes}
use Rattle.xf_report.specs.Lines.{line_at}
use Rattle.xf_report.proofs.LineLaws.{lines-more}
use Rattle.xf_report.proofs.instance.push_nodes.Goals as goal

pub loop-at-preserved : goal.loop-at-preserved
loop-at-preserved g c =
    let h : c.loop-at.at < length c.args.nodes.now = omega arith in
    record {
      so_far = lines-more (line_at c.args.braces.now (g.M.NodeMarks.marks_of c.args.marks.now) c.args.forest.now.forest.nodes) (string_bytes c.loop-at.text) (string_bytes c.push_node.new.text) _ c.args.nodes.now c.loop-at.at c.at.result.number
          h c.at.ensures c.in_ok-push_node.ensures.text c.loop-at.invariant.so_far;
      same = c.in_ok-push_node.ensures.forest ∙ c.loop-at.invariant.same;
    }

use Rattle.std.proofs.Common.{◌≡◌, ◌<◌, ◌++◌, length, ap, ◌∙◌, arith}
use Rattle.std.specs.Prelude.{string_bytes}
use Rattle.xf_report.specs.Lines.{block_of, block_text}
use Rattle.xf_report.proofs.InstanceLaws.{blocks-more}
use Rattle.xf_report.proofs.instance.push_instances.Goals as goal

pub loop-place-preserved : goal.loop-place-preserved
loop-place-preserved g c =
    let m = g.M.NodeMarks.marks_of c.args.marks.now in
    let nodes = c.args.forest.now.forest.nodes in
    let instances = c.args.instances.now in
    let h : c.loop-place.place < length instances = omega arith in
    blocks-more (block_of m nodes instances) (string_bytes c.loop-place.text) (string_bytes c.push_block.new.text) _ c.loop-place.place (length instances) h
    (c.in_ok-push_block.ensures ∙ ap (λ p. string_bytes c.loop-place.text ++ block_text m nodes c.loop-place.place p) c.pair_among-pair.ensures) c.loop-place.invariant

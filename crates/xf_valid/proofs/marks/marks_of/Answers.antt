use Rattle.std.proofs.Common.{sym, ap, ◌∙◌, subst}
use Rattle.std.specs.List.{list_all}
use Rattle.xf_def_forest.specs.declared.node.NodeId.{NodeId}
use Rattle.xf_def_forest.specs.Forest.{has_number}
use Rattle.xf_valid.specs.Chain.{AreTold}
use Rattle.xf_valid.specs.Nodes.{marks_in, relevant_in, readonly_in}
use Rattle.xf_valid.proofs.Told.{live-at, marked-more, marks-same, told-more}
use Rattle.xf_valid.proofs.marks.marks_of.Goals as goal

pub pass-passed-requires-clause-live : goal.pass-passed-requires-clause-live
pass-passed-requires-clause-live c =
    let nodes = c.args.forest.now.forest.nodes in
    live-at c.as_slice-node-items.result.now c.loop-node.node-index _ nodes (ap (list_all (λ n. has_number n nodes)) c.as_slice-node-items.ensures ∙ c.requires) c.loop-node-test.true

pub loop-node-preserved : goal.loop-node-preserved
loop-node-preserved c =
    let table = c.args.table.now in
    let nodes = c.args.forest.now.forest.nodes in
    let passed = c.pass-passed.result in
    record {
      told =
          subst (AreTold table nodes) (sym c.in_ok-push.ensures.items)
          (told-more table nodes c.pass-passed.new.chain.items passed c.pass-passed.ensures.told
          (c.pass-passed.ensures.relevant ∙ ap (λ (n : NodeId). relevant_in table nodes n.number) (sym c.pass-passed.ensures.node))
          (c.pass-passed.ensures.readonly ∙ ap (λ (n : NodeId). readonly_in table nodes n.number) (sym c.pass-passed.ensures.node)));
      so_far =
          marked-more (marks_in table nodes) c.as_slice-node-items.result.now c.loop-node.node-index _ c.loop-node.marks.items c.push-in-loop-node.new.self.items _ c.loop-node-test.true c.loop-node.invariant.so_far
          c.in_ok-push-2.ensures.items
          (marks-same _ _ _ _ _ _ _ _ c.pass-passed.ensures.relevant c.pass-passed.ensures.readonly c.is_required.ensures c.is_valid.ensures);
    }

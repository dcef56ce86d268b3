use Rattle.std.proofs.Common.{◌++◌, ◌∷◌, [], ◌+◌, get_or, ap, ◌∙◌}
use Rattle.xf_def_forest.specs.declared.node.NodeId.{NodeId}
use Rattle.xf_def_xpath.specs.Agree.{are_apart}
use Rattle.xf_binds_apply.proofs.StandingLaws.{numbers-next, placed-next}
use Rattle.xf_binds_apply.proofs.standings.Standings.add.Goals as goal

pub loop-node-preserved : goal.loop-node-preserved
loop-node-preserved c =
    let ids = c.as_slice-node-items.result.now in
    let none : NodeId = record { number = 0; place = 0 } in
    record {
      position = ap (λ k. k + 1) c.loop-node.invariant.position;
      size = c.loop-node.invariant.size;
      within = c.loop-node.invariant.within;
      nodes = c.in_ok-push.ensures.ok ∙ ap (λ l. l ++ (get_or ids c.loop-node.node-index none).number ∷ []) c.loop-node.invariant.nodes ∙ numbers-next ids c.loop-node.node-index none c.args.self.now.nodes c.loop-node-test.true;
      places = placed-next ids c.loop-node.node-index none c.args.self.now.places c.loop-node.self.places c.place.new.places (c.loop-node.position + 1) c.len-size.result (ap are_apart c.as_slice-node-items.ensures ∙ c.requires) c.loop-node-test.true
          (ap (λ k. k + 1) c.loop-node.invariant.position) c.loop-node.invariant.size c.loop-node.invariant.places c.in_ok-place.ensures;
    }

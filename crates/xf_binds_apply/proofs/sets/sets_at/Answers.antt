use Rattle.std.proofs.Common.{[], None, ap, ◌∙◌, subst}
use Rattle.std.specs.List.{list_all}
use Rattle.std.proofs.lemmas.List.{take_all}
use Rattle.xf_def_forest.specs.declared.node.NodeId.{NodeId}
use Rattle.xf_def_forest.specs.Shape.{shape_of}
use Rattle.xf_def_xpath.specs.Reads.{trace}
use Rattle.xf_def_model.specs.Nested.{set_from}
use Rattle.xf_eval.proofs.Lives.{live-is, live-item}
use Rattle.xf_eval_shape.specs.Woven.{is_shown}
use Rattle.xf_eval_shape.proofs.Bounds.{all-append}
use Rattle.xf_binds_apply.specs.Standing.{AreSets}
use Rattle.xf_binds_apply.specs.Reached.{scope_in, sets_at}
use Rattle.xf_binds_apply.proofs.SetLaws.{sets-next}
use Rattle.xf_binds_apply.proofs.StandingLaws.{numbers}
use Rattle.xf_binds_apply.proofs.sets.sets_at.Goals as goal

pub set_at-requires-clause-live : goal.set_at-requires-clause-live
set_at-requires-clause-live g c =
    let nodes = c.args.forest.now.forest.nodes in
    let none : NodeId = record { number = 0; place = 0 } in
    live-item c.as_slice-node-items.result.now c.loop-node.node-index none nodes (live-is nodes c.as_slice-node-items.ensures c.requires.from) c.loop-node-test.true

pub loop-node-preserved : goal.loop-node-preserved
loop-node-preserved g c =
    let nodes = c.args.forest.now.forest.nodes in
    let one = set_from None (scope_in (g.A.Around.given c.args.around.now) [] c.args.model) (shape_of nodes) (trace c.args.node_set.now) in
    let none : NodeId = record { number = 0; place = 0 } in
    record {
      so_far = sets-next one c.as_slice-node-items.result.now c.loop-node.node-index none c.loop-node.sets.places c.add.new.self.places c.loop-node.sets.nodes c.add.new.self.nodes c.in_ok-set.set
          c.loop-node-test.true c.in_ok-set.ensures.value c.loop-node.invariant.so_far c.in_ok-add.ensures.sets;
      shown = ap (list_all (is_shown nodes)) c.in_ok-add.ensures.nodes ∙ all-append (is_shown nodes) c.loop-node.sets.nodes c.in_ok-set.set c.loop-node.invariant.shown c.in_ok-set.ensures.shown;
    }

pub returns-clause-sets : goal.returns-clause-sets
returns-clause-sets g c =
    let nodes = c.args.forest.now.forest.nodes in
    subst (λ ns. AreSets c.loop-node.sets.nodes c.loop-node.sets.places (sets_at (g.A.Around.given c.args.around.now) nodes c.args.model c.args.node_set.now ns))
    (ap numbers (take_all c.loop-node.node-index c.as_slice-node-items.result.now c.loop-node-test.false) ∙ c.as_slice-node-items.ensures) c.loop-node.invariant.so_far

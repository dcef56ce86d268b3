use Rattle.std.proofs.Common.{◌≡◌, List, get_or, sym, ap, ◌∙◌, subst}
use Rattle.std.specs.List.{flat_map}
use Rattle.xf_def_forest.specs.declared.node.NodeId.{NodeId}
use Rattle.xf_def_forest.specs.Shape.{shape_of}
use Rattle.xf_def_model.specs.Applied.{Entry, entries_at, entries_on, properties_of}
use Rattle.xf_def_model.specs.Rules.{rule_of}
use Rattle.xf_binds.specs.Held.{entries_in}
use Rattle.xf_eval.proofs.Lives.{live-is, live-item}
use Rattle.xf_binds_apply.specs.Adding.{Added, Tells, exception_after}
use Rattle.xf_binds_apply.proofs.AddLaws.{added-all, added-next, added-none, added-stop}
use Rattle.xf_binds_apply.proofs.EntryLaws.{by-numbers, stands-nowhere}
use Rattle.xf_binds_apply.proofs.adding.add_bind.Goals as goal

pub add_node-requires : goal.add_node-requires
add_node-requires c =
    let nodes = c.args.forest.now.forest.nodes in
    let none : NodeId = record { number = 0; place = 0 } in
    live-item c.as_slice-node-items.result.now c.loop-node.node-index none nodes (live-is nodes c.as_slice-node-items.ensures c.requires) c.loop-node-test.true

pub loop-node-preserved-in-Ok : goal.loop-node-preserved-in-Ok
loop-node-preserved-in-Ok c = λ given st.
    let all = shape_of c.args.forest.now.forest.nodes in
    let none : NodeId = record { number = 0; place = 0 } in
    let ids = c.as_slice-node-items.result.now in
    let i = c.loop-node.node-index in
    let items = c.in_ok-properties.properties.items in
    let n = (get_or ids i none).number in
    let now = entries_in c.loop-node.applied in
    let after = entries_in c.add_node.new.applied in
    added-next (λ (i : NodeId). flat_map (entries_at c.args.place given i.number) items) all ids i none (entries_in c.args.applied.now) now after c.loop-node-test.true (c.loop-node.invariant given st)
    (subst (λ ps. Added all now (flat_map (entries_at c.args.place given n) ps) after) c.deref.ensures.value (c.in-Ok.ensures given (sym (c.in-Some.ensures ∙ st.each n))))

pub returns-in-Err : goal.returns-in-Err
returns-in-Err c = λ given st.
    let all = shape_of c.args.forest.now.forest.nodes in
    let none : NodeId = record { number = 0; place = 0 } in
    let ids = c.as_slice-node-items.result.now in
    let i = c.loop-node.node-index in
    let items = c.in_ok-properties.properties.items in
    let n = (get_or ids i none).number in
    let now = entries_in c.loop-node.applied in
    let old = entries_in c.args.applied.now in
    let f : NodeId → List Entry = λ i. flat_map (entries_at c.args.place given i.number) items in
    let whole : flat_map f ids ≡ entries_on c.args.place given (properties_of (rule_of c.args.bind.now)) c.args.nodes.now =
    by-numbers (λ k. flat_map (entries_at c.args.place given k) items) ids
    ∙ ap (flat_map (λ k. flat_map (entries_at c.args.place given k) items)) c.as_slice-node-items.ensures
    ∙ ap (λ ps. entries_on c.args.place given ps c.args.nodes.now) c.in_ok-properties.ensures in
    subst (λ l. Tells c.in-Err.e (exception_after all old l)) whole
    (added-stop f all ids i none old now c.in-Err.e c.loop-node-test.true (c.loop-node.invariant given st)
    (subst (λ ps. Tells c.in-Err.e (exception_after all now (flat_map (entries_at c.args.place given n) ps))) c.deref.ensures.value (c.in-Err.ensures given (sym (c.in-Some.ensures ∙ st.each n)))))

pub loop-node-preserved : goal.loop-node-preserved
loop-node-preserved c = λ given st.
    let all = shape_of c.args.forest.now.forest.nodes in
    let none : NodeId = record { number = 0; place = 0 } in
    let ids = c.as_slice-node-items.result.now in
    let i = c.loop-node.node-index in
    let items = c.in_ok-properties.properties.items in
    let n = (get_or ids i none).number in
    let now = entries_in c.loop-node.applied in
    added-next (λ (i : NodeId). flat_map (entries_at c.args.place given i.number) items) all ids i none (entries_in c.args.applied.now) now now c.loop-node-test.true (c.loop-node.invariant given st)
    (subst (λ l. Added all now l now) (sym (stands-nowhere c.args.place given n items (c.in-None.ensures ∙ st.each n))) (added-none all now))

pub returns : goal.returns
returns c = λ given st.
    let all = shape_of c.args.forest.now.forest.nodes in
    let none : NodeId = record { number = 0; place = 0 } in
    let ids = c.as_slice-node-items.result.now in
    let items = c.in_ok-properties.properties.items in
    let now = entries_in c.loop-node.applied in
    let old = entries_in c.args.applied.now in
    let f : NodeId → List Entry = λ i. flat_map (entries_at c.args.place given i.number) items in
    let whole : flat_map f ids ≡ entries_on c.args.place given (properties_of (rule_of c.args.bind.now)) c.args.nodes.now =
    by-numbers (λ k. flat_map (entries_at c.args.place given k) items) ids
    ∙ ap (flat_map (λ k. flat_map (entries_at c.args.place given k) items)) c.as_slice-node-items.ensures
    ∙ ap (λ ps. entries_on c.args.place given ps c.args.nodes.now) c.in_ok-properties.ensures in
    subst (λ l. Added all old l now) whole (added-all f all ids c.loop-node.node-index none old now c.loop-node-test.false (c.loop-node.invariant given st))

use Rattle.std.proofs.Common.{◌≡◌, sym, ap, ◌∙◌, subst}
use Rattle.std.proofs.lemmas.Result.{err_from_is_err_and}
use Rattle.xf_def_forest.specs.declared.node.NodeId.{NodeId}
use Rattle.xf_def_forest.specs.Changes.{root_of}
use Rattle.xf_def_forest.specs.Forest.{Forest}
use Rattle.xf_def_forest.specs.WellFormed.{HasTrees}
use Rattle.xf_def_forest.proofs.TextLaws.{in_forest}
use Rattle.xf_def_machine.specs.Construct.{construct}
use Rattle.xf_def_form.specs.Formed.{profile}
use Rattle.xf_engine_state.specs.Around.{document_below}
use Rattle.xf_engine_state.specs.Does.{Does, Twin}
use Rattle.xf_engine_state.specs.Standing.{state_of}
use Rattle.xf_engine_state.proofs.ResetLaws.{put-is, put-stopped}
use Rattle.xf_engine_state.proofs.work.Work.put_back.Goals as goal

pub returns-in_err-top-clause-done : goal.returns-in_err-top-clause-done
returns-in_err-top-clause-done c =
    let s = state_of c.args.self.now.now in
    let same : c.forest-forest.result.now.forest ≡ c.args.self.now.now.forest = c.forest-forest.ensures ∙ ap (λ (t : Twin). t.now.forest) c.self.view_is in
    let trees : HasTrees c.args.self.now.now.forest = subst HasTrees same (in_forest c.are_trees.ensures) in
    let told = c.in_err-top.field-0.0 in
    let e = err_from_is_err_and c.from_residual.result c.from_residual.ensures.1 in
    rw (e.1, e.2) (put-stopped (construct profile s.form) c.args.instance s c.in-Some.node.number c.in-Some-root.root.number trees
    (c.in-Some.ensures ∙ ap (λ (f : Forest). document_below f.nodes (root_of c.args.instance f.nodes)) same) (c.in-Some-root.ensures ∙ ap (λ (f : Forest). root_of c.args.instance f.nodes) same)
    (Unit {0}) (λ (n : NodeId). n.number) told c.plant_first.new.self.now c.in_err-top.ensures.done)

pub returns-clause-done : goal.returns-clause-done
returns-clause-done c =
    let s = state_of c.args.self.now.now in
    let same : c.forest-forest.result.now.forest ≡ c.args.self.now.now.forest = c.forest-forest.ensures ∙ ap (λ (t : Twin). t.now.forest) c.self.view_is in
    let trees : HasTrees c.args.self.now.now.forest = subst HasTrees same (in_forest c.are_trees.ensures) in
    subst (Does c.attach.result c.attach.new.self.now) (sym (put-is (construct profile s.form) c.args.instance s c.in-Some.node.number c.in-Some-root.root.number trees
    (c.in-Some.ensures ∙ ap (λ (f : Forest). document_below f.nodes (root_of c.args.instance f.nodes)) same) (c.in-Some-root.ensures ∙ ap (λ (f : Forest). root_of c.args.instance f.nodes) same)
    c.in_ok-top.top.number (state_of c.plant_first.new.self.now) (state_of c.detach.new.self.now) c.in_ok-top.ensures.done c.in_ok-detach.ensures.done))
    c.attach.ensures.done

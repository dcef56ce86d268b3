use Rattle.std.proofs.Common.{◌≡◌, Some, sym, ap, ◌∙◌, subst}
use Rattle.std.proofs.lemmas.Result.{err_from_is_err_and}
use Rattle.xf_def_forest.specs.declared.node.NodeId.{NodeId}
use Rattle.xf_def_forest.specs.Changes.{standing}
use Rattle.xf_def_forest.specs.Forest.{Forest}
use Rattle.xf_def_forest.specs.Plant.{contents_of}
use Rattle.xf_engine_state.specs.Does.{Does, Twin}
use Rattle.xf_engine_state.specs.Standing.{state_of}
use Rattle.xf_engine_state.proofs.ReplaceLaws.{replace-stopped, replaced-by}
use Rattle.xf_engine_state.proofs.work.Work.replace.Goals as goal

pub returns-in_err-top-clause-done : goal.returns-in_err-top-clause-done
returns-in_err-top-clause-done c =
    let s = state_of c.args.self.now.now in
    let n = c.args.node.number in
    let same : c.forest.result.now.forest ≡ c.args.self.now.now.forest = c.forest.ensures ∙ ap (λ (t : Twin). t.now.forest) c.self.view_is in
    let stands : standing n s.forest.nodes ≡ Some (c.in-Some.parent.number, c.in-Some.place) = sym (c.in-Some.ensures ∙ ap (λ (f : Forest). standing n f.nodes) same) in
    let told = c.in_err-top.field-0.0 in
    let e = err_from_is_err_and c.from_residual.result c.from_residual.ensures.1 in
    rw (e.1, e.2) (replace-stopped n (contents_of s.form.bindings c.args.lit.now 0 0) s c.in-Some.parent.number c.in-Some.place stands (Unit {0}) (λ (n : NodeId). n.number) told c.plant_literal.new.self.now c.in_err-top.ensures.done)

pub returns-clause-done : goal.returns-clause-done
returns-clause-done c =
    let s = state_of c.args.self.now.now in
    let n = c.args.node.number in
    let same : c.forest.result.now.forest ≡ c.args.self.now.now.forest = c.forest.ensures ∙ ap (λ (t : Twin). t.now.forest) c.self.view_is in
    let stands : standing n s.forest.nodes ≡ Some (c.in-Some.parent.number, c.in-Some.place) = sym (c.in-Some.ensures ∙ ap (λ (f : Forest). standing n f.nodes) same) in
    subst (Does c.attach.result c.attach.new.self.now) (sym (replaced-by n (contents_of s.form.bindings c.args.lit.now 0 0) s c.in-Some.parent.number c.in-Some.place stands
    c.in_ok-top.top.number (state_of c.plant_literal.new.self.now) (state_of c.detach.new.self.now) c.in_ok-top.ensures.done c.in_ok-detach.ensures.done))
    c.attach.ensures.done

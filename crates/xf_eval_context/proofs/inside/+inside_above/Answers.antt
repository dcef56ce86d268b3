use Rattle.std.proofs.Common.{◌≡◌, ◌-◌, suc, map, reverse, sym, ap, ◌∙◌, arith}
use Rattle.std.proofs.lemmas.Result.{err_from_is_err_and}
use Rattle.xf_def_forest.specs.declared.node.NodeId.{NodeId}
use Rattle.xf_def_xpath.specs.declared.fault.EvalFault.TheVariants.{Long, Memory}
use Rattle.xf_def_xpath.specs.Setting.{◌>>=◌}
use Rattle.xf_def_ui.specs.Context.{enter, entered}
use Rattle.xf_def_ui.specs.Elements.{above, element_at, elements_on}
use Rattle.xf_def_ui.specs.Interface.{interface_of}
use Rattle.xf_eval.proofs.Bounded.{gives-same, part-long}
use Rattle.xf_eval_context.specs.Inside.{first_inside, seen_inside}
use Rattle.xf_eval_context.specs.Over.{around_over}
use Rattle.xf_eval_context.proofs.InsideLaws.{inside-more}
use Rattle.xf_eval_context.proofs.inside.+inside_above.Goals as goal

pub returns-in_err-outer : goal.returns-in_err-outer
returns-in_err-outer t c =
    let o = c.args.over.now in
    let f = interface_of o.form.now in
    let a = around_over o in
    let n = c.in-Some.element in
    let s = first_inside (map (λ (x : NodeId). x.number) c.args.rows.now) in
    let deep : c.args.most ≡ suc (c.args.most - 1) = omega (arith, c.if-most-eq0.false) in
    let p = err_from_is_err_and c.from_residual.result c.from_residual.ensures.1 in
    rw (p.1, p.2) (part-long Memory Long _ _ (entered f a s (elements_on f (reverse (above c.args.most f c.args.parent)))) c.in_err-outer.ensures
    (λ h. inside-more f a s c.args.most (c.args.most - 1) n c.args.parent deep c.in-Some.is
    ∙ ap (λ q. entered f a s (elements_on f (reverse (above (c.args.most - 1) f q))) >>= λ u. enter f a u (element_at f n)) (sym c.parent_of.ensures)
    ∙ ap (λ w. w >>= λ u. enter f a u (element_at f n)) h))

pub returns : goal.returns
returns t c =
    let o = c.args.over.now in
    let f = interface_of o.form.now in
    let a = around_over o in
    let n = c.in-Some.element in
    let s = first_inside (map (λ (x : NodeId). x.number) c.args.rows.now) in
    let deep : c.args.most ≡ suc (c.args.most - 1) = omega (arith, c.if-most-eq0.false) in
    gives-same Memory Long seen_inside c.enter.result _ _
    (sym (inside-more f a s c.args.most (c.args.most - 1) n c.args.parent deep c.in-Some.is
    ∙ ap (λ q. entered f a s (elements_on f (reverse (above (c.args.most - 1) f q))) >>= λ u. enter f a u (element_at f n)) (sym c.parent_of.ensures)
    ∙ ap (λ w. w >>= λ u. enter f a u (element_at f n)) c.in_ok-outer.ensures))
    c.enter.ensures

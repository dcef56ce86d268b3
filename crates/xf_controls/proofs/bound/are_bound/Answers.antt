use Rattle.std.proofs.Common.{refl, subst}
use Rattle.xf_def_ui.specs.Interface.{interface_of}
use Rattle.xf_controls.specs.Bound.{AllBound}
use Rattle.xf_controls.proofs.BoundLaws.{bound-all, bound-more, bound-other}
use Rattle.xf_controls.proofs.ShownLaws.{from-false, from-true}
use Rattle.xf_controls.proofs.bound.are_bound.Goals as goal

pub loop-at-preserved : goal.loop-at-preserved
loop-at-preserved c =
    bound-more c.args.form.now c.as_slice-known.result.now c.loop-at.at c.as_slice-element-items.result.now c.element-item.result _ c.as_slice-element-items.ensures refl c.loop-at-test.true c.element-item.is
    (from-true c.is_shown_by.result c.if-not-is_shown_by.false c.is_shown_by.ensures.shown) c.loop-at.invariant

pub returns-then-not-is_shown_by-clause-other : goal.returns-then-not-is_shown_by-clause-other
returns-then-not-is_shown_by-clause-other c =
    subst (λ l. AllBound (interface_of c.args.form.now) l → ⊥) c.as_slice-known.ensures
    (bound-other c.args.form.now c.as_slice-known.result.now c.loop-at.at c.as_slice-element-items.result.now c.element-item.result _ c.as_slice-element-items.ensures refl c.loop-at-test.true c.element-item.is
    (from-false c.is_shown_by.result c.if-not-is_shown_by.true c.is_shown_by.ensures.other))

pub returns-clause-bound : goal.returns-clause-bound
returns-clause-bound c =
    subst (AllBound (interface_of c.args.form.now)) c.as_slice-known.ensures
    (bound-all c.args.form.now c.as_slice-known.result.now c.loop-at.at c.as_slice-element-items.result.now c.as_slice-element-items.ensures c.loop-at-test.false c.loop-at.invariant)

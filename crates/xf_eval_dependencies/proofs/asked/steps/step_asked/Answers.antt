use Rattle.std.proofs.Common.{true, refl, sym, ap, ◌∙◌, subst}
use Rattle.std.specs.List.{flat_map}
use Rattle.xf_def_xpath.specs.AskedSteps.{is_pair, kind_read, read_if, tells_kinds}
use Rattle.xf_def_xpath.specs.Asked.{read_for}
use Rattle.xf_eval_shape.specs.Over.{shape_at}
use Rattle.xf_def_xpath.specs.Steps.{begun_at}
use Rattle.xf_eval_shape.specs.Spots.{AreSpots, numbers_at, shaped}
use Rattle.xf_eval_dependencies.proofs.AskedLemmas.Spotted.{if-shown, kinds-shown, reads-shown}
use Rattle.xf_eval_dependencies.proofs.AskedLemmas.Tellings.{reads-stand}
use Rattle.xf_eval_dependencies.proofs.AskedLemmas.Steppings.{step-below, step-here}
use Rattle.xf_eval_dependencies.proofs.asked.steps.step_asked.Goals as goal

pub returns-then-not-step-clause-tells : goal.returns-then-not-step-clause-tells
returns-then-not-step-clause-tells g c =
    let nodes = c.args.forest.now.forest.nodes in
    let s = shape_at (g.A.Around.given c.args.around.now) nodes c.args.context.now in
    λ a t. step-here nodes s refl c.args.step.now c.args.asked _ a t c.if-not-step.true c.is_loose_after-is_loose.ensures refl
    c.deref.result.now c.deref.ensures.value c.in_ok-push_from.ensures.reads c.in_ok-push_from.ensures.looks
    c.deref-then-not-step.result.now c.deref-then-not-step.ensures.value c.in_ok-stepped.ensures.value

pub returns-then-not-step-clause-stands : goal.returns-then-not-step-clause-stands
returns-then-not-step-clause-stands g c =
    let f = c.args.forest.now.forest in
    let step = c.args.step.now in
    let from = c.deref.result.now in record {
      set = c.in_ok-stepped.ensures.spots;
      reads = reads-stand f.nodes c.args.asked.reads (read_if (tells_kinds step.is_written step.axis step.test) (flat_map (kind_read step.axis (shaped f.nodes)) (numbers_at from))) _ c.in_ok-push_from.ensures.reads
          c.requires.stands.reads
          (if-shown f.nodes (tells_kinds step.is_written step.axis step.test) _ (kinds-shown f c.is_sound.ensures step.axis from (subst (AreSpots f.nodes) (sym c.deref.ensures.value) c.requires.stands.set)));
    }

pub returns-clause-tells : goal.returns-clause-tells
returns-clause-tells g c =
    let nodes = c.args.forest.now.forest.nodes in
    let s = shape_at (g.A.Around.given c.args.around.now) nodes c.args.context.now in
    λ a t. step-below nodes s refl c.args.step.now c.args.asked _ a t c.if-not-step.false c.is_loose_after-is_loose.ensures refl
    c.in_ok-below.below.items (c.in_ok-below.ensures.value ∙ ap (λ spots. begun_at true (shaped nodes) (numbers_at spots)) c.deref-2.ensures.value)
    c.deref-3.result.now c.deref-3.ensures.value _ c.in_ok-push_from-2.ensures.reads _ c.in_ok-push_from-2.ensures.looks
    c.deref-4.result.now c.deref-4.ensures.value c.in_ok-push_above.ensures.reads c.in_ok-push_above.ensures.looks
    c.deref-5.result.now c.deref-5.ensures.value c.in_ok-stepped-2.ensures.value

pub returns-clause-stands : goal.returns-clause-stands
returns-clause-stands g c =
    let f = c.args.forest.now.forest in
    let step = c.args.step.now in
    let from = c.deref-3.result.now in
    let above = c.deref-4.result.now in record {
      set = c.in_ok-stepped-2.ensures.spots;
      reads = reads-stand f.nodes c.push_from-2.new.reads (read_if (is_pair step.is_below step.axis) (flat_map (read_for (shaped f.nodes)) (numbers_at above))) _ c.in_ok-push_above.ensures.reads
          (reads-stand f.nodes c.args.asked.reads (read_if (tells_kinds step.is_written step.axis step.test) (flat_map (kind_read step.axis (shaped f.nodes)) (numbers_at from))) _ c.in_ok-push_from-2.ensures.reads
          c.requires.stands.reads
          (if-shown f.nodes (tells_kinds step.is_written step.axis step.test) _ (kinds-shown f c.is_sound.ensures step.axis from (subst (AreSpots f.nodes) (sym c.deref-3.ensures.value) c.in_ok-below.ensures.spots))))
          (if-shown f.nodes (is_pair step.is_below step.axis) _ (reads-shown f c.is_sound.ensures above (subst (AreSpots f.nodes) (sym c.deref-4.ensures.value) c.requires.stands.set)));
    }

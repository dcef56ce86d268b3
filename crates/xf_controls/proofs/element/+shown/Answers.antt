use Rattle.std.proofs.Common.{◌≡◌, ◌+◌, ◌-◌, suc, drop, sym, ap, ◌∙◌, arith}
use Rattle.std.specs.Prelude.{◌||◌}
use Rattle.std.proofs.lemmas.List.{drop_all}
use Rattle.xf_def_ui.specs.Interface.{interface_of}
use Rattle.xf_controls.specs.Below.{shows, some_shown}
use Rattle.xf_controls.proofs.CodeLaws.{shows-control, shows-none, shows-parts, shown-more}
use Rattle.xf_controls.proofs.element.+shown.Goals as goal

pub shows-returns-in_default : goal.shows-returns-in_default
shows-returns-in_default t c = shows-none c.args.form.now c.args.most c.args.element c.in_default.ensures

pub shows-returns-then-is_control : goal.shows-returns-then-is_control
shows-returns-then-is_control t c =
    let more : c.args.most ≡ suc (c.args.most - 1) = omega (arith, c.if-most-eq0.false) in
    shows-control c.args.form.now c.args.most (c.args.most - 1) c.args.element c.in-Some.here.now more c.in-Some.ensures (sym c.is_control.ensures ∙ c.if-is_control.true)

pub shows-returns : goal.shows-returns
shows-returns t c =
    let more : c.args.most ≡ suc (c.args.most - 1) = omega (arith, c.if-most-eq0.false) in
    c.some_shown.ensures ∙ ap (some_shown (shows (c.args.most - 1) (interface_of c.args.form.now))) c.as_slice.ensures
    ∙ shows-parts c.args.form.now c.args.most (c.args.most - 1) c.args.element c.in-Some.here.now more c.in-Some.ensures (sym c.is_control.ensures ∙ c.if-is_control.false)

pub some_shown-returns-then-is_shown : goal.some_shown-returns-then-is_shown
some_shown-returns-then-is_shown t c =
    let further = shows c.args.most (interface_of c.args.form.now) in
    let ps = c.args.parts.now in
    sym (c.loop-part.invariant ∙ shown-more further ps c.loop-part.part-index c.part-item.result c.loop-part-test.true c.part-item.is
    ∙ ap (λ b. b || some_shown further (drop (c.loop-part.part-index + 1) ps)) (sym c.is_shown.ensures ∙ c.if-is_shown.true))

pub some_shown-loop-part-preserved : goal.some_shown-loop-part-preserved
some_shown-loop-part-preserved t c =
    let further = shows c.args.most (interface_of c.args.form.now) in
    let ps = c.args.parts.now in
    c.loop-part.invariant ∙ shown-more further ps c.loop-part.part-index c.part-item.result c.loop-part-test.true c.part-item.is
    ∙ ap (λ b. b || some_shown further (drop (c.loop-part.part-index + 1) ps)) (sym c.is_shown.ensures ∙ c.if-is_shown.false)

pub some_shown-returns : goal.some_shown-returns
some_shown-returns t c =
    let further = shows c.args.most (interface_of c.args.form.now) in
    sym (c.loop-part.invariant ∙ ap (some_shown further) (drop_all c.loop-part.part-index c.args.parts.now c.loop-part-test.false))

use Rattle.std.proofs.Common.{sym, ◌∙◌, subst}
use Rattle.xf_events.specs.declared.handlers.Stage.{Stage}
use Rattle.xf_events.specs.Handlers.{Adds, one_where}
use Rattle.xf_events.proofs.HandlerLaws.{adds-none, adds-one}
use Rattle.xf_events.proofs.handlers.push_handler.Goals as goal

pub returns-then-not-hears : goal.returns-then-not-hears
returns-then-not-hears c =
    let s = c.args.all.now in
    subst (λ b. Adds s s (one_where b (c.args.number, c.args.handler.now))) (sym (sym c.hears.ensures ∙ c.if-not-hears.true)) (adds-none s)

pub returns : goal.returns
returns c =
    let s = c.args.all.now in
    let h = c.args.handler.now in
    let n = c.args.number in
    let t : Stage = record { handlers = c.push.new.self; stops = c.either-all.result; cancels = c.either-all-2.result } in
    subst (λ b. Adds s t (one_where b (n, h))) (sym (sym c.hears.ensures ∙ c.if-not-hears.false))
    (adds-one s t n h c.in_ok-push.ensures.ok c.either-all.ensures c.either-all-2.ensures)

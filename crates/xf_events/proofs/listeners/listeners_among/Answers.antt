use Rattle.std.proofs.Common.{map, ◌∙◌}
use Rattle.xf_events.specs.Listeners.{seen_listener}
use Rattle.xf_events.proofs.HandlerLaws.{named-next}
use Rattle.xf_events.proofs.listeners.listeners_among.Goals as goal

pub loop-element-preserved : goal.loop-element-preserved
loop-element-preserved c = λ tables.
    named-next c.args.name.now c.loop-element.number c.loop-element.element-index tables c.args.elements.now c.element-item.result
    (map seen_listener c.loop-element.all.items) (map seen_listener c.push_named.new.all.items) c.loop-element-test.true c.element-item.is c.in_ok-push_named.ensures
    ∙ c.loop-element.invariant tables

use Rattle.std.proofs.Common.{◌++◌, ◌∙◌, ap, sym}
use Rattle.xf_def_forest.specs.Visit.{visits, ancestors_of}
use Rattle.xf_binds_rebuild.proofs.Above.{number_in, up_from, up-live, up-next, up-parent, up-shorter}
use Rattle.xf_binds_rebuild.proofs.Expressions.{append-none}
use Rattle.xf_binds_rebuild.proofs.web.above.Goals as goal

pub loop-next-init : goal.loop-next-init
loop-next-init c =
    ap (λ l. l ++ up_from (visits c.args.forest.now.forest.nodes) (number_in c.parent-next.result)) c.new-above.ensures
    ∙ up-parent c.args.forest.now.forest c.args.node.number (number_in c.parent-next.result) c.is_sound.ensures.trees c.parent-next.ensures

pub parent-next-requires-in-Some : goal.parent-next-requires-in-Some
parent-next-requires-in-Some c =
    record { live = up-live c.args.forest.now.forest c.args.node.number c.loop-next.above c.in-Some.ancestor.number (number_in c.loop-next.next) (ap number_in c.in-Some.is) c.loop-next.invariant }

pub loop-next-preserved : goal.loop-next-preserved
loop-next-preserved c =
    ap (λ l. l ++ up_from (visits c.args.forest.now.forest.nodes) (number_in c.parent-next-in-Some.result)) c.in_ok-push.ensures.ok
    ∙ up-next c.args.forest.now.forest c.loop-next.above c.in-Some.ancestor.number (number_in c.loop-next.next) (number_in c.parent-next-in-Some.result)
    (ancestors_of c.args.node.number (visits c.args.forest.now.forest.nodes)) c.is_sound.ensures.trees (ap number_in c.in-Some.is) c.parent-next-in-Some.ensures c.loop-next.invariant

pub loop-next-smaller : goal.loop-next-smaller
loop-next-smaller c =
    up-shorter c.args.forest.now.forest c.in-Some.ancestor.number (number_in c.loop-next.next) (number_in c.parent-next-in-Some.result) c.is_sound.ensures.trees (ap number_in c.in-Some.is)
    c.parent-next-in-Some.ensures

pub returns : goal.returns
returns c =
    sym (append-none c.loop-next.above)
    ∙ ap (λ q. c.loop-next.above ++ up_from (visits c.args.forest.now.forest.nodes) q) (sym (ap number_in c.in_default.is))
    ∙ c.loop-next.invariant

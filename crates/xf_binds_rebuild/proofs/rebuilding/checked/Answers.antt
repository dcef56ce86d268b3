use Rattle.std.proofs.Common.{◌∙◌, Some, ap, sym, subst}
use Rattle.xf_def_forest.specs.Visit.{visits}
use Rattle.xf_binds.specs.Held.{entries_in}
use Rattle.xf_binds_rebuild.specs.Links.{sources_in}
use Rattle.xf_binds_rebuild.specs.Order.{IsInOrder, ring_in, turns_in}
use Rattle.xf_binds_rebuild.proofs.Rebuilds.{over-checked, ring-checked, all-checked}
use Rattle.xf_binds_rebuild.proofs.Turns.{turns-found}
use Rattle.xf_binds_rebuild.proofs.rebuilding.checked.Goals as goal

pub returns-then-asked_with-gt-EDGE_LIMIT-clause-answer : goal.returns-then-asked_with-gt-EDGE_LIMIT-clause-answer
returns-then-asked_with-gt-EDGE_LIMIT-clause-answer c =
    over-checked c.args.forest.now.forest c.is_sound.ensures c.args.model c.args.table.now (entries_in c.args.applied.now) c.args.web.now c.asked_with.result c.asked_with.ensures c.if-asked_with-gt-EDGE_LIMIT.true

pub returns-in-Ring-clause-answer : goal.returns-in-Ring-clause-answer
returns-in-Ring-clause-answer c =
    ring-checked c.args.forest.now.forest c.is_sound.ensures c.args.model c.args.table.now (entries_in c.args.applied.now) c.args.web.now c.asked_with.result c.in-Ring.nodes c.asked_with.ensures
    c.if-asked_with-gt-EDGE_LIMIT.false (sym (ap ring_in c.in-Ring.is) ∙ c.in_ok-sorting.ensures.ring)

pub returns-in-InTurn-clause-answer : goal.returns-in-InTurn-clause-answer
returns-in-InTurn-clause-answer c =
    all-checked c.args.forest.now.forest c.is_sound.ensures c.args.model c.args.table.now (entries_in c.args.applied.now) c.args.web.now c.asked_with.result c.asked_with.ensures
    c.if-asked_with-gt-EDGE_LIMIT.false (sym (ap ring_in c.in-InTurn.is) ∙ c.in_ok-sorting.ensures.ring)

pub returns-in-InTurn-clause-turns : goal.returns-in-InTurn-clause-turns
returns-in-InTurn-clause-turns c =
    let entries = entries_in c.args.applied.now in
    let web = c.args.web.now in
    let forest = c.args.forest.now.forest in
    turns-found forest c.is_sound.ensures entries c.requires.there c.requires.small web c.in-InTurn.nodes
    (subst (λ s. IsInOrder (sources_in (visits forest.nodes) entries web) (turns_in s)) c.in-InTurn.is c.in_ok-sorting.ensures.turns)

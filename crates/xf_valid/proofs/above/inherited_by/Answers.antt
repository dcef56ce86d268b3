use Rattle.std.proofs.Common.{◌∷◌, true, false, sym, ◌∙◌}
use Rattle.xf_def_forest.specs.Forest.{has_number}
use Rattle.xf_def_forest.specs.Visit.{visits, ancestors_of}
use Rattle.xf_valid.proofs.Dead.{not-live, relevant-dead, readonly-dead}
use Rattle.xf_valid.proofs.Unset.{closed-relevant, closed-readonly}
use Rattle.xf_valid.proofs.above.inherited_by.Goals as goal

pub returns-then-not-is_open-clause-relevant : goal.returns-then-not-is_open-clause-relevant
returns-then-not-is_open-clause-relevant c =
    let n = c.args.node.number in
    sym (closed-relevant c.args.table.now c.looks_of-looks.result (record { relevant = true; readonly = false }) (n ∷ ancestors_of n (visits c.args.forest.now.forest.nodes)) c.looks_of-looks.ensures (sym c.is_open-is_open.ensures ∙ c.if-not-is_open.true))

pub returns-then-not-is_open-clause-readonly : goal.returns-then-not-is_open-clause-readonly
returns-then-not-is_open-clause-readonly c =
    let n = c.args.node.number in
    sym (closed-readonly c.args.table.now c.looks_of-looks.result (record { relevant = true; readonly = false }) (n ∷ ancestors_of n (visits c.args.forest.now.forest.nodes)) c.looks_of-looks.ensures (sym c.is_open-is_open.ensures ∙ c.if-not-is_open.true))

pub returns-then-not-is_live-clause-relevant : goal.returns-then-not-is_live-clause-relevant
returns-then-not-is_live-clause-relevant c =
    let nodes = c.args.forest.now.forest.nodes in
    let gone = not-live (has_number c.args.node.number nodes) c.is_live.result c.is_live.ensures.1 c.if-not-is_live.true in
    c.own.ensures ∙ sym (relevant-dead c.args.table.now nodes c.args.node.number gone)

pub returns-then-not-is_live-clause-readonly : goal.returns-then-not-is_live-clause-readonly
returns-then-not-is_live-clause-readonly c =
    let nodes = c.args.forest.now.forest.nodes in
    let gone = not-live (has_number c.args.node.number nodes) c.is_live.result c.is_live.ensures.1 c.if-not-is_live.true in
    c.own_readonly.ensures ∙ sym (readonly-dead c.args.table.now nodes c.args.node.number gone)

use Rattle.std.proofs.Common.{◌≡◌, [], length, map, sym, ap, ◌∙◌, subst, arith}
use Rattle.std.specs.Prelude.{min}
use Rattle.std.proofs.lemmas.List.{length-map}
use Rattle.xf_def_forest.specs.declared.node.NodeId.{NodeId}
use Rattle.xf_def_ui.specs.Interface.{interface_of}
use Rattle.xf_eval_context.specs.Over.{around_over}
use Rattle.xf_report_state.specs.declared.levels.Level.{Level}
use Rattle.xf_report_state.specs.Levels.{AreLevels, Starts}
use Rattle.xf_report_state.proofs.LevelLaws.{levels-kept, numbers-told}
use Rattle.xf_report_state.proofs.levels.go_to.Goals as goal

pub returns-clause-levels : goal.returns-clause-levels
returns-clause-levels c =
    let f = interface_of c.args.over.now.form.now in
    let a = around_over c.args.over.now in
    subst (AreLevels f a []) (sym c.truncate.ensures.items) (levels-kept f a [] c.loop-at.levels.items c.min-depth.result c.loop-at.invariant.levels)

pub returns-clause-numbers : goal.returns-clause-numbers
returns-clause-numbers c =
    let f = interface_of c.args.over.now.form.now in
    let a = around_over c.args.over.now in
    let ls = c.loop-at.levels.items in
    let rs = c.args.repeats.now in
    let ns = map (λ (n : NodeId). n.number) c.args.rows.now in
    let depth = c.min-depth.result in
    let last : c.loop-at.at ≡ depth = omega (arith, c.loop-at-test.false, c.loop-at.auto.at-end) in
    let least : depth ≡ min (length rs) (length ns) = omega (arith, c.min-depth.ensures, length-map c.args.rows.now (λ (n : NodeId). n.number)) in
    ap (map (λ (x : Level). x.number)) c.truncate.ensures.items
    ∙ numbers-told f a ls depth rs ns c.loop-at.invariant.levels (subst (λ k. Starts ls k rs ns) last c.loop-at.invariant.front) least

use Rattle.std.proofs.Common.{◌≡◌, ◌+◌, suc, Some, option_map, sym, ap, ◌∙◌, arith}
use Rattle.std.specs.Prelude.{option_and_then}
use Rattle.xf_def_forest.specs.declared.node.NodeId.{NodeId}
use Rattle.xf_def_ui.specs.Index.{place_in}
use Rattle.xf_repeat.proofs.PlaceLaws.{kept-none, kept-some}
use Rattle.xf_repeat.proofs.rule.kept_index.Goals as goal

pub returns-in-Some-position : goal.returns-in-Some-position
returns-in-Some-position c =
    let rows = c.args.rows.now in
    let k = c.in-Some-position.place in
    let next : k + 1 ≡ suc k = omega arith in
    ap Some next ∙ kept-some c.in-Some.node.number rows k c.in-Some-position.ensures
    ∙ sym (ap (λ o. option_and_then (place_in rows) (option_map (λ (n : NodeId). n.number) o)) c.in-Some.is)

pub returns-in-None-position : goal.returns-in-None-position
returns-in-None-position c =
    let rows = c.args.rows.now in
    kept-none c.in-Some.node.number rows c.in-None-position.ensures
    ∙ sym (ap (λ o. option_and_then (place_in rows) (option_map (λ (n : NodeId). n.number) o)) c.in-Some.is)

use Rattle.std.proofs.Common.{ap, sym, ◌∙◌, bytes_eq}
use Rattle.xf_def_forest.specs.Visit.{visits}
use Rattle.xf_def_forest.proofs.PieceLaws.{whole-value}
use Rattle.xf_engine_state.proofs.setting.is_value.Goals as goal

pub returns-in-Some : goal.returns-in-Some
returns-in-Some c =
    c.eq.ensures
    ∙ ap (λ value. bytes_eq value c.args.text.now) (whole-value c.args.node.number (visits c.args.forest.now.forest.nodes) c.in-Some.value.now (sym c.in-Some.ensures))

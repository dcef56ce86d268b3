use Rattle.std.proofs.Common.{map, Some, sym, ap, ◌∙◌}
use Rattle.xf_def_ui.specs.Index as ui
use Rattle.xf_def_ui.specs.Interface.{interface_of}
use Rattle.xf_eval_context.specs.Indexes.{seen_index}
use Rattle.xf_eval_context.proofs.IndexLaws.{among-here, among-later}
use Rattle.xf_eval_context.proofs.indexes.index_among.Goals as goal

pub loop-repeat-preserved : goal.loop-repeat-preserved
loop-repeat-preserved c =
    c.loop-repeat.invariant
    ∙ among-later (interface_of c.args.form.now) (map seen_index c.args.indexes.now) c.args.id.now c.args.repeats.now c.loop-repeat.repeat-index _ c.loop-repeat-test.true (sym c.has_id.ensures ∙ c.if-has_id.false)

pub returns-then-has_id : goal.returns-then-has_id
returns-then-has_id c =
    ap (λ (i : ui.Index). Some i.index) c.index_of.ensures
    ∙ sym (c.loop-repeat.invariant
    ∙ among-here (interface_of c.args.form.now) (map seen_index c.args.indexes.now) c.args.id.now c.args.repeats.now c.loop-repeat.repeat-index _ c.loop-repeat-test.true (sym c.has_id.ensures ∙ c.if-has_id.true))

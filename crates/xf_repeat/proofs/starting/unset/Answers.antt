use Rattle.std.proofs.Common.{map, ap, ◌∙◌}
use Rattle.std.proofs.lemmas.Result.{IfOk-weaker}
use Rattle.xf_eval_context.specs.Indexes.{seen_index}
use Rattle.xf_repeat.proofs.StartLaws.{all-unset}
use Rattle.xf_repeat.proofs.starting.unset.Goals as goal

pub returns : goal.returns
returns c = IfOk-weaker c.from_elem.result _ _ (λ indexes h. ap (map seen_index) (h (λ y same. same)) ∙ all-unset c.args.repeats.now) c.from_elem.ensures.items_if_clones_equal

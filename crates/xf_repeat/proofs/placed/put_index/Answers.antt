use Rattle.std.proofs.Common.{map, ap, ◌∙◌}
use Rattle.std.specs.Prelude.{slice_set}
use Rattle.std.proofs.lemmas.List.{map-set}
use Rattle.xf_eval_context.specs.Indexes.{seen_index}
use Rattle.xf_repeat.proofs.placed.put_index.Goals as goal

pub returns-then-number-indexes : goal.returns-then-number-indexes
returns-then-number-indexes c =
    let all = c.args.indexes.now in
    map-set seen_index all c.number_of-number.result c.args.index ∙ ap (λ k. slice_set (map seen_index all) k (seen_index c.args.index)) c.number_of-number.ensures

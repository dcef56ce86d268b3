use Rattle.std.proofs.Common.{[], ◌∷◌}
use Rattle.std.specs.Prelude.{string_bytes}
use Rattle.xf_def_forest.specs.Forest.{written}
use Rattle.xf_tree_walks.proofs.PathTextLemmas.{joined-two, on-ok}
use Rattle.xf_tree_walks.proofs.path.push_attribute.Goals as goal

pub returns : goal.returns
returns c =
    on-ok c.push_name.result (λ e. joined-two (string_bytes c.args.text.now) _ _ (47 ∷ 64 ∷ []) (written c.args.name.now) c.in_ok-push_str.ensures.bytes e) c.push_name.ensures

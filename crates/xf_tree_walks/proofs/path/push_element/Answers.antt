use Rattle.std.proofs.Common.{[], ◌∷◌, ◌++◌, ap, ◌∙◌, arith}
use Rattle.std.specs.Prelude.{string_bytes}
use Rattle.xf_def_forest.specs.Forest.{written}
use Rattle.xf_tree_walks.specs.Siblings.{index_text}
use Rattle.xf_tree_walks.proofs.PathTextLemmas.{joined, on-ok}
use Rattle.xf_tree_walks.proofs.path.push_element.Goals as goal

pub returns : goal.returns
returns c =
    on-ok c.push_index.result (λ e. joined (string_bytes c.args.text.now) _ _ _ (47 ∷ []) (written c.args.name.now) (index_text c.args.index) (c.in_ok-push.ensures.bytes ∙ ap (λ l. string_bytes c.args.text.now ++ l) (c.in_ok-push.ensures.ascii (omega arith))) c.in_ok-push_name.ensures e) c.push_index.ensures

use Rattle.std.proofs.Common.{codes}
use Rattle.std.specs.Prelude.{string_bytes}
use Rattle.xf_def_forest.specs.Path.{bracketed}
use Rattle.xf_tree_walks.proofs.PathTextLemmas.{joined-two, on-ok}
use Rattle.xf_tree_walks.proofs.path.push_text.Goals as goal

pub returns : goal.returns
returns c =
    on-ok c.push_index.result (λ e. joined-two (string_bytes c.args.text.now) _ _ (codes "/text()") (bracketed c.args.place) c.in_ok-push_str.ensures.bytes e) c.push_index.ensures

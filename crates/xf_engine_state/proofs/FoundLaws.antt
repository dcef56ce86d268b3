-- What surrounds expressions over the documents that were found over a forest.
use Rattle.std.proofs.Common.{◌≡◌, ℕ, List, Option, ap, ◌∙◌}
use Rattle.xf_name.specs.Bindings.{Bindings}
use Rattle.xf_def_syntax.specs.declared.form.Instance.{Instance}
use Rattle.xf_def_forest.specs.Forest.{Forest}
use Rattle.xf_engine_state.specs.Around.{documents_from, given_by, given_in}

pub given-found : (instances found : List Instance) (b : Bindings) (d : ℕ) (forest : Forest) (ds : List (Option ℕ)) → found ≡ instances → ds ≡ documents_from 0 found forest.nodes
    → given_by found b d ds ≡ given_in instances b d forest
given-found instances found b d forest ds i e =
    ap (λ l. given_by found b d l) e ∙ ap (λ l. given_by l b d (documents_from 0 l forest.nodes)) i

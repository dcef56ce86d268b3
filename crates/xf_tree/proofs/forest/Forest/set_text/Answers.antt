use Rattle.std.proofs.Common.{◌≡◌, Some, true, inl, inr}
use Rattle.std.specs.Prelude.{◌⊎◌}
use Rattle.xf_def_forest.specs.declared.content.Kind.TheVariants.{Attribute, Element}
use Rattle.xf_def_forest.specs.Forest.{kind_at, has_number}
use Rattle.xf_tree.proofs.ValueLemmas.{kind-live}
use Rattle.xf_tree.proofs.forest.Forest.set_text.Goals as goal

pub kind-requires : goal.kind-requires
kind-requires c =
    let n = c.args.node.number in
    let nodes = c.args.self.now.forest.nodes in
    let by : (kind_at n nodes ≡ Some Attribute) ⊎ (kind_at n nodes ≡ Some Element) → has_number n nodes ≡ true = λ k. elim k [ inl h ↦ kind-live n Attribute nodes h | inr h ↦ kind-live n Element nodes h ] in
    record { live = by c.requires.may.kind }

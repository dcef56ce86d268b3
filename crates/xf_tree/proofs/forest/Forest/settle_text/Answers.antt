use Rattle.std.proofs.Common.{◌≡◌, Option, Some, true, inl, inr, ap, ◌∙◌, arith}
use Rattle.std.specs.Prelude.{◌⊎◌}
use Rattle.xf_def_forest.specs.declared.content.Kind.{Kind}
use Rattle.xf_def_forest.specs.declared.content.Kind.TheVariants.{Attribute, Element}
use Rattle.xf_def_forest.specs.Forest.{kind_at, has_number}
use Rattle.xf_def_forest.specs.Texts.{Keeping}
use Rattle.xf_tree_walks.proofs.NodeLemmas.{times-absent}
use Rattle.xf_tree.proofs.SetLemmas.{count-most, kept-absent}
use Rattle.xf_tree.proofs.ValueLemmas.{kind-live}
use Rattle.xf_tree.proofs.forest.Forest.settle_text.Goals as goal

pub kind-requires : goal.kind-requires
kind-requires c =
    let n = c.args.node.number in
    let nodes = c.args.self.now.forest.nodes in
    let by : (kind_at n nodes ≡ Some Attribute) ⊎ (kind_at n nodes ≡ Some Element) → has_number n nodes ≡ true = λ k. elim k [ inl h ↦ kind-live n Attribute nodes h | inr h ↦ kind-live n Element nodes h ] in
    record { live = by c.requires.may.kind }

pub write_content-requires : goal.write_content-requires
write_content-requires c =
    let n = c.args.node.number in
    let k = c.args.self.now in
    let attribute : kind_at n k.forest.nodes ≡ Some Attribute → c.kind.result ≡ Attribute = λ h. let e : ◌≡◌ {A = Option Kind} (Some c.kind.result) (Some Attribute) = c.kind.ensures ∙ h in cc e in
    let element : (kind_at n k.forest.nodes ≡ Some Attribute) ⊎ (kind_at n k.forest.nodes ≡ Some Element) → kind_at n k.forest.nodes ≡ Some Element =
    λ k. elim k [ inl h ↦ absurd (c.in_default.not-Attribute (attribute h)) | inr h ↦ h ] in
    let number = c.args.number in
    let next : c.self.inside.next ≡ k.forest.next = ap (λ (k : Keeping). k.forest.next) c.self.view_is in
    record {
      kind = element c.requires.may.kind;
      childless = c.requires.may.childless;
      number = record {
        free = omega (arith, times-absent number k.forest.nodes c.requires.number.unused, kept-absent number k.kept c.requires.number.unkept);
        later = omega (arith, next);
        below = omega (arith, next, c.requires.number.reserved, count-most c.args.text.now);
      };
    }

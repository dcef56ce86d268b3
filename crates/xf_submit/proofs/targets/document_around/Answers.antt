use Rattle.std.proofs.Common.{◌≡◌, true, ap, subst, sym, refl, ◌∙◌}
use Rattle.xf_def_forest.specs.declared.content.Kind.TheVariants as kind
use Rattle.xf_def_forest.specs.Forest.{has_number, kind_at}
use Rattle.xf_def_forest.specs.Visit.{children_of, first_of, visits}
use Rattle.xf_def_forest.proofs.LiveLaws.{top-live}
use Rattle.xf_submit.proofs.NodeLaws.{document-absent, document-none, document-under}
use Rattle.xf_submit.proofs.targets.document_around.Goals as goal

pub kind-requires : goal.kind-requires
kind-requires c =
    let nodes = c.args.forest.now.forest.nodes in
    record { live = subst (λ k. has_number k nodes ≡ true) (sym c.top-top.ensures) (top-live c.args.node.number nodes (sym c.is_live.ensures ∙ c.if-not-is_live.false)) }

pub first_child-requires : goal.first_child-requires
first_child-requires c =
    let nodes = c.args.forest.now.forest.nodes in
    subst (λ k. has_number k nodes ≡ true) (sym c.top-top.ensures) (top-live c.args.node.number nodes (sym c.is_live.ensures ∙ c.if-not-is_live.false))

pub returns-then-not-is_live : goal.returns-then-not-is_live
returns-then-not-is_live c = sym (document-absent c.args.node.number c.args.forest.now.forest.nodes (sym c.is_live.ensures ∙ c.if-not-is_live.true))

pub returns-in-Root : goal.returns-in-Root
returns-in-Root c =
    let nodes = c.args.forest.now.forest.nodes in
    c.first_child.ensures ∙ ap (λ k. first_of (children_of k (visits nodes))) c.top-top.ensures
    ∙ sym (document-under c.args.node.number nodes (c.in-Root.ensures ∙ ap (λ k. kind_at k nodes) c.top-top.ensures))

pub returns-in-Element : goal.returns-in-Element
returns-in-Element c =
    let nodes = c.args.forest.now.forest.nodes in
    sym (document-none c.args.node.number nodes kind.Element c.are_trees.ensures.apart (c.in-Element.ensures ∙ ap (λ k. kind_at k nodes) c.top-top.ensures) refl)

pub returns-in-Attribute : goal.returns-in-Attribute
returns-in-Attribute c =
    let nodes = c.args.forest.now.forest.nodes in
    sym (document-none c.args.node.number nodes kind.Attribute c.are_trees.ensures.apart (c.in-Attribute.ensures ∙ ap (λ k. kind_at k nodes) c.top-top.ensures) refl)

pub returns-in-Text : goal.returns-in-Text
returns-in-Text c =
    let nodes = c.args.forest.now.forest.nodes in
    sym (document-none c.args.node.number nodes kind.Text c.are_trees.ensures.apart (c.in-Text.ensures ∙ ap (λ k. kind_at k nodes) c.top-top.ensures) refl)

use Rattle.std.proofs.Common.{◌≡◌, ◌∙◌, [], List, ℕ, nat_eq, Some, None, length, ap, sym, subst, refl}
use Rattle.std.specs.Prelude.{OnOk}
use Rattle.std.specs.Option.{option_copied}
use Rattle.xf_graph.specs.Edges.{has, HasEdges}
use Rattle.xf_binds_rebuild.specs.Readers.{edge_with, list_or, readers_at}
use Rattle.xf_binds_rebuild.proofs.Linked.{edges-none}
use Rattle.xf_binds_rebuild.proofs.ring.link_node.Goals as goal

pub add_edges-requires-clause-others : goal.add_edges-requires-clause-others
add_edges-requires-clause-others c = λ other h.
    let list : readers_at c.args.readers.now c.args.node.number ≡ c.in-Some.list.now = ap list_or (sym c.get.ensures.value ∙ ap option_copied c.in-Some.is) in
    c.requires.readers c.args.node.number other (ap (λ l. has l other) (list ∙ sym c.as_slice.ensures) ∙ h)

pub returns-in-Some : goal.returns-in-Some
returns-in-Some c =
    let list : readers_at c.args.readers.now c.args.node.number ≡ c.in-Some.list.now = ap list_or (sym c.get.ensures.value ∙ ap option_copied c.in-Some.is) in
    subst (λ l. OnOk c.add_edges.result (HasEdges c.add_edges.new.graph (length c.args.graph.now) (edge_with c.args.graph.now c.args.place (has l)))) (c.as_slice.ensures ∙ sym list) c.add_edges.ensures

pub returns-in-None : goal.returns-in-None
returns-in-None c =
    let list : readers_at c.args.readers.now c.args.node.number ≡ [] = ap list_or (sym c.get.ensures.value ∙ ap option_copied c.in-None.is) in
    edges-none c.args.graph.now c.args.place (has (readers_at c.args.readers.now c.args.node.number)) (λ r. ap (λ l. has l r) list)

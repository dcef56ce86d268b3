use Rattle.std.proofs.Common.{◌≡◌, ◌<◌, ℕ, List, length, map, sym, ap, ◌∙◌, subst}
use Rattle.std.specs.List.{All}
use Rattle.std.specs.Prelude.{IfOk}
use Rattle.xf_def_forest.specs.declared.node.NodeId.{NodeId}
use Rattle.xf_tree_walks.specs.Reads.{is_among, stands_one, each_once}
use Rattle.xf_tree_walks.specs.Walks.{number_of_row}
use Rattle.xf_tree_walks.proofs.OrderLemmas.{order-means, places-within, all-within}
use Rattle.xf_tree_walks.proofs.order.sorted.Goals.{After-deref}
use Rattle.xf_tree_walks.proofs.order.sorted.Goals as goal

-- the places of the nodes, sorted
same-places : (c : After-deref) (at : ℕ) → is_among at c.put_up.new.ranks.items ≡ stands_one c.args.slots.now c.args.rows.now.items (map (λ (n : NodeId). n.number) c.args.nodes.now) at
same-places c at = c.put_up.ensures.same at ∙ c.in_ok-ranks.ensures at

pub nodes_at-requires : goal.nodes_at-requires
nodes_at-requires c =
    let c1 = (goal.at.nodes_at-requires c).After-deref in
    let rows = c.args.rows.now.items in
    let within = places-within c.args.slots.now rows (map (λ (n : NodeId). n.number) c.args.nodes.now) c.put_up.new.ranks.items (same-places c1) in
    subst (λ l. All (λ p. p < length rows) l) (sym c.deref.ensures.value) (all-within (length rows) c.put_up.new.ranks.items within)

pub returns : goal.returns
returns c =
    let c1 = (goal.at.returns c).After-deref in
    let s = c.args.slots.now in
    let rows = c.args.rows.now.items in
    let same = ap (λ l. map (number_of_row s rows) (each_once 0 l)) c.deref.ensures.value
    ∙ order-means s rows (map (λ (n : NodeId). n.number) c.args.nodes.now) c.put_up.new.ranks.items c.put_up.ensures.up (same-places c1) in
    subst (λ (v : List ℕ). IfOk c.nodes_at.result (λ l. l ≡ v)) same c.nodes_at.ensures

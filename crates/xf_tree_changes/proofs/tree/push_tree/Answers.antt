use Rattle.std.proofs.Common.{◌≡◌, ◌≤◌, ◌^◌, length, map, drop, sym, ap, subst, ◌∙◌}
use Rattle.slab.specs.Slab.{Slab, get}
use Rattle.xf_def_forest.specs.Limits.{size_of}
use Rattle.xf_def_forest.specs.Plant.{numbered_from}
use Rattle.xf_tree_contents.specs.Slot.{Slot}
use Rattle.xf_tree_contents.specs.Keys.{content_in}
use Rattle.xf_tree_walks.specs.Nodes.{node_of, AllLive}
use Rattle.xf_tree_changes.proofs.PushLemmas.{nodes-later, live-unsized}
use Rattle.xf_tree_changes.proofs.tree.push_tree.Goals as goal

pub returns-clause-nodes : goal.returns-clause-nodes
returns-clause-nodes c =
    let later = nodes-later c.push_all.new.slots (length c.args.rows.now.items) c.set_sizes.new.rows.items c.push_all.new.rows.items c.set_sizes.ensures.same ∙ c.push_all.ensures.nodes in
    subst (λ s. map (node_of s) (drop (length c.args.rows.now.items) c.set_sizes.new.rows.items) ≡ numbered_from c.args.first c.args.tree.items) (sym c.give_back.ensures) later

pub returns-clause-live : goal.returns-clause-live
returns-clause-live c =
    let live = live-unsized c.push_all.new.slots c.set_sizes.new.rows.items c.push_all.new.rows.items c.set_sizes.ensures.same c.push_all.ensures.live in
    subst (λ s. AllLive s c.set_sizes.new.rows.items) (sym c.give_back.ensures) live

pub returns-clause-rest : goal.returns-clause-rest
returns-clause-rest c = λ key some. ap (λ (s : Slab Slot). get s key) c.give_back.ensures ∙ c.push_all.ensures.rest key some

pub returns-clause-small : goal.returns-clause-small
returns-clause-small c = λ key. subst (λ (s : Slab Slot). size_of (content_in (get s key)) ≤ 2 ^ 66) (sym c.give_back.ensures) (c.push_all.ensures.small key)

use Rattle.std.proofs.Common.{◌≡◌, ◌<◌, ◌∙◌, ◌||◌, false, [], ◌∷◌, List, ℕ, length, ap, sym, subst, refl}
use Rattle.std.proofs.lemmas.Result.{on_ok_weaker}
use Rattle.xf_graph.specs.Edges.{has, HasEdges}
use Rattle.xf_binds.specs.declared.web.Asks.{Asks}
use Rattle.xf_binds.specs.Held.{entries_in}
use Rattle.xf_binds_rebuild.specs.Links.{asks_on}
use Rattle.xf_binds_rebuild.specs.Readers.{edge_with, readers_at, reads_one}
use Rattle.xf_binds_rebuild.proofs.Linked.{edges-more, edges-same, or-swapped}
use Rattle.xf_binds_rebuild.proofs.ring.link_source.Goals as goal

pub link_above-requires-clause-place : goal.link_above-requires-clause-place
link_above-requires-clause-place c = subst (λ n. c.args.place < n) (sym c.in_ok-link_node.ensures.size) c.requires.place

pub link_above-requires-clause-readers : goal.link_above-requires-clause-readers
link_above-requires-clause-readers c = λ n place h. subst (λ k. place < k) (sym c.in_ok-link_node.ensures.size) (c.requires.readers n place h)

pub returns-in-Some : goal.returns-in-Some
returns-in-Some c =
    let above : List ℕ = (asks_on (entries_in c.args.applied.now) c.args.web.now c.args.node.number).above in
    let same = c.as_slice.ensures ∙ ap (λ (a : Asks). a.above) c.in-Some.ensures in
    on_ok_weaker c.link_above.result (λ h.
    edges-more c.args.graph.now c.link_node.new.graph c.link_above.new.graph c.args.place (length c.args.graph.now) (reads_one c.args.readers.now above)
    (has (readers_at c.args.readers.now c.args.node.number)) (reads_one c.args.readers.now (c.args.node.number ∷ above)) c.in_ok-link_node.ensures
    (subst (λ l. HasEdges c.link_above.new.graph (length c.link_node.new.graph) (edge_with c.link_node.new.graph c.args.place (reads_one c.args.readers.now l))) same h)
    (λ r. or-swapped (has (readers_at c.args.readers.now c.args.node.number) r) (reads_one c.args.readers.now above r))) c.link_above.ensures

pub returns-in-None : goal.returns-in-None
returns-in-None c =
    let none : [] ≡ (asks_on (entries_in c.args.applied.now) c.args.web.now c.args.node.number).above = ap (λ (a : Asks). a.above) c.in-None.ensures in
    edges-same c.link_node.new.graph c.args.graph.now c.args.place (length c.args.graph.now) (has (readers_at c.args.readers.now c.args.node.number)) _ c.in_ok-link_node.ensures
    (λ r. or-swapped false (has (readers_at c.args.readers.now c.args.node.number) r) ∙ ap (λ l. reads_one c.args.readers.now (c.args.node.number ∷ l) r) none)

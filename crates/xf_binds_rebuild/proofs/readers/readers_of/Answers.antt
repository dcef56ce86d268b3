use Rattle.std.proofs.Common.{◌≡◌, ◌≤◌, ◌==◌, ◌&&◌, ◌||◌, ◌∙◌, Some, map, length, ap, sym, take, take_all, arith}
use Rattle.std.specs.Prelude.{slice_get}
use Rattle.xf_def_forest.specs.Visit as doc
use Rattle.xf_graph.specs.Edges.{has}
use Rattle.xf_binds.specs.declared.web.Asks.{Asks}
use Rattle.xf_binds.specs.Held.{entries_in}
use Rattle.xf_binds_rebuild.specs.Links.{Source, source_on}
use Rattle.xf_binds_rebuild.specs.Readers.{readers_at, reads_at}
use Rattle.xf_binds_rebuild.proofs.Linked.{item-got, mapped-length, none-new, reads-next}
use Rattle.xf_binds_rebuild.proofs.readers.readers_of.Goals as goal
use Rattle.xf_binds_rebuild.proofs.readers.readers_of.Goals.{in-Some+in_ok-add_all-in-Some, in-None}

pub loop-place-init : goal.loop-place-init
loop-place-init c = λ n place. none-new c.new-readers.result n place c.new-readers.ensures.empty

pub loop-place-preserved : goal.loop-place-preserved
loop-place-preserved c = λ n other.
    let entries = entries_in c.args.applied.now in
    let sources = map (source_on entries c.args.web.now) c.args.nodes.now in
    let at = c.loop-place.place in
    let source : Source = source_on entries c.args.web.now c.at.result.number in
    let here : slice_get sources at ≡ Some source = item-got (source_on entries c.args.web.now) c.args.nodes.now at c.at.result.number c.at.ensures in
    let rest = reads_at (take at sources) other n in
    let told : has (readers_at c.match-asks_at.readers n) other ≡ ((doc.has n source.asks.reads && (at == other)) || rest) = elim c.match-asks_at.branch [
      | in-Some+in_ok-add_all-in-Some w ↦
          ap (λ r. has (readers_at r n) other) w.readers-is
          ∙ w.in_ok-add_all-in-Some.ensures n other
          ∙ ap (λ ns. (doc.has n ns && (at == other)) || has (readers_at c.loop-place.readers n) other) (w.as_slice.ensures ∙ ap (λ (a : Asks). a.reads) w.in-Some.ensures)
          ∙ ap (λ b. (doc.has n source.asks.reads && (at == other)) || b) (c.loop-place.invariant n other)
      | in-None w ↦
          ap (λ r. has (readers_at r n) other) w.readers-is
          ∙ c.loop-place.invariant n other
          ∙ ap (λ ns. (doc.has n ns && (at == other)) || rest) (ap (λ (a : Asks). a.reads) w.in-None.ensures)
    ] in
    told ∙ sym (reads-next sources at other n source here)

pub returns : goal.returns
returns c = λ n place.
    let sources = map (source_on (entries_in c.args.applied.now) c.args.web.now) c.args.nodes.now in
    let all : length sources ≤ c.loop-place.place = omega (arith, c.loop-place-test.false, c.len-place-end.ensures, mapped-length (source_on (entries_in c.args.applied.now) c.args.web.now) c.args.nodes.now) in
    c.loop-place.invariant n place ∙ ap (λ l. reads_at l place n) (take_all c.loop-place.place sources all)

use Rattle.std.proofs.Common.{subst, sym}
use Rattle.xf_graph.specs.Marks.{mark_of}
use Rattle.xf_graph.specs.Search.{ArePeeled}
use Rattle.xf_graph.proofs.PeelLemmas.{ArePeeled-reversed}
use Rattle.xf_graph.proofs.peel.peeled.Goals as goal

pub peel-requires-2-clause-old : goal.peel-requires-2-clause-old
peel-requires-2-clause-old c =
    let g = c.args.graph.now in
    let m = mark_of c.peel.new.peeled in
    ArePeeled-reversed g c.sources-2.result.now m c.sources-2.ensures
    (subst (λ l. ArePeeled l m) c.readers.ensures c.in_ok-peel.ensures)

pub returns : goal.returns
returns c =
    let g = c.args.graph.now in
    let m = mark_of c.peel-2.new.peeled in
    ArePeeled-reversed c.sources-2.result.now g m (λ from to. sym (c.sources-2.ensures to from)) c.in_ok-peel-2.ensures

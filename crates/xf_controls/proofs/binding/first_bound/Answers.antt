use Rattle.std.proofs.Common.{option_map}
use Rattle.std.specs.Prelude.{slice_get}
use Rattle.xf_controls.specs.Seen.{number}
use Rattle.xf_controls.proofs.NodeLaws.{live-found, there}
use Rattle.xf_controls.proofs.binding.first_bound.Goals as goal

pub returns-in_ok-nodes-in-ByBind-clause-live : goal.returns-in_ok-nodes-in-ByBind-clause-live
returns-in_ok-nodes-in-ByBind-clause-live g c =
    let nodes = c.args.forest.now.forest.nodes in
    there (option_map number c.get.result) (slice_get c.in_ok-nodes-in-ByBind.nodes 0) nodes c.get.ensures (live-found c.in_ok-nodes-in-ByBind.nodes 0 nodes c.in_ok-nodes-in-ByBind.ensures.live)

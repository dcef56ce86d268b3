use Rattle.std.proofs.Common.{◌≡◌, map, zip, drop}
use Rattle.xf_def_machine.specs.Flow.{in_turn}
use Rattle.xf_def_machine.specs.Insert.{put_copy}
use Rattle.xf_actions.specs.Seen.{place_of}
use Rattle.xf_actions.proofs.insert.put_copies.Given as goal

abbrev pub invariant-loop-at : goal.invariant-loop-at
invariant-loop-at g l =
    let run = put_copy g.W.World.profile l.tops in record {
      rest : in_turn run (zip (map place_of l.places) l.tops) (g.W.World.state l.initial.world)
          ≡ in_turn run (zip (drop l.at (map place_of l.places)) (drop l.at l.tops)) (g.W.World.state l.world);
      kept : g.W.World.kept l.world ≡ g.W.World.kept l.initial.world;
      form : (g.W.World.state l.world).form ≡ (g.W.World.state l.initial.world).form;
      calls : (g.W.World.state l.world).calls ≡ (g.W.World.state l.initial.world).calls;
    }

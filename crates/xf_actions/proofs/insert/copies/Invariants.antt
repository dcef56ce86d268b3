use Rattle.std.proofs.Common.{◌≡◌, map, drop}
use Rattle.xf_def_machine.specs.Flow.{◌>>=◌}
use Rattle.xf_def_machine.specs.Insert.{copies_of}
use Rattle.xf_actions.specs.Seen.{place_of}
use Rattle.xf_actions.proofs.Trees.{behind}
use Rattle.xf_actions.proofs.insert.copies.Given as goal

-- the copies so far, with those of what is left, are all of them
abbrev pub invariant-loop-place : goal.invariant-loop-place
invariant-loop-place g l =
    let origins = map (λ q. q.origin) (map place_of l.places) in record {
      rest : copies_of g.W.World.profile origins (g.W.World.state l.initial.world)
          ≡ copies_of g.W.World.profile (drop l.place-index origins) (g.W.World.state l.world) >>= behind l.tops;
      kept : g.W.World.kept l.world ≡ g.W.World.kept l.initial.world;
      form : (g.W.World.state l.world).form ≡ (g.W.World.state l.initial.world).form;
      calls : (g.W.World.state l.world).calls ≡ (g.W.World.state l.initial.world).calls;
    }

use Rattle.std.proofs.Common.{◌≡◌, ◌+◌, ◌-◌, ◌*◌, ◌^◌, true, false, List, drop, map, is_some}
use Rattle.xf_store.specs.declared.answers.Answer.{Answer}
use Rattle.xf_store.specs.Replay.{Covers}
use Rattle.xf_store.specs.Called.{Called}
use Rattle.xf_def_machine.specs.Flow.{in_turn}
use Rattle.xf_def_machine.specs.Acting.{act_at}
use Rattle.xf_def_machine.specs.Act.{act_within}
use Rattle.xf_def_machine.specs.Update.{rounds, round, update}
use Rattle.xf_def_machine.specs.Dispatch.{handle, dispatch}
use Rattle.xf_actions.specs.Seen.{fired_of, acting_of}
use Rattle.xf_actions.specs.Parts.{repetition_in, once_done, acted}
use Rattle.xf_actions.proofs.Steps.{tested}
use Rattle.xf_actions.proofs.act.+act.Given as goal

-- the depth first, then the parts that are left, then the way down to them
abbrev pub decreases-dispatch : goal.decreases-dispatch
decreases-dispatch g l = l.depth * 2 ^ 80

abbrev pub decreases-tell_all : goal.decreases-tell_all
decreases-tell_all g l = l.depth * 2 ^ 80 + 1

abbrev pub decreases-update : goal.decreases-update
decreases-update g l = l.depth * 2 ^ 80 + 2

abbrev pub decreases-tell_end : goal.decreases-tell_end
decreases-tell_end g l = l.depth * 2 ^ 80 + 1

abbrev pub decreases-act_by_default : goal.decreases-act_by_default
decreases-act_by_default g l = l.depth * 2 ^ 80 + 2

abbrev pub decreases-conclude : goal.decreases-conclude
decreases-conclude g l = l.depth * 2 ^ 80 + 3

abbrev pub decreases-act : goal.decreases-act
decreases-act g l = l.depth * 2 ^ 80 + l.left * 16 + 4

abbrev pub decreases-act_all : goal.decreases-act_all
decreases-act_all g l = l.depth * 2 ^ 80 + l.left * 16 + 5

abbrev pub decreases-once : goal.decreases-once
decreases-once g l = l.depth * 2 ^ 80 + l.left * 16 + 6

abbrev pub decreases-repeat : goal.decreases-repeat
decreases-repeat g l = l.depth * 2 ^ 80 + l.left * 16 + 7

abbrev pub decreases-handle_all : goal.decreases-handle_all
decreases-handle_all g l = l.depth * 2 ^ 80 + 2 ^ 79 + 1

abbrev pub decreases-handle : goal.decreases-handle
decreases-handle g l = l.depth * 2 ^ 80 + 2 ^ 79

-- ---- loops: what is left from here gives what the whole gives, over all answers that cover the calls so far

abbrev pub invariant-handle_all-loop-handler : goal.invariant-handle_all-loop-handler
invariant-handle_all-loop-handler g l =
    let run = λ (answers : List Answer). handle g.W.World.profile (dispatch g.W.World.profile answers l.depth) l.is_idle (fired_of l.fired) in record {
      rest : (answers : List Answer) → Covers answers (g.W.World.state l.world).calls
          → in_turn (run answers) l.handlers (g.W.World.state l.initial.world) ≡ in_turn (run answers) (drop l.handler-index l.handlers) (g.W.World.state l.world);
      store : Called (g.S.Store.calls l.initial.store, g.S.Store.to_come l.initial.store) (g.S.Store.calls l.store, g.S.Store.to_come l.store) (g.W.World.state l.initial.world).calls (g.W.World.state l.world).calls;
      kept : g.W.World.kept l.world ≡ g.W.World.kept l.initial.world;
      form : (g.W.World.state l.world).form ≡ (g.W.World.state l.initial.world).form;
    }

abbrev pub invariant-act_all-loop-part : goal.invariant-act_all-loop-part
invariant-act_all-loop-part g l =
    let run = λ (answers : List Answer). act_within l.left g.W.World.profile (dispatch g.W.World.profile answers l.depth false) (fired_of l.fired) in record {
      rest : (answers : List Answer) → Covers answers (g.W.World.state l.world).calls
          → in_turn (run answers) l.parts (g.W.World.state l.initial.world) ≡ in_turn (run answers) (drop l.part-index l.parts) (g.W.World.state l.world);
      store : Called (g.S.Store.calls l.initial.store, g.S.Store.to_come l.initial.store) (g.S.Store.calls l.store, g.S.Store.to_come l.store) (g.W.World.state l.initial.world).calls (g.W.World.state l.world).calls;
      kept : g.W.World.kept l.world ≡ g.W.World.kept l.initial.world;
      form : (g.W.World.state l.world).form ≡ (g.W.World.state l.initial.world).form;
    }

abbrev pub invariant-tell_all-loop-fired : goal.invariant-tell_all-loop-fired
invariant-tell_all-loop-fired g l =
    let run = λ (answers : List Answer). dispatch g.W.World.profile answers l.depth l.is_idle in record {
      rest : (answers : List Answer) → Covers answers (g.W.World.state l.world).calls
          → in_turn (run answers) (map fired_of l.events) (g.W.World.state l.initial.world)
          ≡ in_turn (run answers) (drop l.fired-index (map fired_of l.events)) (g.W.World.state l.world);
      store : Called (g.S.Store.calls l.initial.store, g.S.Store.to_come l.initial.store) (g.S.Store.calls l.store, g.S.Store.to_come l.store) (g.W.World.state l.initial.world).calls (g.W.World.state l.world).calls;
      kept : g.W.World.kept l.world ≡ g.W.World.kept l.initial.world;
      form : (g.W.World.state l.world).form ≡ (g.W.World.state l.initial.world).form;
    }

abbrev pub invariant-update-loop-round : goal.invariant-update-loop-round
invariant-update-loop-round g l =
    let tell = λ (answers : List Answer). dispatch g.W.World.profile answers l.depth false in record {
      rest : (answers : List Answer) → Covers answers (g.W.World.state l.world).calls
          → update g.W.World.profile (tell answers) (g.W.World.state l.initial.world)
          ≡ rounds (l.most - l.round) (round g.W.World.profile (tell answers)) (g.W.World.state l.world);
      store : Called (g.S.Store.calls l.initial.store, g.S.Store.to_come l.initial.store) (g.S.Store.calls l.store, g.S.Store.to_come l.store) (g.W.World.state l.initial.world).calls (g.W.World.state l.world).calls;
      kept : g.W.World.kept l.world ≡ g.W.World.kept l.initial.world;
      form : (g.W.World.state l.world).form ≡ (g.W.World.state l.initial.world).form;
    }

abbrev pub invariant-repeat-loop-test : goal.invariant-repeat-loop-test
invariant-repeat-loop-test g l =
    let p = g.W.World.profile in
    let tell = λ (answers : List Answer). dispatch p answers l.depth false in
    let inner = λ (answers : List Answer). act_within l.left p (tell answers) (fired_of l.fired) in
    let x = acting_of l.fired l.acting in
    let a = act_at (g.W.World.state l.initial.world) l.acting.element in record {
      rest : (answers : List Answer) → Covers answers (g.W.World.state l.world).calls
          → acted p (tell answers) (inner answers) x a (g.W.World.state l.initial.world)
          ≡ tested (l.most - l.test) p x (repetition_in a) (once_done p (tell answers) (inner answers) x a) (g.W.World.state l.world);
      written : is_some (repetition_in a) ≡ true;
      store : Called (g.S.Store.calls l.initial.store, g.S.Store.to_come l.initial.store) (g.S.Store.calls l.store, g.S.Store.to_come l.store) (g.W.World.state l.initial.world).calls (g.W.World.state l.world).calls;
      kept : g.W.World.kept l.world ≡ g.W.World.kept l.initial.world;
      form : (g.W.World.state l.world).form ≡ (g.W.World.state l.initial.world).form;
    }

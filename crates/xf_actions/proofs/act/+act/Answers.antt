use Rattle.std.proofs.Common.{ℕ, false, refl, ◌∙◌, arith, rules}
use Rattle.xf_store.proofs.CalledLaws.{called-none}
use Rattle.xf_def_machine.specs.Act.{act_within}
use Rattle.xf_def_machine.specs.Update.{round}
use Rattle.xf_def_machine.specs.Dispatch.{handle, dispatch}
use Rattle.xf_def_machine.specs.Acting.{act_at}
use Rattle.xf_actions.specs.Parts.{repetition_in, once_done}
use Rattle.xf_actions.specs.Seen.{fired_of, acting_of, concluded_of}
use Rattle.xf_actions.proofs.Flow.{refuses-then, refuses-any, same-refuses, same-runs, in_turn-step, in_turn-stop, in_turn-end, stopped, told-step, told-stop, told-end}
use Rattle.xf_actions.proofs.Stores.{covers-before, covers-same, called-still, called-behind, called-ahead, called-both}
use Rattle.xf_actions.proofs.Steps.{refuses-depth, refuses-budget, dispatch-stops, dispatch-too_deep, dispatch-handles, dispatch-after, act-stops, act-acts-by, acted-once, acted-begins, tested-end, tested-stops, once-unread, once-idle-by, once-block-by, once-changes-stop, once-changed, when-true, when-false, update-begins, rounds-end, rounds-rest, rounds-stop, rounds-told_stop}
use Rattle.xf_actions.proofs.Tests.{tests-unread, tests-done, tests-work_stops, tests-next, rounds-on}
use Rattle.xf_actions.proofs.Ends.{handle-stops, handle-acted, after-stops, after-done, default-stops, default-told_stops, default-end}
use Rattle.xf_actions.proofs.act.+act.Goals as goal

-- ---- dispatch

pub dispatch-returns-in_err-spend-clause-done : goal.dispatch-returns-in_err-spend-clause-done
dispatch-returns-in_err-spend-clause-done g t c answers h =
    stopped _ _ _ _ _ c.from_residual.ensures.1 (dispatch-stops _ answers _ _ _ _ _ _ c.in_err-spend.ensures.done)

pub dispatch-returns-in_err-spend-clause-store : goal.dispatch-returns-in_err-spend-clause-store
dispatch-returns-in_err-spend-clause-store g t c =
    called-still _ _ _ c.in_err-spend.ensures.calls

pub dispatch-returns-then-depth-eq0-clause-done : goal.dispatch-returns-then-depth-eq0-clause-done
dispatch-returns-then-depth-eq0-clause-done g t c answers h =
    same-refuses _ _ _ _ (dispatch-too_deep _ answers _ _ _ _ _ c.if-depth-eq0.true c.in_ok-spend.ensures.done) (refuses-depth _ _ (g.W.World.state c.spend.new.self) c.depth.ensures)

pub dispatch-returns-then-depth-eq0-clause-store : goal.dispatch-returns-then-depth-eq0-clause-store
dispatch-returns-then-depth-eq0-clause-store g t c =
    called-still _ _ _ c.in_ok-spend.ensures.calls

pub dispatch-returns-in_err-called-clause-done : goal.dispatch-returns-in_err-called-clause-done
dispatch-returns-in_err-called-clause-done g t c answers h =
    stopped _ _ _ _ _ c.from_residual-in_err-called.ensures.1 (refuses-any _ _ _ _ c.in_err-called.ensures)

pub dispatch-returns-in_err-called-clause-store : goal.dispatch-returns-in_err-called-clause-store
dispatch-returns-in_err-called-clause-store g t c =
    called-still _ _ _ c.in_ok-spend.ensures.calls

pub dispatch-returns-in_err-handle_all-clause-done : goal.dispatch-returns-in_err-handle_all-clause-done
dispatch-returns-in_err-handle_all-clause-done g t c answers h =
    stopped _ _ _ _ _ c.from_residual-in_err-handle_all.ensures.1
    (same-refuses _ _ _ _ (dispatch-handles _ answers _ _ _ _ _ c.in_ok-called.called (omega arith) c.in_ok-spend.ensures.done c.in_ok-called.ensures)
    (refuses-then _ _ _ _ (rw c.as_slice.ensures at (c.in_err-handle_all.ensures.done answers h))))

pub dispatch-returns-in_err-handle_all-clause-store : goal.dispatch-returns-in_err-handle_all-clause-store
dispatch-returns-in_err-handle_all-clause-store g t c =
    called-behind _ c.in_ok-spend.ensures.calls c.in_err-handle_all.ensures.store

pub dispatch-returns-then-called-clause-done : goal.dispatch-returns-then-called-clause-done
dispatch-returns-then-called-clause-done g t c answers h =
    same-runs _ _ _ _ _
    (dispatch-after _ answers _ _ _ _ _ _ c.in_ok-called.called (omega arith) c.in_ok-spend.ensures.done c.in_ok-called.ensures
    (rw c.as_slice.ensures at (c.in_ok-handle_all.ensures.done answers (covers-before _ _ c.conclude.ensures.store.grown answers h)))
    ∙ when-true _ _ _ c.if-called.true)
    (c.conclude.ensures.done answers h)

pub dispatch-returns-then-called-clause-store : goal.dispatch-returns-then-called-clause-store
dispatch-returns-then-called-clause-store g t c =
    called-both (called-behind _ c.in_ok-spend.ensures.calls c.in_ok-handle_all.ensures.store) c.conclude.ensures.store

pub dispatch-returns-clause-done : goal.dispatch-returns-clause-done
dispatch-returns-clause-done g t c answers h =
    dispatch-after _ answers _ _ _ _ _ _ c.in_ok-called.called (omega arith) c.in_ok-spend.ensures.done c.in_ok-called.ensures
    (rw c.as_slice.ensures at (c.in_ok-handle_all.ensures.done answers h))
    ∙ when-false _ _ _ c.if-called.false

pub dispatch-returns-clause-store : goal.dispatch-returns-clause-store
dispatch-returns-clause-store g t c =
    called-behind _ c.in_ok-spend.ensures.calls c.in_ok-handle_all.ensures.store

-- ---- handlers

pub handle_all-loop-handler-init : goal.handle_all-loop-handler-init
handle_all-loop-handler-init g t c =
    record { rest = λ answers h. refl; store = called-none _ _; kept = refl; form = refl }

pub handle_all-returns-in_err-handle-clause-done : goal.handle_all-returns-in_err-handle-clause-done
handle_all-returns-in_err-handle-clause-done g t c answers h =
    stopped _ _ _ _ _ c.from_residual.ensures.1
    (same-refuses _ _ _ _ (c.loop-handler.invariant.rest answers (covers-before _ _ c.in_err-handle.ensures.store.grown answers h))
    (in_turn-stop {X = ℕ} (handle g.W.World.profile (dispatch g.W.World.profile answers c.args.depth) c.args.is_idle (fired_of c.args.fired.now)) c.args.handlers.now c.loop-handler.handler-index 0 _ _ _ (omega arith) (c.in_err-handle.ensures.done answers h)))

pub handle_all-returns-in_err-handle-clause-store : goal.handle_all-returns-in_err-handle-clause-store
handle_all-returns-in_err-handle-clause-store g t c =
    called-both c.loop-handler.invariant.store c.in_err-handle.ensures.store

pub handle_all-loop-handler-preserved : goal.handle_all-loop-handler-preserved
handle_all-loop-handler-preserved g t c =
    record {
      rest = λ answers h.
          c.loop-handler.invariant.rest answers (covers-before _ _ c.in_ok-handle.ensures.store.grown answers h)
          ∙ in_turn-step {X = ℕ} (handle g.W.World.profile (dispatch g.W.World.profile answers c.args.depth) c.args.is_idle (fired_of c.args.fired.now)) c.args.handlers.now c.loop-handler.handler-index 0 _ _ (omega arith) (c.in_ok-handle.ensures.done answers h);
      store = called-both c.loop-handler.invariant.store c.in_ok-handle.ensures.store;
      kept = c.in_ok-handle.ensures.kept ∙ c.loop-handler.invariant.kept;
      form = c.in_ok-handle.ensures.form ∙ c.loop-handler.invariant.form;
    }

pub handle_all-returns-clause-done : goal.handle_all-returns-clause-done
handle_all-returns-clause-done g t c answers h =
    c.loop-handler.invariant.rest answers h ∙ in_turn-end (handle g.W.World.profile (dispatch g.W.World.profile answers c.args.depth) c.args.is_idle (fired_of c.args.fired.now)) c.args.handlers.now c.loop-handler.handler-index _ (omega arith)

pub handle-returns-in_err-act-clause-done : goal.handle-returns-in_err-act-clause-done
handle-returns-in_err-act-clause-done g t c answers h =
    stopped _ _ _ _ _ c.from_residual.ensures.1 (handle-stops g.W.World.profile (dispatch g.W.World.profile answers c.args.depth) c.args.is_idle (fired_of c.args.fired.now) c.args.handler (g.W.World.state c.args.world.now) c.form.result.now c.len-left.result _ _ c.form.ensures c.len-left.ensures (c.in_err-act.ensures.done answers h))

pub handle-returns-in_err-act-clause-store : goal.handle-returns-in_err-act-clause-store
handle-returns-in_err-act-clause-store g t c =
    c.in_err-act.ensures.store

pub handle-returns-then-is_idle-clause-done : goal.handle-returns-then-is_idle-clause-done
handle-returns-then-is_idle-clause-done g t c answers h =
    same-runs _ _ _ _ _
    (handle-acted g.W.World.profile (dispatch g.W.World.profile answers c.args.depth) c.args.is_idle (fired_of c.args.fired.now) c.args.handler (g.W.World.state c.args.world.now) (g.W.World.state c.act.new.world) c.form.result.now c.len-left.result c.form.ensures c.len-left.ensures (c.in_ok-act.ensures.done answers (covers-before _ _ c.update.ensures.store.grown answers h)) ∙ when-true _ _ _ c.if-is_idle.true)
    (c.update.ensures.done answers h)

pub handle-returns-then-is_idle-clause-store : goal.handle-returns-then-is_idle-clause-store
handle-returns-then-is_idle-clause-store g t c =
    called-both c.in_ok-act.ensures.store c.update.ensures.store

pub handle-returns-else-is_idle-clause-done : goal.handle-returns-else-is_idle-clause-done
handle-returns-else-is_idle-clause-done g t c answers h =
    handle-acted g.W.World.profile (dispatch g.W.World.profile answers c.args.depth) c.args.is_idle (fired_of c.args.fired.now) c.args.handler (g.W.World.state c.args.world.now) (g.W.World.state c.act.new.world) c.form.result.now c.len-left.result c.form.ensures c.len-left.ensures (c.in_ok-act.ensures.done answers h)
    ∙ when-false _ _ _ c.if-is_idle.false

-- ---- default actions

pub conclude-returns-in_err-act_by_default-clause-done : goal.conclude-returns-in_err-act_by_default-clause-done
conclude-returns-in_err-act_by_default-clause-done g t c answers h =
    stopped _ _ _ _ _ c.from_residual.ensures.1 (after-stops g.W.World.profile answers (dispatch g.W.World.profile answers c.args.depth) c.args.is_idle (fired_of c.args.fired.now) (g.W.World.state c.args.world.now) _ _ (c.in_err-act_by_default.ensures.done answers h))

pub conclude-returns-in_err-act_by_default-clause-store : goal.conclude-returns-in_err-act_by_default-clause-store
conclude-returns-in_err-act_by_default-clause-store g t c =
    c.in_err-act_by_default.ensures.store

pub conclude-returns-then-is_idle-clause-done : goal.conclude-returns-then-is_idle-clause-done
conclude-returns-then-is_idle-clause-done g t c answers h =
    same-runs _ _ _ _ _
    (after-done g.W.World.profile answers (dispatch g.W.World.profile answers c.args.depth) c.args.is_idle (fired_of c.args.fired.now) (g.W.World.state c.args.world.now) (g.W.World.state c.act_by_default.new.world) (c.in_ok-act_by_default.ensures.done answers (covers-before _ _ c.update.ensures.store.grown answers h)) ∙ when-true _ _ _ c.if-is_idle.true)
    (c.update.ensures.done answers h)

pub conclude-returns-then-is_idle-clause-store : goal.conclude-returns-then-is_idle-clause-store
conclude-returns-then-is_idle-clause-store g t c =
    called-both c.in_ok-act_by_default.ensures.store c.update.ensures.store

pub conclude-returns-else-is_idle-clause-done : goal.conclude-returns-else-is_idle-clause-done
conclude-returns-else-is_idle-clause-done g t c answers h =
    after-done g.W.World.profile answers (dispatch g.W.World.profile answers c.args.depth) c.args.is_idle (fired_of c.args.fired.now) (g.W.World.state c.args.world.now) (g.W.World.state c.act_by_default.new.world) (c.in_ok-act_by_default.ensures.done answers h)
    ∙ when-false _ _ _ c.if-is_idle.false

pub act_by_default-returns-in_err-told-clause-done : goal.act_by_default-returns-in_err-told-clause-done
act_by_default-returns-in_err-told-clause-done g t c answers h =
    stopped _ _ _ _ _ c.from_residual.ensures.1 (default-stops g.W.World.profile answers (dispatch g.W.World.profile answers c.args.depth c.args.is_idle) (fired_of c.args.fired.now) (g.W.World.state c.args.world.now) _ _ (c.in_err-told.ensures.done answers h))

pub act_by_default-returns-in_err-told-clause-store : goal.act_by_default-returns-in_err-told-clause-store
act_by_default-returns-in_err-told-clause-store g t c =
    c.in_err-told.ensures.store

pub act_by_default-returns-in_err-tell_all-clause-done : goal.act_by_default-returns-in_err-tell_all-clause-done
act_by_default-returns-in_err-tell_all-clause-done g t c answers h =
    stopped _ _ _ _ _ c.from_residual-in_err-tell_all.ensures.1
    (default-told_stops g.W.World.profile answers (dispatch g.W.World.profile answers c.args.depth c.args.is_idle) (fired_of c.args.fired.now) (g.W.World.state c.args.world.now) (concluded_of (g.W.World.state c.args.world.now).form (g.W.World.state c.default_action.new.world) c.in_ok-told.told) _ _
    (c.in_ok-told.ensures.done answers (covers-before _ _ c.in_err-tell_all.ensures.store.grown answers h)) (rw c.as_slice.ensures at (c.in_err-tell_all.ensures.done answers h)))

pub act_by_default-returns-in_err-tell_all-clause-store : goal.act_by_default-returns-in_err-tell_all-clause-store
act_by_default-returns-in_err-tell_all-clause-store g t c =
    called-both c.in_ok-told.ensures.store c.in_err-tell_all.ensures.store

pub act_by_default-returns-clause-done : goal.act_by_default-returns-clause-done
act_by_default-returns-clause-done g t c answers h =
    let k = covers-before _ _ c.tell_end.ensures.store.grown answers h in
    same-runs _ _ _ _ _
    (default-end g.W.World.profile answers (dispatch g.W.World.profile answers c.args.depth c.args.is_idle) (fired_of c.args.fired.now) (g.W.World.state c.args.world.now) (g.W.World.state c.default_action.new.world) (g.W.World.state c.tell_all.new.world) (g.W.World.state c.args.world.now).form c.in_ok-told.told
    (c.in_ok-told.ensures.done answers (covers-before _ _ c.in_ok-tell_all.ensures.store.grown answers k)) (rw c.as_slice.ensures at (c.in_ok-tell_all.ensures.done answers k))
    (c.in_ok-tell_all.ensures.form ∙ c.in_ok-told.ensures.form))
    (c.tell_end.ensures.done answers h)

pub act_by_default-returns-clause-store : goal.act_by_default-returns-clause-store
act_by_default-returns-clause-store g t c =
    called-both (called-both c.in_ok-told.ensures.store c.in_ok-tell_all.ensures.store) c.tell_end.ensures.store

pub tell_end-returns-in_err-end_event-in-Some-clause-done : goal.tell_end-returns-in_err-end_event-in-Some-clause-done
tell_end-returns-in_err-end_event-in-Some-clause-done g t c answers h =
    stopped _ _ _ _ _ c.from_residual.ensures.1 (refuses-any _ _ _ _ c.in_err-end_event-in-Some.ensures)

-- ---- actions

pub act-returns-in_err-acting-clause-done : goal.act-returns-in_err-acting-clause-done
act-returns-in_err-acting-clause-done g t c answers h =
    stopped _ _ _ _ _ c.from_residual.ensures.1 (act-stops c.args.left g.W.World.profile (dispatch g.W.World.profile answers c.args.depth false) (fired_of c.args.fired.now) c.args.element (g.W.World.state c.args.world.now) _ _ (omega arith) (search rules) c.in_err-acting.ensures)

pub act-returns-in-Some-clause-done : goal.act-returns-in-Some-clause-done
act-returns-in-Some-clause-done g t c answers h =
    same-runs _ _ _ _ _
    (act-acts-by c.args.left g.W.World.profile (dispatch g.W.World.profile answers c.args.depth false) (fired_of c.args.fired.now) c.args.element (acting_of c.args.fired.now) c.in_ok-acting.field-0 c.in-Some.acting (g.W.World.state c.args.world.now) (omega arith) (search rules) c.in_ok-acting.ensures c.in-Some.is)
    (c.repeat.ensures.done answers h)

pub act_all-loop-part-init : goal.act_all-loop-part-init
act_all-loop-part-init g t c =
    record { rest = λ answers h. refl; store = called-none _ _; kept = refl; form = refl }

pub act_all-returns-in_err-act-clause-done : goal.act_all-returns-in_err-act-clause-done
act_all-returns-in_err-act-clause-done g t c answers h =
    stopped _ _ _ _ _ c.from_residual.ensures.1
    (same-refuses _ _ _ _ (c.loop-part.invariant.rest answers (covers-before _ _ c.in_err-act.ensures.store.grown answers h))
    (in_turn-stop {X = ℕ} (act_within c.args.left g.W.World.profile (dispatch g.W.World.profile answers c.args.depth false) (fired_of c.args.fired.now)) c.args.parts.now c.loop-part.part-index 0 _ _ _ (omega arith) (c.in_err-act.ensures.done answers h)))

pub act_all-returns-in_err-act-clause-store : goal.act_all-returns-in_err-act-clause-store
act_all-returns-in_err-act-clause-store g t c =
    called-both c.loop-part.invariant.store c.in_err-act.ensures.store

pub act_all-loop-part-preserved : goal.act_all-loop-part-preserved
act_all-loop-part-preserved g t c =
    record {
      rest = λ answers h.
          c.loop-part.invariant.rest answers (covers-before _ _ c.in_ok-act.ensures.store.grown answers h)
          ∙ in_turn-step {X = ℕ} (act_within c.args.left g.W.World.profile (dispatch g.W.World.profile answers c.args.depth false) (fired_of c.args.fired.now)) c.args.parts.now c.loop-part.part-index 0 _ _ (omega arith) (c.in_ok-act.ensures.done answers h);
      store = called-both c.loop-part.invariant.store c.in_ok-act.ensures.store;
      kept = c.in_ok-act.ensures.kept ∙ c.loop-part.invariant.kept;
      form = c.in_ok-act.ensures.form ∙ c.loop-part.invariant.form;
    }

pub act_all-returns-clause-done : goal.act_all-returns-clause-done
act_all-returns-clause-done g t c answers h =
    c.loop-part.invariant.rest answers h ∙ in_turn-end (act_within c.args.left g.W.World.profile (dispatch g.W.World.profile answers c.args.depth false) (fired_of c.args.fired.now)) c.args.parts.now c.loop-part.part-index _ (omega arith)

pub once-returns-in_err-holds_condition-clause-done : goal.once-returns-in_err-holds_condition-clause-done
once-returns-in_err-holds_condition-clause-done g t c answers h =
    stopped _ _ _ _ _ c.from_residual.ensures.1 (once-unread g.W.World.profile (dispatch g.W.World.profile answers c.args.depth false) (act_within c.args.left g.W.World.profile (dispatch g.W.World.profile answers c.args.depth false) (fired_of c.args.fired.now)) (acting_of c.args.fired.now c.args.acting.now) (act_at (g.W.World.state c.args.world.now) c.args.acting.now.element) (g.W.World.state c.args.world.now) _ _ c.in_err-holds_condition.ensures)

pub once-returns-then-not-branch-clause-done : goal.once-returns-then-not-branch-clause-done
once-returns-then-not-branch-clause-done g t c answers h =
    once-idle-by g.W.World.profile (dispatch g.W.World.profile answers c.args.depth false) (act_within c.args.left g.W.World.profile (dispatch g.W.World.profile answers c.args.depth false) (fired_of c.args.fired.now)) (acting_of c.args.fired.now c.args.acting.now) (act_at (g.W.World.state c.args.world.now) c.args.acting.now.element) (g.W.World.state c.args.world.now) c.in_ok-holds_condition.field-0 c.in_ok-holds_condition.ensures (search rules)

pub once-returns-in_err-parts-clause-done : goal.once-returns-in_err-parts-clause-done
once-returns-in_err-parts-clause-done g t c answers h =
    stopped _ _ _ _ _ c.from_residual-in_err-parts.ensures.1 (refuses-any _ _ _ _ c.in_err-parts.ensures)

pub once-returns-in_err-parts-clause-store : goal.once-returns-in_err-parts-clause-store
once-returns-in_err-parts-clause-store g t c =
    called-none _ _

pub once-returns-then-is_block-clause-done : goal.once-returns-then-is_block-clause-done
once-returns-then-is_block-clause-done g t c answers h =
    same-runs _ _ _ _ _
    (once-block-by g.W.World.profile (dispatch g.W.World.profile answers c.args.depth false) (act_within c.args.left g.W.World.profile (dispatch g.W.World.profile answers c.args.depth false) (fired_of c.args.fired.now)) (acting_of c.args.fired.now c.args.acting.now) (act_at (g.W.World.state c.args.world.now) c.args.acting.now.element) (g.W.World.state c.args.world.now) c.in_ok-holds_condition.field-0 c.in_ok-parts.parts c.in_ok-holds_condition.ensures (search rules) (search rules) c.in_ok-parts.ensures)
    (rw c.as_slice.ensures at (c.act_all.ensures.done answers h))

pub once-returns-in_err-events-clause-done : goal.once-returns-in_err-events-clause-done
once-returns-in_err-events-clause-done g t c answers h =
    stopped _ _ _ _ _ c.from_residual-in_err-events.ensures.1
    (once-changes-stop g.W.World.profile (dispatch g.W.World.profile answers c.args.depth false) (act_within c.args.left g.W.World.profile (dispatch g.W.World.profile answers c.args.depth false) (fired_of c.args.fired.now)) (acting_of c.args.fired.now c.args.acting.now) (act_at (g.W.World.state c.args.world.now) c.args.acting.now.element) (g.W.World.state c.args.world.now) c.in_ok-holds_condition.field-0 _ _ c.in_ok-holds_condition.ensures (search rules) (search rules) c.in_err-events.ensures.done)

pub once-returns-in_err-events-clause-store : goal.once-returns-in_err-events-clause-store
once-returns-in_err-events-clause-store g t c =
    called-still _ _ _ c.in_err-events.ensures.calls

pub once-returns-clause-done : goal.once-returns-clause-done
once-returns-clause-done g t c answers h =
    same-runs _ _ _ _ _
    (once-changed g.W.World.profile (dispatch g.W.World.profile answers c.args.depth false) (act_within c.args.left g.W.World.profile (dispatch g.W.World.profile answers c.args.depth false) (fired_of c.args.fired.now)) (acting_of c.args.fired.now c.args.acting.now) (act_at (g.W.World.state c.args.world.now) c.args.acting.now.element) (g.W.World.state c.args.world.now) (g.W.World.state c.change.new.world) c.in_ok-holds_condition.field-0 _ c.in_ok-holds_condition.ensures (search rules) (search rules) c.in_ok-events.ensures.done)
    (rw c.as_slice-2.ensures at (c.tell_all.ensures.done answers h))

pub once-returns-clause-store : goal.once-returns-clause-store
once-returns-clause-store g t c =
    called-behind _ c.in_ok-events.ensures.calls c.tell_all.ensures.store

-- ---- telling

pub tell_all-loop-fired-init : goal.tell_all-loop-fired-init
tell_all-loop-fired-init g t c =
    record { rest = λ answers h. refl; store = called-none _ _; kept = refl; form = refl }

pub tell_all-returns-in_err-dispatch-clause-done : goal.tell_all-returns-in_err-dispatch-clause-done
tell_all-returns-in_err-dispatch-clause-done g t c answers h =
    stopped _ _ _ _ _ c.from_residual.ensures.1
    (same-refuses _ _ _ _ (c.loop-fired.invariant.rest answers (covers-before _ _ c.in_err-dispatch.ensures.store.grown answers h))
    (told-stop (dispatch g.W.World.profile answers c.args.depth c.args.is_idle) fired_of c.args.events.now c.loop-fired.fired-index c.fired-item.result (g.W.World.state c.loop-fired.world) _ _ (omega arith) c.fired-item.is (c.in_err-dispatch.ensures.done answers h)))

pub tell_all-returns-in_err-dispatch-clause-store : goal.tell_all-returns-in_err-dispatch-clause-store
tell_all-returns-in_err-dispatch-clause-store g t c =
    called-both c.loop-fired.invariant.store c.in_err-dispatch.ensures.store

pub tell_all-loop-fired-preserved : goal.tell_all-loop-fired-preserved
tell_all-loop-fired-preserved g t c =
    record {
      rest = λ answers h.
          c.loop-fired.invariant.rest answers (covers-before _ _ c.in_ok-dispatch.ensures.store.grown answers h)
          ∙ told-step (dispatch g.W.World.profile answers c.args.depth c.args.is_idle) fired_of c.args.events.now c.loop-fired.fired-index c.fired-item.result (g.W.World.state c.loop-fired.world) _ (omega arith) c.fired-item.is (c.in_ok-dispatch.ensures.done answers h);
      store = called-both c.loop-fired.invariant.store c.in_ok-dispatch.ensures.store;
      kept = c.in_ok-dispatch.ensures.kept ∙ c.loop-fired.invariant.kept;
      form = c.in_ok-dispatch.ensures.form ∙ c.loop-fired.invariant.form;
    }

pub tell_all-returns-clause-done : goal.tell_all-returns-clause-done
tell_all-returns-clause-done g t c answers h =
    c.loop-fired.invariant.rest answers h ∙ told-end (dispatch g.W.World.profile answers c.args.depth c.args.is_idle) fired_of c.args.events.now c.loop-fired.fired-index _ (omega arith)

-- ---- updates

pub update-loop-round-init : goal.update-loop-round-init
update-loop-round-init g t c =
    record { rest = λ answers h. update-begins g.W.World.profile (dispatch g.W.World.profile answers c.args.depth false) (g.W.World.state c.args.world.now) _ (omega arith); store = called-none _ _; kept = refl; form = refl }

pub update-returns-then-not-is_due-clause-done : goal.update-returns-then-not-is_due-clause-done
update-returns-then-not-is_due-clause-done g t c answers h =
    c.loop-round.invariant.rest answers h ∙ rounds-rest _ (round g.W.World.profile (dispatch g.W.World.profile answers c.args.depth false)) (g.W.World.state c.loop-round.world) (omega arith) (search rules)

pub update-returns-in_err-events-clause-done : goal.update-returns-in_err-events-clause-done
update-returns-in_err-events-clause-done g t c answers h =
    stopped _ _ _ _ _ c.from_residual.ensures.1
    (same-refuses _ _ _ _ (c.loop-round.invariant.rest answers (covers-same answers _ _ c.in_err-events.ensures.calls h))
    (rounds-stop _ g.W.World.profile (dispatch g.W.World.profile answers c.args.depth false) (g.W.World.state c.loop-round.world) _ _ (omega arith) (search rules) c.in_err-events.ensures.done))

pub update-returns-in_err-events-clause-store : goal.update-returns-in_err-events-clause-store
update-returns-in_err-events-clause-store g t c =
    called-ahead _ c.loop-round.invariant.store c.in_err-events.ensures.calls

pub update-returns-in_err-tell_all-clause-done : goal.update-returns-in_err-tell_all-clause-done
update-returns-in_err-tell_all-clause-done g t c answers h =
    stopped _ _ _ _ _ c.from_residual-in_err-tell_all.ensures.1
    (same-refuses _ _ _ _ (c.loop-round.invariant.rest answers (covers-same answers _ _ c.in_ok-events.ensures.calls (covers-before _ _ c.in_err-tell_all.ensures.store.grown answers h)))
    (rounds-told_stop _ g.W.World.profile (dispatch g.W.World.profile answers c.args.depth false) (g.W.World.state c.loop-round.world) (g.W.World.state c.begin_round.new.world) _ _ _ (omega arith) (search rules) c.in_ok-events.ensures.done (rw c.as_slice.ensures at (c.in_err-tell_all.ensures.done answers h))))

pub update-returns-in_err-tell_all-clause-store : goal.update-returns-in_err-tell_all-clause-store
update-returns-in_err-tell_all-clause-store g t c =
    called-both (called-ahead _ c.loop-round.invariant.store c.in_ok-events.ensures.calls) c.in_err-tell_all.ensures.store

pub update-returns-clause-done : goal.update-returns-clause-done
update-returns-clause-done g t c answers h =
    same-refuses _ _ _ _ (c.loop-round.invariant.rest answers h ∙ rounds-end _ _ (g.W.World.state c.loop-round.world) (omega arith)) (refuses-budget _ _ (g.W.World.state c.loop-round.world) c.budget.ensures)

pub update-loop-round-preserved : goal.update-loop-round-preserved
update-loop-round-preserved g t c =
    record {
      rest = λ answers h.
          c.loop-round.invariant.rest answers (covers-same answers _ _ c.in_ok-events.ensures.calls (covers-before _ _ c.in_ok-tell_all.ensures.store.grown answers h))
          ∙ rounds-on _ _ g.W.World.profile (dispatch g.W.World.profile answers c.args.depth false) (g.W.World.state c.loop-round.world) (g.W.World.state c.begin_round.new.world) (g.W.World.state c.tell_all.new.world) _ (omega arith) (omega arith) (search rules) c.in_ok-events.ensures.done
          (rw c.as_slice.ensures at (c.in_ok-tell_all.ensures.done answers h));
      store = called-both (called-ahead _ c.loop-round.invariant.store c.in_ok-events.ensures.calls) c.in_ok-tell_all.ensures.store;
      kept = c.in_ok-tell_all.ensures.kept ∙ (c.in_ok-events.ensures.kept ∙ c.loop-round.invariant.kept);
      form = c.in_ok-tell_all.ensures.form ∙ (c.in_ok-events.ensures.form ∙ c.loop-round.invariant.form);
    }

-- ---- a `while`

pub repeat-returns-then-not-is_repeated-clause-done : goal.repeat-returns-then-not-is_repeated-clause-done
repeat-returns-then-not-is_repeated-clause-done g t c answers h =
    same-runs _ _ _ _ _ (acted-once g.W.World.profile (dispatch g.W.World.profile answers c.args.depth false) (act_within c.args.left g.W.World.profile (dispatch g.W.World.profile answers c.args.depth false) (fired_of c.args.fired.now)) (acting_of c.args.fired.now c.args.acting.now) (act_at (g.W.World.state c.args.world.now) c.args.acting.now.element) (g.W.World.state c.args.world.now) (search rules)) (c.once.ensures.done answers h)

pub repeat-loop-test-init : goal.repeat-loop-test-init
repeat-loop-test-init g t c =
    record { rest = λ answers h. acted-begins g.W.World.profile (dispatch g.W.World.profile answers c.args.depth false) (act_within c.args.left g.W.World.profile (dispatch g.W.World.profile answers c.args.depth false) (fired_of c.args.fired.now)) (acting_of c.args.fired.now c.args.acting.now) (act_at (g.W.World.state c.args.world.now) c.args.acting.now.element) (g.W.World.state c.args.world.now) _ (search rules) (omega arith); written = search rules; store = called-none _ _; kept = refl; form = refl }

pub repeat-returns-in_err-spend-clause-done : goal.repeat-returns-in_err-spend-clause-done
repeat-returns-in_err-spend-clause-done g t c answers h =
    stopped _ _ _ _ _ c.from_residual.ensures.1
    (same-refuses _ _ _ _ (c.loop-test.invariant.rest answers (covers-same answers _ _ c.in_err-spend.ensures.calls h))
    (tested-stops _ g.W.World.profile (acting_of c.args.fired.now c.args.acting.now) (repetition_in (act_at (g.W.World.state c.args.world.now) c.args.acting.now.element)) (once_done g.W.World.profile (dispatch g.W.World.profile answers c.args.depth false) (act_within c.args.left g.W.World.profile (dispatch g.W.World.profile answers c.args.depth false) (fired_of c.args.fired.now)) (acting_of c.args.fired.now c.args.acting.now) (act_at (g.W.World.state c.args.world.now) c.args.acting.now.element)) (g.W.World.state c.loop-test.world) _ _ (omega arith) c.loop-test.invariant.written c.in_err-spend.ensures.done))

pub repeat-returns-in_err-spend-clause-store : goal.repeat-returns-in_err-spend-clause-store
repeat-returns-in_err-spend-clause-store g t c =
    called-ahead _ c.loop-test.invariant.store c.in_err-spend.ensures.calls

pub repeat-returns-in_err-holds_repetition-clause-done : goal.repeat-returns-in_err-holds_repetition-clause-done
repeat-returns-in_err-holds_repetition-clause-done g t c answers h =
    stopped _ _ _ _ _ c.from_residual-in_err-holds_repetition.ensures.1
    (same-refuses _ _ _ _ (c.loop-test.invariant.rest answers (covers-same answers _ _ c.in_ok-spend.ensures.calls h))
    (tests-unread _ g.W.World.profile (dispatch g.W.World.profile answers c.args.depth false) (act_within c.args.left g.W.World.profile (dispatch g.W.World.profile answers c.args.depth false) (fired_of c.args.fired.now)) (acting_of c.args.fired.now c.args.acting.now) (g.W.World.state c.args.world.now) c.args.acting.now.element (g.W.World.state c.loop-test.world) (g.W.World.state c.spend.new.self) _ _ (omega arith) c.loop-test.invariant.written (c.in_ok-spend.ensures.form ∙ c.loop-test.invariant.form) c.in_ok-spend.ensures.done c.in_err-holds_repetition.ensures))

pub repeat-returns-in_err-holds_repetition-clause-store : goal.repeat-returns-in_err-holds_repetition-clause-store
repeat-returns-in_err-holds_repetition-clause-store g t c =
    called-ahead _ c.loop-test.invariant.store c.in_ok-spend.ensures.calls

pub repeat-returns-then-not-branch-clause-done : goal.repeat-returns-then-not-branch-clause-done
repeat-returns-then-not-branch-clause-done g t c answers h =
    c.loop-test.invariant.rest answers (covers-same answers _ _ c.in_ok-spend.ensures.calls h)
    ∙ tests-done _ g.W.World.profile (dispatch g.W.World.profile answers c.args.depth false) (act_within c.args.left g.W.World.profile (dispatch g.W.World.profile answers c.args.depth false) (fired_of c.args.fired.now)) (acting_of c.args.fired.now c.args.acting.now) (g.W.World.state c.args.world.now) c.args.acting.now.element (g.W.World.state c.loop-test.world) (g.W.World.state c.spend.new.self) c.in_ok-holds_repetition.field-0 (omega arith) c.loop-test.invariant.written (c.in_ok-spend.ensures.form ∙ c.loop-test.invariant.form) c.in_ok-spend.ensures.done c.in_ok-holds_repetition.ensures (search rules)

pub repeat-returns-then-not-branch-clause-store : goal.repeat-returns-then-not-branch-clause-store
repeat-returns-then-not-branch-clause-store g t c =
    called-ahead _ c.loop-test.invariant.store c.in_ok-spend.ensures.calls

pub repeat-returns-in_err-once-clause-done : goal.repeat-returns-in_err-once-clause-done
repeat-returns-in_err-once-clause-done g t c answers h =
    stopped _ _ _ _ _ c.from_residual-in_err-once.ensures.1
    (same-refuses _ _ _ _ (c.loop-test.invariant.rest answers (covers-same answers _ _ c.in_ok-spend.ensures.calls (covers-before _ _ c.in_err-once.ensures.store.grown answers h)))
    (tests-work_stops _ g.W.World.profile (dispatch g.W.World.profile answers c.args.depth false) (act_within c.args.left g.W.World.profile (dispatch g.W.World.profile answers c.args.depth false) (fired_of c.args.fired.now)) (acting_of c.args.fired.now c.args.acting.now) (g.W.World.state c.args.world.now) c.args.acting.now.element (g.W.World.state c.loop-test.world) (g.W.World.state c.spend.new.self) c.in_ok-holds_repetition.field-0 _ _ (omega arith) c.loop-test.invariant.written (c.in_ok-spend.ensures.form ∙ c.loop-test.invariant.form) c.in_ok-spend.ensures.done c.in_ok-holds_repetition.ensures (search rules)
    (c.in_err-once.ensures.done answers h)))

pub repeat-returns-in_err-once-clause-store : goal.repeat-returns-in_err-once-clause-store
repeat-returns-in_err-once-clause-store g t c =
    called-both (called-ahead _ c.loop-test.invariant.store c.in_ok-spend.ensures.calls) c.in_err-once.ensures.store

pub repeat-loop-test-preserved : goal.repeat-loop-test-preserved
repeat-loop-test-preserved g t c =
    record {
      rest = λ answers h.
          c.loop-test.invariant.rest answers (covers-same answers _ _ c.in_ok-spend.ensures.calls (covers-before _ _ c.in_ok-once.ensures.store.grown answers h))
          ∙ tests-next _ _ g.W.World.profile (dispatch g.W.World.profile answers c.args.depth false) (act_within c.args.left g.W.World.profile (dispatch g.W.World.profile answers c.args.depth false) (fired_of c.args.fired.now)) (acting_of c.args.fired.now c.args.acting.now) (g.W.World.state c.args.world.now) c.args.acting.now.element (g.W.World.state c.loop-test.world) (g.W.World.state c.spend.new.self) (g.W.World.state c.once-in-loop-test.new.world) c.in_ok-holds_repetition.field-0 (omega arith) (omega arith) c.loop-test.invariant.written
          (c.in_ok-spend.ensures.form ∙ c.loop-test.invariant.form) c.in_ok-spend.ensures.done c.in_ok-holds_repetition.ensures (search rules)
          (c.in_ok-once.ensures.done answers h);
      written = c.loop-test.invariant.written;
      store = called-both (called-ahead _ c.loop-test.invariant.store c.in_ok-spend.ensures.calls) c.in_ok-once.ensures.store;
      kept = c.in_ok-once.ensures.kept ∙ (c.in_ok-spend.ensures.kept ∙ c.loop-test.invariant.kept);
      form = c.in_ok-once.ensures.form ∙ (c.in_ok-spend.ensures.form ∙ c.loop-test.invariant.form);
    }

pub repeat-returns-clause-done : goal.repeat-returns-clause-done
repeat-returns-clause-done g t c answers h =
    same-refuses _ _ _ _ (c.loop-test.invariant.rest answers h ∙ tested-end _ g.W.World.profile (acting_of c.args.fired.now c.args.acting.now) (repetition_in (act_at (g.W.World.state c.args.world.now) c.args.acting.now.element)) (once_done g.W.World.profile (dispatch g.W.World.profile answers c.args.depth false) (act_within c.args.left g.W.World.profile (dispatch g.W.World.profile answers c.args.depth false) (fired_of c.args.fired.now)) (acting_of c.args.fired.now c.args.acting.now) (act_at (g.W.World.state c.args.world.now) c.args.acting.now.element)) (g.W.World.state c.loop-test.world) (omega arith) c.loop-test.invariant.written)
    (refuses-budget _ _ (g.W.World.state c.loop-test.world) c.budget.ensures)

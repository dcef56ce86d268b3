use Rattle.std.proofs.Common.{◌≡◌, ◌≤◌, ◌++◌, ◌∙◌, List, ℕ, length, ap, sym, take_all, arith}
use Rattle.std.specs.Prelude.{slice_get}
use Rattle.std.proofs.lemmas.Result.{IfOk-weaker}
use Rattle.xf_def_forest.specs.Order.{in_order}
use Rattle.xf_def_forest.specs.Visit.{visits}
use Rattle.xf_def_model.specs.Applied.{Entry}
use Rattle.xf_binds.specs.Held.{Held, entries_in}
use Rattle.xf_binds_rebuild.specs.Found.{calculated_at}
use Rattle.xf_binds_rebuild.specs.Links.{calculated_nodes}
use Rattle.xf_binds_rebuild.proofs.Placed.{calculated-next}
use Rattle.xf_binds_rebuild.proofs.Linked.{mapped-length}
use Rattle.xf_binds_rebuild.proofs.ring.calculated.Goals as goal

pub loop-at-preserved : goal.loop-at-preserved
loop-at-preserved c =
    c.in_ok-push_calculated.ensures ∙ ap (λ l. l ++ calculated_at (slice_get (entries_in c.args.applied.now) c.loop-at.at)) c.loop-at.invariant ∙ sym (calculated-next c.loop-at.at (entries_in c.args.applied.now))

pub returns : goal.returns
returns c =
    let entries = entries_in c.args.applied.now in
    let all : length entries ≤ c.loop-at.at = omega (arith, c.loop-at-test.false, c.len-at-end.ensures, mapped-length (λ (h : Held). h.entry) c.args.applied.now) in
    let whole : c.loop-at.nodes ≡ calculated_nodes entries = c.loop-at.invariant ∙ ap calculated_nodes (take_all c.loop-at.at entries all) in
    IfOk-weaker c.in_order.result _ _ (λ list h. h ∙ ap (in_order (visits c.args.forest.now.forest.nodes)) whole) c.in_order.ensures

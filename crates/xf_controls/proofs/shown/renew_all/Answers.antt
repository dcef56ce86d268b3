use Rattle.std.proofs.Common.{◌<◌, ◌≤◌, length, map, option_map, refl, sym, ap, ◌∙◌, subst}
use Rattle.std.proofs.lemmas.Result.{err_from_is_err_and}
use Rattle.xf_def_xpath.specs.declared.fault.EvalFault.TheVariants.{Long, Memory}
use Rattle.xf_eval.proofs.Bounded.{part-long}
use Rattle.xf_controls.specs.Former.{node_at}
use Rattle.xf_controls.specs.Renewed.{renewed, value_over}
use Rattle.xf_controls.specs.Seen.{number, seen_notification}
use Rattle.xf_controls.proofs.ShownLaws.{none-part, one-renewed, one-length, others-first, told-all, up-all, up-length, up-lost, up-there}
use Rattle.xf_controls.proofs.shown.renew_all.Goals.{In_ok-is_other}
use Rattle.xf_controls.proofs.shown.renew_all.Goals as goal

pub loop-place-init : goal.loop-place-init
loop-place-init c = (record { upto = refl; told = others-first c.args.list.now c.args.list.now (map seen_notification c.new-all.result) refl (ap (map seen_notification) c.new-all.ensures) }, refl)

pub renew_at-requires-clause-place : goal.renew_at-requires-clause-place
renew_at-requires-clause-place c =
    subst (λ k. c.loop-place.place < k) (c.len-place-end.ensures ∙ sym (up-length c.args.forest.now.forest.nodes c.loop-place.place c.args.list.now c.loop-place.list c.loop-place.invariant.0.upto)) c.loop-place-test.true

pub renew_at-requires-clause-there : goal.renew_at-requires-clause-there
renew_at-requires-clause-there c = up-there c.args.forest.now.forest.nodes c.loop-place.place c.args.list.now c.loop-place.list c.loop-place.invariant.0.upto c.requires.there

pub returns-in_err-is_other-clause-list : goal.returns-in_err-is_other-clause-list
returns-in_err-is_other-clause-list c =
    let nodes = c.args.forest.now.forest.nodes in
    let list = c.args.list.now in
    let less : c.loop-place.place < length list = subst (λ k. c.loop-place.place < k) c.len-place-end.ensures c.loop-place-test.true in
    let p = err_from_is_err_and c.from_residual.result c.from_residual.ensures.1 in
    rw (p.1, p.2) (part-long Memory Long _ _ (renewed nodes list) c.in_err-is_other.ensures.list
    (λ e. up-lost nodes c.loop-place.place list c.loop-place.list c.loop-place.invariant.0.upto less (none-part _ _ e)))

-- there are as many copies then
long : (c : In_ok-is_other) → c.loop-place.place < length c.renew_at.new.list
long c =
    let list = c.args.list.now in
    let place = c.loop-place.place in
    let nodes = c.args.forest.now.forest.nodes in
    let less : place < length list = subst (λ k. place < k) c.len-place-end.ensures c.loop-place-test.true in
    let same = one-length (value_over nodes (option_map number (node_at c.loop-place.list place))) place c.loop-place.list c.renew_at.new.list c.in_ok-is_other.ensures.list in
    subst (λ k. place < k) (sym (same ∙ up-length nodes place list c.loop-place.list c.loop-place.invariant.0.upto)) less

pub at-requires : goal.at-requires
at-requires c = long (goal.at.at-requires c).In_ok-is_other

pub loop-place-preserved : goal.loop-place-preserved
loop-place-preserved c =
    let nodes = c.args.forest.now.forest.nodes in
    let list = c.args.list.now in
    let new = c.renew_at.new.list in
    let less : c.loop-place.place < length list = subst (λ k. c.loop-place.place < k) c.len-place-end.ensures c.loop-place-test.true in (
      one-renewed nodes c.loop-place.place (map seen_notification c.loop-place.all) (map seen_notification c.push_if.new.all) list c.loop-place.list new c.in_ok-is_other.is_other c.at.result.now c.loop-place.invariant.0 less c.in_ok-is_other.ensures.list
          c.in_ok-is_other.ensures.told c.at.ensures c.in_ok-push_if.ensures,
      c.renew_at.ensures.kept ∙ c.loop-place.invariant.1,
    )

pub returns-clause-list : goal.returns-clause-list
returns-clause-list c =
    let list = c.args.list.now in
    let past : length list ≤ c.loop-place.place = subst (λ k. k ≤ c.loop-place.place) c.len-place-end.ensures c.loop-place-test.false in
    up-all c.args.forest.now.forest.nodes c.loop-place.place list c.loop-place.list c.loop-place.invariant.0.upto past

pub returns-clause-told : goal.returns-clause-told
returns-clause-told c =
    let nodes = c.args.forest.now.forest.nodes in
    let list = c.args.list.now in
    let past : length list ≤ c.loop-place.place = subst (λ k. k ≤ c.loop-place.place) c.len-place-end.ensures c.loop-place-test.false in
    told-all nodes list c.loop-place.list (map seen_notification c.loop-place.all) c.requires.rising (up-all nodes c.loop-place.place list c.loop-place.list c.loop-place.invariant.0.upto past) c.loop-place.invariant.0.told

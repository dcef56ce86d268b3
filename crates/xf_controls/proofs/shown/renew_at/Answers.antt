use Rattle.std.proofs.Common.{◌≡◌, not, Some, [], ◌∷◌, ◌++◌, get_or, option_map, sym, ap, ◌∙◌, subst}
use Rattle.std.proofs.lemmas.Result.{err_from_is_err_and}
use Rattle.xf_def_xpath.specs.declared.fault.EvalFault.TheVariants.{Long, Memory}
use Rattle.xf_eval.proofs.Bounded.{part-long}
use Rattle.xf_def_ui.specs.Notifications.{same_value}
use Rattle.xf_controls.specs.Former.{node_at, value_at, with_value_at}
use Rattle.xf_controls.specs.Renewed.{value_over}
use Rattle.xf_controls.specs.Seen.{IsThere, number}
use Rattle.xf_controls.proofs.ShownLaws.{get-node, get-value, had-value, put-noted, same-is, value-new, value-same}
use Rattle.xf_controls.proofs.shown.renew_at.Goals as goal

pub has_value-requires : goal.has_value-requires
has_value-requires c =
    let list = c.args.list.now in
    let copy = c.index-as_slice-place.result in
    let is : copy ≡ get_or list c.args.place copy = c.index-as_slice-place.is ∙ ap (λ l. get_or l c.args.place copy) c.as_slice.ensures in
    subst (λ k. IsThere k c.args.forest.now.forest.nodes) (sym (get-node list c.args.place copy c.requires.place is)) c.requires.there

pub value_over-requires : goal.value_over-requires
value_over-requires c =
    let list = c.args.list.now in
    let copy = c.index-as_slice-place.result in
    let is : copy ≡ get_or list c.args.place copy = c.index-as_slice-place.is ∙ ap (λ l. get_or l c.args.place copy) c.as_slice.ensures in
    subst (λ k. IsThere k c.args.forest.now.forest.nodes) (sym (get-node list c.args.place copy c.requires.place is)) c.requires.there

pub returns-then-has_value-clause-list : goal.returns-then-has_value-clause-list
returns-then-has_value-clause-list c =
    let list = c.args.list.now in
    let place = c.args.place in
    let copy = c.index-as_slice-place.result in
    let is : copy ≡ get_or list place copy = c.index-as_slice-place.is ∙ ap (λ l. get_or l place copy) c.as_slice.ensures in
    ap (λ k. option_map (λ v. with_value_at place v list) (value_over c.args.forest.now.forest.nodes (option_map number k))) (sym (get-node list place copy c.requires.place is))
    ∙ ap (option_map (λ v. with_value_at place v list)) c.if-has_value.ensures
    ∙ ap (λ v. Some (with_value_at place v list)) (get-value list place copy c.requires.place is) ∙ ap Some (value-same list place)

pub returns-in_err-value-clause-list : goal.returns-in_err-value-clause-list
returns-in_err-value-clause-list c =
    let list = c.args.list.now in
    let place = c.args.place in
    let copy = c.index-as_slice-place.result in
    let nodes = c.args.forest.now.forest.nodes in
    let is : copy ≡ get_or list place copy = c.index-as_slice-place.is ∙ ap (λ l. get_or l place copy) c.as_slice.ensures in
    let node = get-node list place copy c.requires.place is in
    let p = err_from_is_err_and c.from_residual.result c.from_residual.ensures.1 in
    rw (p.1, p.2) (part-long Memory Long _ _ (option_map (λ v. with_value_at place v list) (value_over nodes (option_map number (node_at list place)))) c.in_err-value.ensures
    (λ e. ap (option_map (λ v. with_value_at place v list)) (ap (λ k. value_over nodes (option_map number k)) (sym node) ∙ e)))

pub returns-then-same_value-clause-list : goal.returns-then-same_value-clause-list
returns-then-same_value-clause-list c =
    let list = c.args.list.now in
    let place = c.args.place in
    let copy = c.index-as_slice-place.result in
    let is : copy ≡ get_or list place copy = c.index-as_slice-place.is ∙ ap (λ l. get_or l place copy) c.as_slice.ensures in
    let same = same-is copy.value c.in_ok-value.value (sym c.same_value.ensures ∙ c.if-same_value.true) in
    ap (λ k. option_map (λ v. with_value_at place v list) (value_over c.args.forest.now.forest.nodes (option_map number k))) (sym (get-node list place copy c.requires.place is))
    ∙ ap (option_map (λ v. with_value_at place v list)) c.in_ok-value.ensures
    ∙ ap (λ v. Some (with_value_at place v list)) (sym same ∙ get-value list place copy c.requires.place is) ∙ ap Some (value-same list place)

pub returns-clause-list : goal.returns-clause-list
returns-clause-list c =
    let list = c.args.list.now in
    let place = c.args.place in
    let copy = c.index-as_slice-place.result in
    let is : copy ≡ get_or list place copy = c.index-as_slice-place.is ∙ ap (λ l. get_or l place copy) c.as_slice.ensures in
    ap (λ k. option_map (λ v. with_value_at place v list) (value_over c.args.forest.now.forest.nodes (option_map number k))) (sym (get-node list place copy c.requires.place is))
    ∙ ap (option_map (λ v. with_value_at place v list)) c.in_ok-value.ensures ∙ ap Some (sym c.swap_value-value.ensures.new)

pub returns-clause-told : goal.returns-clause-told
returns-clause-told c =
    let list = c.args.list.now in
    let place = c.args.place in
    let new = c.swap_value-value.new.self in
    let copy = c.index-as_slice-place.result in
    let is : copy ≡ get_or list place copy = c.index-as_slice-place.is ∙ ap (λ l. get_or l place copy) c.as_slice.ensures in
    sym (
    ap (λ v. not (same_value v (value_at new place))) (sym (get-value list place copy c.requires.place is))
    ∙ ap (λ v. not (same_value copy.value v)) (ap (λ l. value_at l place) c.swap_value-value.ensures.new ∙ value-new list place c.in_ok-value.value c.requires.place)
    ∙ ap not (sym c.same_value.ensures ∙ c.if-same_value.false))

pub returns-clause-kept : goal.returns-clause-kept
returns-clause-kept c =
    let list = c.args.list.now in
    let place = c.args.place in
    let was = c.swap_value-value.result in
    put-noted list c.swap_value-value.new.self c.args.former.now.items c.push_reserved.new.self.items place was c.in_ok-value.value (sym (had-value list place was c.swap_value-value.ensures.old)) c.swap_value-value.ensures.new
    (c.push_reserved.ensures.items ∙ ap (λ l. l ++ record { place = place; value = was } ∷ []) c.reserve.ensures.items)

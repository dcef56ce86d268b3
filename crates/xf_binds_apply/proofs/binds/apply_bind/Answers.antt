use Rattle.std.proofs.Common.{◌≡◌, ◌<◌, ℕ, List, [], Option, length, slice_get, Some, sym, ap, ◌∙◌, subst, rules, tests, arith}
use Rattle.std.specs.Prelude.{unwrap_or}
use Rattle.xf_def_syntax.specs.declared.form.Bind.{Bind}
use Rattle.xf_def_forest.specs.Shape.{shape_of}
use Rattle.xf_def_xpath.specs.Setting.{in_order, joined}
use Rattle.xf_def_model.specs.Applied.{entries_by, entries_on, properties_of}
use Rattle.xf_def_model.specs.Rules.{rule_of}
use Rattle.xf_binds.specs.Held.{entries_in}
use Rattle.xf_eval.proofs.Lives.{live-in_order, live-is}
use Rattle.xf_eval_shape.specs.Fixed.{is_fixed}
use Rattle.xf_binds_apply.specs.Adding.{Added, Tells, exception_after}
use Rattle.xf_binds_apply.specs.Reached.{AreKept, is_regular, scope_in, sets_in}
use Rattle.xf_binds_apply.proofs.Chains.{all-at, got, kept-more, through-regular, within}
use Rattle.xf_binds_apply.proofs.SetLaws.{one-order, sets-are, sets-ordered}
use Rattle.xf_binds_apply.proofs.binds.apply_bind.Goals as goal

pub sets_of-requires-clause-own : goal.sets_of-requires-clause-own
sets_of-requires-clause-own g c = all-at (λ (b : Bind). is_fixed b.node_set) c.args.binds.now (length c.args.reached.now.items) c.args.bind.now c.requires.fixed c.requires.here

pub sets_of-requires-clause-kept : goal.sets_of-requires-clause-kept
sets_of-requires-clause-kept g c = λ k ns h. c.requires.kept k ns (ap (λ l. slice_get l k) (sym c.deref.ensures.value) ∙ h)

pub overflow_cast-place : goal.overflow_cast-place
overflow_cast-place g c =
    let small : length c.args.reached.now.items < length c.args.binds.now = within c.args.binds.now (length c.args.reached.now.items) c.args.bind.now c.requires.here in
    search (rules, tests, small)

pub add_bind-requires : goal.add_bind-requires
add_bind-requires g c = live-is c.args.forest.now.forest.nodes c.in_ok-nodes.ensures (live-in_order c.in_ok-sets.sets.nodes c.args.forest.now.forest.nodes)

pub returns-in-Err-clause-added : goal.returns-in-Err-clause-added
returns-in-Err-clause-added g c =
    let given = g.A.Around.given c.args.around.now in
    let forest = c.args.forest.now.forest in
    let all = shape_of forest.nodes in
    let bind = c.args.bind.now in
    let sets = c.in_ok-sets.sets in
    let found = unwrap_or (sets_in given c.args.binds.now c.args.model forest.nodes bind) [] in
    let st = sets-are sets.nodes sets.places (sets_in given c.args.binds.now c.args.model forest.nodes bind) c.in_ok-sets.ensures.sets in
    let ps = properties_of (rule_of bind) in
    let long : c.len-place.result ≡ length c.args.reached.now.items = omega (arith, c.len-place.ensures, c.args.reached.now.ok) in
    let ordered : c.in_ok-nodes.nodes ≡ in_order all (joined found) = c.in_ok-nodes.ensures ∙ one-order forest c.is_sound.ensures sets.nodes c.in_ok-sets.ensures.shown ∙ ap (in_order all) st.all in
    let same : entries_on c.len-place.result found ps c.in_ok-nodes.nodes ≡ entries_by (scope_in given c.args.binds.now c.args.model) all (length c.args.reached.now.items) (rule_of bind) =
    ap (λ k. entries_on k found ps c.in_ok-nodes.nodes) long ∙ ap (entries_on (length c.args.reached.now.items) found ps) ordered in
    subst (λ l. Tells c.in-Err.e (exception_after all (entries_in c.args.applied.now) l)) same (c.in-Err.ensures found st)

pub returns-clause-added : goal.returns-clause-added
returns-clause-added g c =
    let given = g.A.Around.given c.args.around.now in
    let forest = c.args.forest.now.forest in
    let all = shape_of forest.nodes in
    let bind = c.args.bind.now in
    let sets = c.in_ok-sets.sets in
    let found = unwrap_or (sets_in given c.args.binds.now c.args.model forest.nodes bind) [] in
    let st = sets-are sets.nodes sets.places (sets_in given c.args.binds.now c.args.model forest.nodes bind) c.in_ok-sets.ensures.sets in
    let ps = properties_of (rule_of bind) in
    let long : c.len-place.result ≡ length c.args.reached.now.items = omega (arith, c.len-place.ensures, c.args.reached.now.ok) in
    let ordered : c.in_ok-nodes.nodes ≡ in_order all (joined found) = c.in_ok-nodes.ensures ∙ one-order forest c.is_sound.ensures sets.nodes c.in_ok-sets.ensures.shown ∙ ap (in_order all) st.all in
    let same : entries_on c.len-place.result found ps c.in_ok-nodes.nodes ≡ entries_by (scope_in given c.args.binds.now c.args.model) all (length c.args.reached.now.items) (rule_of bind) =
    ap (λ k. entries_on k found ps c.in_ok-nodes.nodes) long ∙ ap (entries_on (length c.args.reached.now.items) found ps) ordered in
    subst (λ l. Added all (entries_in c.args.applied.now) l (entries_in c.add_bind.new.applied)) same (c.in-Ok.ensures found st)

pub returns-clause-kept : goal.returns-clause-kept
returns-clause-kept g c =
    let given = g.A.Around.given c.args.around.now in
    let forest = c.args.forest.now.forest in
    let bs = c.args.binds.now in
    let bind = c.args.bind.now in
    let sets = c.in_ok-sets.sets in
    let k = length c.args.reached.now.items in
    let long : c.len-place.result ≡ k = omega (arith, c.len-place.ensures, c.args.reached.now.ok) in
    let ordered : c.in_ok-nodes.nodes ≡ in_order (shape_of forest.nodes) sets.nodes = c.in_ok-nodes.ensures ∙ one-order forest c.is_sound.ensures sets.nodes c.in_ok-sets.ensures.shown in
    subst (AreKept given bs c.args.model forest.nodes) (sym {A = List (Option (List ℕ))} c.in_ok-keep.ensures)
    (kept-more given bs c.args.model forest.nodes c.args.reached.now.items c.requires.kept c.is_regular.result c.in_ok-nodes.nodes
    (λ r. through-regular given bs c.args.model forest.nodes k bind (within bs k bind c.requires.here) (got bs k bind bind c.requires.here) (ap (is_regular bind.around) (sym long) ∙ sym c.is_regular.ensures ∙ r)
    ∙ sets-ordered forest.nodes sets.nodes sets.places (sets_in given bs c.args.model forest.nodes bind) c.in_ok-sets.ensures.sets ∙ ap Some (sym ordered))
    (live-is forest.nodes c.in_ok-nodes.ensures (live-in_order sets.nodes forest.nodes)))

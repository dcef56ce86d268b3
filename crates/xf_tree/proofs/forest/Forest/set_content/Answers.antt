use Rattle.std.proofs.Common.{◌≡◌, ℕ, ◌+◌, ◌-◌, ◌≤◌, length, map, false, Some, Ok, inr, sym, ap, ◌∙◌, subst, arith}
use Rattle.xf_def_forest.specs.declared.content.Kind.TheVariants.{Element}
use Rattle.xf_def_forest.specs.Forest.{kind_at}
use Rattle.xf_def_forest.specs.Visit.{visits}
use Rattle.xf_def_forest.specs.Shape.{has_elements}
use Rattle.xf_def_forest.specs.Limits.{limits, unless, all_size}
use Rattle.xf_def_forest.specs.Texts.{Before, Keeping, text_set}
use Rattle.xf_tree_walks.specs.Nodes.{StandsAt, node_of}
use Rattle.xf_tree_changes.specs.Texts.{passed_by, text_count, children, run_of}
use Rattle.xf_tree.specs.State.{keeping_of}
use Rattle.xf_tree.specs.Settled.{text_written}
use Rattle.xf_tree.proofs.AddLemmas.{moved-state}
use Rattle.xf_tree.proofs.ChildlessLemmas.{run-flat}
use Rattle.xf_tree.proofs.SetLemmas.{content-passed, no-attribute, set-written, depth-most}
use Rattle.xf_tree.proofs.SwapLemmas.{live-run}
use Rattle.xf_tree.proofs.SwappedLemmas.{count-few, size-few, swapped-state, swapped-view}
use Rattle.xf_tree.proofs.forest.Forest.set_content.Goals.{After-passed as Passed}
use Rattle.xf_tree.proofs.forest.Forest.set_content.Goals as goal

pub sums_of-sums-requires-clause-counted : goal.sums_of-sums-requires-clause-counted
sums_of-sums-requires-clause-counted c = count-few c.self.inside.slots c.self.inside.rows.items c.self.inside.kept.items c.self.inside.next c.self.inside.count c.self.inside.bytes _ c.self.invariant

pub sums_of-sums-requires-clause-small : goal.sums_of-sums-requires-clause-small
sums_of-sums-requires-clause-small c = size-few c.self.inside.slots c.self.inside.rows.items c.self.inside.kept.items c.self.inside.next c.self.inside.count c.self.inside.bytes _ c.self.invariant

-- where the element stands, and that it has texts only
stands-in : (c : Passed) → StandsAt c.self.inside.slots c.self.inside.rows.items c.args.node.number c.sums_of-sums.result.at
stands-in c = subst (StandsAt c.self.inside.slots c.self.inside.rows.items c.args.node.number) (sym c.sums_of-sums.ensures.at) c.in-Some.ensures

kind-in : (c : Passed) → kind_at c.args.node.number (map (node_of c.self.inside.slots) c.self.inside.rows.items) ≡ Some Element
kind-in c = ap (λ (k : Keeping). kind_at c.args.node.number k.forest.nodes) c.self.view_is ∙ c.requires.kind

childless-in : (c : Passed) → has_elements (visits (map (node_of c.self.inside.slots) c.self.inside.rows.items)) c.args.node.number ≡ false
childless-in c = ap (λ (k : Keeping). has_elements (visits k.forest.nodes) c.args.node.number) c.self.view_is ∙ c.requires.childless

passed-in : (c : Passed) → c.passed.result ≡ passed_by (c.self.inside.count - length (children c.self.inside.slots (run_of c.sums_of-sums.result.at c.self.inside.rows.items)) + text_count c.args.text.now) (length c.args.text.now)
    (c.self.inside.bytes - all_size (map (node_of c.self.inside.slots) (children c.self.inside.slots (run_of c.sums_of-sums.result.at c.self.inside.rows.items))) + length c.args.text.now)
passed-in c =
    c.passed.ensures ∙ ap (λ k. passed_by k (length c.args.text.now) c.sums_of-sums.result.bytes) c.sums_of-sums.ensures.count
    ∙ ap (λ b. passed_by (c.self.inside.count - length (children c.self.inside.slots (run_of c.sums_of-sums.result.at c.self.inside.rows.items)) + text_count c.args.text.now) (length c.args.text.now) b) c.sums_of-sums.ensures.bytes

-- the text has the next number, and the one behind it is next then
set-in : (c : Passed) → text_set limits c.args.node.number c.args.text.now c.args.self.now
    ≡ unless c.passed.result (text_written c.self.inside.next (c.self.inside.next + text_count c.args.text.now) c.args.node.number c.args.text.now c.args.self.now)
set-in c =
    let s = c.self.inside.slots in
    let n = c.args.node.number in
    let text = c.args.text.now in
    let rows = c.self.inside.rows.items in
    let next = c.self.inside.next in
    let at = c.sums_of-sums.result.at in
    let k = keeping_of s rows c.self.inside.kept.items next in
    let written : Keeping → Before × Keeping = text_written next (next + text_count text) n text in
    let none = no-attribute s n at next text rows c.self.inside.kept.items next c.self.inside.count c.self.inside.bytes _ c.self.invariant (stands-in c) (kind-in c) (childless-in c) in
    let limit = content-passed s n at text rows c.self.inside.kept.items next c.self.inside.count c.self.inside.bytes _ c.self.invariant (stands-in c) (kind-in c) (childless-in c) in
    ap (text_set limits n text) (sym c.self.view_is) ∙ set-written n text k none ∙ ap (λ o. unless o (written k)) (limit ∙ sym (passed-in c))
    ∙ ap (λ (k : Keeping). unless c.passed.result (written k)) c.self.view_is

pub returns-in-Some-passed-clause-answer : goal.returns-in-Some-passed-clause-answer
returns-in-Some-passed-clause-answer c =
    let p = (goal.at.returns-in-Some-passed-clause-answer c).After-passed in
    inr (set-in p ∙ ap (λ o. unless o (text_written c.self.inside.next (c.self.inside.next + text_count c.args.text.now) c.args.node.number c.args.text.now c.args.self.now)) c.in-Some-passed.is)

pub swap_texts-requires-clause-deep : goal.swap_texts-requires-clause-deep
swap_texts-requires-clause-deep c =
    let p = (goal.at.swap_texts-requires-clause-deep c).After-passed in
    depth-most c.sums_of-sums.result.at c.self.inside.rows.items (stands-in p).within c.self.invariant.sound.steps (omega (arith, c.self.invariant.sound.few))

pub swap_texts-requires-clause-flat : goal.swap_texts-requires-clause-flat
swap_texts-requires-clause-flat c =
    let p = (goal.at.swap_texts-requires-clause-flat c).After-passed in
    run-flat c.self.inside.slots c.args.node.number c.sums_of-sums.result.at c.self.inside.rows.items c.self.inside.kept.items c.self.inside.next c.self.invariant.sound (stands-in p) (kind-in p) (childless-in p)

pub swap_texts-requires-clause-live : goal.swap_texts-requires-clause-live
swap_texts-requires-clause-live c =
    let p = (goal.at.swap_texts-requires-clause-live c).After-passed in
    live-run c.self.inside.slots c.args.node.number c.sums_of-sums.result.at c.self.inside.rows.items c.self.inside.kept.items c.self.inside.next c.self.invariant.sound (stands-in p) (kind-in p) (childless-in p)

pub invariant_of-self : goal.invariant_of-self
invariant_of-self c =
    moved-state c.self.inside.slots c.swap_texts.new.slots c.self.inside.rows.items c.swap_texts.new.rows.items c.self.inside.kept.items c.swap_texts.new.kept.items c.self.inside.next c.self.inside.count c.self.inside.bytes _ _
    c.in_err-had.ensures.same c.in_err-had.ensures.rows c.in_err-had.ensures.kept c.swap_texts.ensures.spare c.self.invariant

pub invariant_of-self-2 : goal.invariant_of-self-2
invariant_of-self-2 c =
    let p = (goal.at.invariant_of-self-2 c).After-passed in
    let next = c.self.inside.next in
    let below : next + text_count c.args.text.now ≤ next + c.sums_of-sums.result.more = omega (arith, c.sums_of-sums.ensures.more) in
    swapped-state c.self.inside.slots c.swap_texts.new.slots c.args.node.number c.sums_of-sums.result.at next c.args.text.now c.self.inside.rows.items c.swap_texts.new.rows.items c.self.inside.kept.items c.swap_texts.new.kept.items _
    next c.self.inside.count c.self.inside.bytes _ _ c.self.invariant (stands-in p) (kind-in p) (childless-in p) c.in_ok-had.ensures.ok (next + c.sums_of-sums.result.more) c.sums_of-sums.result.count c.sums_of-sums.result.bytes
    (c.self.invariant.sound.fresh next (omega arith)) (omega arith) below (omega arith) c.sums_of-sums.ensures.count c.sums_of-sums.ensures.bytes

pub returns-clause-answer : goal.returns-clause-answer
returns-clause-answer c =
    let p = (goal.at.returns-clause-answer c).After-passed in
    let n = c.args.node.number in
    let text = c.args.text.now in
    let next = c.self.inside.next in
    let more = c.sums_of-sums.result.more in
    let written : ℕ → Before × Keeping = λ next2. text_written next next2 n text c.args.self.now in
    let view = swapped-view c.self.inside.slots c.swap_texts.new.slots n c.sums_of-sums.result.at next text c.self.inside.rows.items c.swap_texts.new.rows.items c.self.inside.kept.items c.swap_texts.new.kept.items _
    next c.self.inside.count c.self.inside.bytes _ _ c.self.invariant (stands-in p) (kind-in p) (childless-in p) c.in_ok-had.ensures.ok (next + more) in
    set-in p ∙ ap (λ o. unless o (written (next + text_count text))) c.in_default-passed.is
    ∙ ap (λ m. Ok (written (next + m))) (sym c.sums_of-sums.ensures.more) ∙ ap Ok (sym (view ∙ ap (text_written next (next + more) n text) c.self.view_is))

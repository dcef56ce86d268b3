use Rattle.std.proofs.Common.{◌≡◌, ◌+◌, ◌≤◌, map, Some, false, sym, ap, ◌∙◌, subst, arith}
use Rattle.xf_def_forest.specs.declared.content.Kind.TheVariants.{Element}
use Rattle.xf_def_forest.specs.Forest.{kind_at}
use Rattle.xf_def_forest.specs.Visit.{visits}
use Rattle.xf_def_forest.specs.Shape.{has_elements}
use Rattle.xf_def_forest.specs.Texts.{Keeping}
use Rattle.xf_tree_contents.specs.Keys.{kept_of, kept_times}
use Rattle.xf_tree_walks.specs.Nodes.{StandsAt, node_of, times}
use Rattle.xf_tree.specs.Settled.{text_written}
use Rattle.xf_tree.proofs.AddLemmas.{moved-state}
use Rattle.xf_tree.proofs.ChildlessLemmas.{run-flat}
use Rattle.xf_tree.proofs.SetLemmas.{depth-most}
use Rattle.xf_tree.proofs.SwapLemmas.{live-run}
use Rattle.xf_tree.proofs.SwappedLemmas.{count-few, size-few, swapped-state, swapped-view}
use Rattle.xf_tree.proofs.forest.Forest.write_content.Goals.{After-sums_of-sums as Summed}
use Rattle.xf_tree.proofs.forest.Forest.write_content.Goals as goal

pub sums_of-sums-requires-clause-counted : goal.sums_of-sums-requires-clause-counted
sums_of-sums-requires-clause-counted c = count-few c.self.inside.slots c.self.inside.rows.items c.self.inside.kept.items c.self.inside.next c.self.inside.count c.self.inside.bytes _ c.self.invariant

pub sums_of-sums-requires-clause-small : goal.sums_of-sums-requires-clause-small
sums_of-sums-requires-clause-small c = size-few c.self.inside.slots c.self.inside.rows.items c.self.inside.kept.items c.self.inside.next c.self.inside.count c.self.inside.bytes _ c.self.invariant

-- where the element stands, and that it has texts only
stands-in : (c : Summed) → StandsAt c.self.inside.slots c.self.inside.rows.items c.args.node.number c.sums_of-sums.result.at
stands-in c = subst (StandsAt c.self.inside.slots c.self.inside.rows.items c.args.node.number) (sym c.sums_of-sums.ensures.at) c.in-Some.ensures

kind-in : (c : Summed) → kind_at c.args.node.number (map (node_of c.self.inside.slots) c.self.inside.rows.items) ≡ Some Element
kind-in c = ap (λ (k : Keeping). kind_at c.args.node.number k.forest.nodes) c.self.view_is ∙ c.requires.kind

childless-in : (c : Summed) → has_elements (visits (map (node_of c.self.inside.slots) c.self.inside.rows.items)) c.args.node.number ≡ false
childless-in c = ap (λ (k : Keeping). has_elements (visits k.forest.nodes) c.args.node.number) c.self.view_is ∙ c.requires.childless

pub swap_texts-requires-clause-deep : goal.swap_texts-requires-clause-deep
swap_texts-requires-clause-deep c =
    let p = (goal.at.swap_texts-requires-clause-deep c).After-sums_of-sums in
    depth-most c.sums_of-sums.result.at c.self.inside.rows.items (stands-in p).within c.self.invariant.sound.steps (omega (arith, c.self.invariant.sound.few))

pub swap_texts-requires-clause-flat : goal.swap_texts-requires-clause-flat
swap_texts-requires-clause-flat c =
    let p = (goal.at.swap_texts-requires-clause-flat c).After-sums_of-sums in
    run-flat c.self.inside.slots c.args.node.number c.sums_of-sums.result.at c.self.inside.rows.items c.self.inside.kept.items c.self.inside.next c.self.invariant.sound (stands-in p) (kind-in p) (childless-in p)

pub swap_texts-requires-clause-live : goal.swap_texts-requires-clause-live
swap_texts-requires-clause-live c =
    let p = (goal.at.swap_texts-requires-clause-live c).After-sums_of-sums in
    live-run c.self.inside.slots c.args.node.number c.sums_of-sums.result.at c.self.inside.rows.items c.self.inside.kept.items c.self.inside.next c.self.invariant.sound (stands-in p) (kind-in p) (childless-in p)

pub invariant_of-self : goal.invariant_of-self
invariant_of-self c =
    moved-state c.self.inside.slots c.swap_texts.new.slots c.self.inside.rows.items c.swap_texts.new.rows.items c.self.inside.kept.items c.swap_texts.new.kept.items c.self.inside.next c.self.inside.count c.self.inside.bytes _ _
    c.in_err-had.ensures.same c.in_err-had.ensures.rows c.in_err-had.ensures.kept c.swap_texts.ensures.spare c.self.invariant

pub invariant_of-self-2 : goal.invariant_of-self-2
invariant_of-self-2 c =
    let p = (goal.at.invariant_of-self-2 c).After-sums_of-sums in
    let number = c.args.number in
    let s = c.self.inside.slots in
    let rows = c.self.inside.rows.items in
    let kept = c.self.inside.kept.items in
    let free : times number (map (node_of s) rows) + kept_times number (map (kept_of s) kept) ≡ 0 =
    subst (λ (k : Keeping). times number k.forest.nodes + kept_times number k.kept ≡ 0) (sym c.self.view_is) c.requires.number.free in
    let later : c.self.inside.next ≤ c.args.next = subst (λ (k : Keeping). k.forest.next ≤ c.args.next) (sym c.self.view_is) c.requires.number.later in
    swapped-state s c.swap_texts.new.slots c.args.node.number c.sums_of-sums.result.at number c.args.text.now rows c.swap_texts.new.rows.items kept c.swap_texts.new.kept.items _ c.self.inside.next c.self.inside.count c.self.inside.bytes _ _
    c.self.invariant (stands-in p) (kind-in p) (childless-in p) c.in_ok-had.ensures.ok c.args.next c.sums_of-sums.result.count c.sums_of-sums.result.bytes free later c.requires.number.below (omega arith)
    c.sums_of-sums.ensures.count c.sums_of-sums.ensures.bytes

pub returns-clause-ok : goal.returns-clause-ok
returns-clause-ok c =
    let p = (goal.at.returns-clause-ok c).After-sums_of-sums in
    swapped-view c.self.inside.slots c.swap_texts.new.slots c.args.node.number c.sums_of-sums.result.at c.args.number c.args.text.now c.self.inside.rows.items c.swap_texts.new.rows.items c.self.inside.kept.items c.swap_texts.new.kept.items _
    c.self.inside.next c.self.inside.count c.self.inside.bytes _ _ c.self.invariant (stands-in p) (kind-in p) (childless-in p) c.in_ok-had.ensures.ok c.args.next
    ∙ ap (text_written c.args.number c.args.next c.args.node.number c.args.text.now) c.self.view_is

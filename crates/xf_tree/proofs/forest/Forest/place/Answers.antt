use Rattle.std.proofs.Common.{◌≡◌, ◌==◌, List, Some, map, get_or, false, true, option_map, inl, inr, sym, ap, ◌∙◌, subst}
use Rattle.slab.specs.Slab.{get}
use Rattle.xf_def_forest.specs.declared.content.Node.{Node}
use Rattle.xf_def_forest.specs.Forest.{has_number, kind_of, kind_at, tree_of, is_root, is_element, is_attribute}
use Rattle.xf_def_forest.specs.Changes.{placed}
use Rattle.xf_def_forest.specs.Needs.{is_top, goes_below}
use Rattle.xf_def_forest.specs.Texts.{Keeping}
use Rattle.xf_tree_rows.specs.Rows.{no_row}
use Rattle.xf_tree_contents.specs.Keys.{kept_of, content_in}
use Rattle.xf_tree_walks.specs.Leaves.{is_leaf}
use Rattle.xf_tree_walks.specs.Nodes.{StandsAt, node_of}
use Rattle.xf_tree_walks.proofs.PlaceLemmas.{stands}
use Rattle.xf_tree.proofs.MeansLemmas.{one_of, content-means}
use Rattle.xf_tree.proofs.AddLemmas.{named-meets, zero-depth, element-is}
use Rattle.xf_tree.proofs.NeedLemmas.{none-named, none-kind, node-kind, parent-kind, attribute-parent, attribute-kind, no-root_content, no-leaf_content}
use Rattle.xf_tree.proofs.AttachLemmas.{stands-outside, placed-means}
use Rattle.xf_tree.proofs.AttachedLemmas.{placed-state}
use Rattle.xf_tree.proofs.forest.Forest.place.Goals.{In-Some}
use Rattle.xf_def_forest.specs.declared.content.Kind.TheVariants as kind
use Rattle.xf_tree.proofs.forest.Forest.place.Goals as goal

pub returns-in_default : goal.returns-in_default
returns-in_default c =
    let n = c.args.node.number in
    let m = c.args.parent.number in
    let nodes = map (node_of c.self.inside.slots) c.self.inside.rows.items in
    let top = subst (λ (k : Keeping). is_top n k.forest.nodes ≡ true) (sym c.self.view_is) c.requires.detached in
    let may = subst (λ (k : Keeping). goes_below (kind_at n k.forest.nodes) (kind_at m k.forest.nodes) ≡ true) (sym c.self.view_is) c.requires.kinds in
    absurd (
    elim c.in_default.ensures.none [
      | inl absent ↦ none-named n (λ (x : Node). x.depth == 0) _ absent top
      | inr absent ↦ elim (parent-kind (kind_at n nodes) _ may) [ inl e ↦ none-kind m kind.Element _ absent e | inr e ↦ none-kind m kind.Root _ absent e ]
    ]
    )

-- where the node's row stands, and the parent's
node-here : (c : In-Some) → StandsAt c.self.inside.slots c.self.inside.rows.items c.args.node.number c.in-Some.at
node-here c = c.in-Some.ensures.node

parent-here : (c : In-Some) → StandsAt c.self.inside.slots c.self.inside.rows.items c.args.parent.number c.in-Some.above
parent-here c = c.in-Some.ensures.parent

-- what kinds of nodes they are
kinds-there : (c : In-Some) → goes_below (Some (kind_of (content_in (get c.self.inside.slots (get_or c.self.inside.rows.items c.in-Some.at no_row).key))))
    (Some (kind_of (content_in (get c.self.inside.slots (get_or c.self.inside.rows.items c.in-Some.above no_row).key)))) ≡ true
kinds-there c =
    let n = c.args.node.number in
    let m = c.args.parent.number in
    let s = c.self.inside.slots in
    let rows = c.self.inside.rows.items in
    let kept = c.self.inside.kept.items in
    let one = ap (option_map kind_of) (content-means s n c.in-Some.at rows kept c.self.inside.next c.self.invariant.sound (node-here c)) in
    let two = ap (option_map kind_of) (content-means s m c.in-Some.above rows kept c.self.inside.next c.self.invariant.sound (parent-here c)) in
    let may = subst (λ (k : Keeping). goes_below (kind_at n k.forest.nodes) (kind_at m k.forest.nodes) ≡ true) (sym c.self.view_is) c.requires.kinds in
    ap (λ k. goes_below k (Some (kind_of (content_in (get s (get_or rows c.in-Some.above no_row).key))))) (sym one) ∙ ap (goes_below (kind_at n (map (node_of s) rows))) (sym two) ∙ may

at-top : (c : In-Some) → (get_or c.self.inside.rows.items c.in-Some.at no_row).depth ≡ 0
at-top c =
    let n = c.args.node.number in
    let s = c.self.inside.slots in
    let rows = c.self.inside.rows.items in
    let may = subst (λ (k : Keeping). is_top n k.forest.nodes ≡ true) (sym c.self.view_is) c.requires.detached in
    zero-depth (get_or rows c.in-Some.at no_row).depth
    (named-meets n (λ (x : Node). x.depth == 0) _ _ _ _ (stands s n c.in-Some.at rows (node-here c) (one_of s rows c.self.inside.kept.items c.self.inside.next n c.self.invariant.sound)) may)

pub place_tree-requires-clause-top : goal.place_tree-requires-clause-top
place_tree-requires-clause-top c = at-top (goal.at.place_tree-requires-clause-top c).In-Some

pub place_tree-requires-clause-outside : goal.place_tree-requires-clause-outside
place_tree-requires-clause-outside c =
    let k = (goal.at.place_tree-requires-clause-outside c).In-Some in
    let n = c.args.node.number in
    let m = c.args.parent.number in
    let s = c.self.inside.slots in
    let rows = c.self.inside.rows.items in
    let outside = subst (λ (q : Keeping). has_number m (tree_of n q.forest.nodes) ≡ false) (sym c.self.view_is) c.requires.outside in
    stands-outside s n m c.in-Some.at c.in-Some.above rows (node-here k) (parent-here k) (one_of s rows c.self.inside.kept.items c.self.inside.next n c.self.invariant.sound) outside

no-root_there : (c : In-Some) → is_root (content_in (get c.self.inside.slots (get_or c.self.inside.rows.items c.in-Some.at no_row).key)) ≡ false
no-root_there c = no-root_content _ (node-kind _ _ (kinds-there c))

no-leaf_there : (c : In-Some) → is_leaf (content_in (get c.self.inside.slots (get_or c.self.inside.rows.items c.in-Some.above no_row).key)) ≡ false
no-leaf_there c = no-leaf_content _ (parent-kind (Some (kind_of (content_in (get c.self.inside.slots (get_or c.self.inside.rows.items c.in-Some.at no_row).key)))) _ (kinds-there c))

element-there : (c : In-Some) → is_attribute (content_in (get c.self.inside.slots (get_or c.self.inside.rows.items c.in-Some.at no_row).key)) ≡ true
    → is_element (content_in (get c.self.inside.slots (get_or c.self.inside.rows.items c.in-Some.above no_row).key)) ≡ true
element-there c is =
    let parent = Some (kind_of (content_in (get c.self.inside.slots (get_or c.self.inside.rows.items c.in-Some.above no_row).key))) in
    element-is _ (attribute-parent parent (subst (λ k. goes_below (Some k) parent ≡ true) (attribute-kind _ is) (kinds-there c)))

pub invariant_of-self : goal.invariant_of-self
invariant_of-self c =
    let k = (goal.at.invariant_of-self c).In-Some in
    placed-state c.self.inside.slots c.args.node.number c.args.parent.number c.in-Some.at c.in-Some.above c.args.place c.self.inside.next c.self.inside.count c.self.inside.bytes _
    c.self.inside.kept.items c.self.inside.rows.items c.place_tree.new.rows.items c.self.invariant (node-here k) (parent-here k) (at-top k) c.place_tree.ensures.answer (no-root_there k) (no-leaf_there k) (element-there k)
    c.place_tree.ensures.sized _ c.place_tree.ensures.room

pub returns : goal.returns
returns c =
    let k = (goal.at.returns c).In-Some in
    let n = c.args.node.number in
    let m = c.args.parent.number in
    let s = c.self.inside.slots in
    let kept = c.self.inside.kept.items in
    let next = c.self.inside.next in
    let e = placed-means s n m c.in-Some.at c.in-Some.above c.args.place next kept c.self.inside.rows.items c.place_tree.new.rows.items c.self.invariant.sound (node-here k) (parent-here k) (at-top k)
    c.place_tree.ensures.answer in
    let whole : List Node → Keeping = λ l. record { forest = record { nodes = l; next = next }; kept = map (kept_of s) kept } in
    ap whole e ∙ ap (λ (q : Keeping). record q { forest = placed n m c.args.place q.forest }) c.self.view_is

use Rattle.std.proofs.Common.{◌≡◌, ◌+◌, ◌^◌, ◌<◌, ◌≤◌, ◌==◌, Some, true, length, get_or, option_map, refl, sym, ap, ◌∙◌, subst, arith}
use Rattle.slab.specs.Slab.{get}
use Rattle.xf_def_forest.specs.declared.content.Node.{Node}
use Rattle.xf_def_forest.specs.Changes.{with_root}
use Rattle.xf_def_forest.specs.Forest.{kind_of, kind_at, is_element}
use Rattle.xf_def_forest.specs.Needs.{is_top}
use Rattle.xf_def_forest.specs.Texts.{Keeping}
use Rattle.xf_tree_rows.specs.Rows.{no_row}
use Rattle.xf_tree_contents.specs.Keys.{content_in}
use Rattle.xf_tree_walks.specs.Nodes.{StandsAt}
use Rattle.xf_tree_walks.proofs.PlaceLemmas.{stands}
use Rattle.xf_tree_changes.proofs.PushLemmas.{insert-keeps}
use Rattle.xf_tree.specs.State.{IsState, keeping_of}
use Rattle.xf_tree.proofs.MeansLemmas.{one_of, content-means}
use Rattle.xf_tree.proofs.AddLemmas.{moved-state, moved-view, kept-same, kept-texts, named-meets, zero-depth, element-is, stands-same}
use Rattle.xf_tree.proofs.OverLemmas.{over-state, over-view}
use Rattle.xf_tree.proofs.forest.Forest.add_root.Goals.{After-root_over-place}
use Rattle.xf_def_forest.specs.declared.content.Kind.TheVariants as kind
use Rattle.xf_tree.proofs.forest.Forest.add_root.Goals as goal

pub make_way-requires : goal.make_way-requires
make_way-requires c = omega (arith, c.len-kept.ensures, c.self.inside.kept.ok.0, c.self.invariant.sound.few)

pub invariant_of-self : goal.invariant_of-self
invariant_of-self c =
    moved-state c.self.inside.slots c.make_way.new.slots c.self.inside.rows.items c.make_way.new.rows.items c.self.inside.kept.items c.self.inside.kept.items c.self.inside.next c.self.inside.count c.self.inside.bytes _ _
    c.make_way.ensures.same c.make_way.ensures.items refl c.make_way.ensures.spare c.self.invariant

pub root_over-place-requires-clause-top : goal.root_over-place-requires-clause-top
root_over-place-requires-clause-top c =
    let n = c.args.top.number in
    let s = c.self.inside.slots in
    let rows = c.self.inside.rows.items in
    let at = c.in-Some.at in
    let here = c.in-Some.ensures in
    let may = subst (λ (k : Keeping). is_top n k.forest.nodes ≡ true) (sym c.self.view_is) c.requires.may.detached in
    let top = named-meets n (λ (x : Node). x.depth == 0) _ _ _ _ (stands s n at rows here (one_of s rows c.self.inside.kept.items c.self.inside.next n c.self.invariant.sound)) may in
    ap (λ r. (get_or r at no_row).depth) c.make_way.ensures.items ∙ zero-depth (get_or rows at no_row).depth top

-- the state before the root came in, with the room that was made
reserved : (c : After-root_over-place) → IsState c.make_way.new.slots c.make_way.new.rows.items c.self.inside.kept.items c.self.inside.next c.self.inside.count c.self.inside.bytes c.make_way.new.rows.capacity
reserved c =
    moved-state c.self.inside.slots c.make_way.new.slots c.self.inside.rows.items c.make_way.new.rows.items c.self.inside.kept.items c.self.inside.kept.items c.self.inside.next c.self.inside.count c.self.inside.bytes _ _
    c.make_way.ensures.same c.make_way.ensures.items refl c.make_way.ensures.spare c.self.invariant

standing-here : (c : After-root_over-place) → StandsAt c.self.inside.slots c.self.inside.rows.items c.args.top.number c.in-Some.at
standing-here c = c.in-Some.ensures

standing-reserved : (c : After-root_over-place) → StandsAt c.make_way.new.slots c.make_way.new.rows.items c.args.top.number c.in-Some.at
standing-reserved c =
    stands-same c.self.inside.slots c.make_way.new.slots c.self.inside.rows.items c.make_way.new.rows.items c.args.top.number c.in-Some.at
    (c.make_way.ensures.same) c.make_way.ensures.items (standing-here c)

at-top : (c : After-root_over-place) → (get_or c.make_way.new.rows.items c.in-Some.at no_row).depth ≡ 0
at-top c =
    let n = c.args.top.number in
    let s = c.self.inside.slots in
    let rows = c.self.inside.rows.items in
    let at = c.in-Some.at in
    let may = subst (λ (k : Keeping). is_top n k.forest.nodes ≡ true) (sym c.self.view_is) c.requires.may.detached in
    let top = named-meets n (λ (x : Node). x.depth == 0) _ _ _ _ (stands s n at rows (standing-here c) (one_of s rows c.self.inside.kept.items c.self.inside.next n c.self.invariant.sound)) may in
    ap (λ r. (get_or r at no_row).depth) c.make_way.ensures.items ∙ zero-depth (get_or rows at no_row).depth top

element-there : (c : After-root_over-place) → is_element (content_in (get c.make_way.new.slots (get_or c.make_way.new.rows.items c.in-Some.at no_row).key)) ≡ true
element-there c =
    let n = c.args.top.number in
    let s = c.self.inside.slots in
    let s1 = c.make_way.new.slots in
    let rows = c.self.inside.rows.items in
    let at = c.in-Some.at in
    let element = subst (λ (k : Keeping). kind_at n k.forest.nodes ≡ Some kind.Element) (sym c.self.view_is) c.requires.may.kind in
    let means = ap (option_map kind_of) (content-means s n at rows c.self.inside.kept.items c.self.inside.next c.self.invariant.sound (standing-here c)) in
    let is = element-is (content_in (get s (get_or rows at no_row).key)) (sym means ∙ element) in
    ap (λ r. is_element (content_in (get s1 (get_or r at no_row).key))) c.make_way.ensures.items
    ∙ ap (λ o. is_element (content_in o)) (c.make_way.ensures.same (get_or rows at no_row).key) ∙ is

pub invariant_of-self-2 : goal.invariant_of-self-2
invariant_of-self-2 c =
    let k = (goal.at.invariant_of-self-2 c).After-root_over-place in
    let rows = c.make_way.new.rows.items in
    let kept = c.self.inside.kept.items in
    let short = ap length c.make_way.ensures.items in
    let few : length rows + 1 + length kept < 2 ^ 31 = omega (arith, c.in_ok-make_way.ensures.few, short, c.len-kept.ensures, c.self.inside.kept.ok.0) in
    let most : length rows + 1 + length kept ≤ c.root_over-place.new.rows.capacity =
    omega (arith, c.in_ok-make_way.ensures.row, short, c.root_over-place.ensures.room, c.len-kept.ensures, c.self.inside.kept.ok.0) in
    over-state c.make_way.new.slots c.root_over-place.new.slots c.args.top.number c.in-Some.at c.root_over-place.result c.self.inside.next c.self.inside.count c.self.inside.bytes _ rows c.root_over-place.new.rows.items kept
    (reserved k) (standing-reserved k) (at-top k) c.root_over-place.ensures.answer c.root_over-place.new.rows.capacity (element-there k) few most

pub returns-clause-ok : goal.returns-clause-ok
returns-clause-ok c =
    let k = (goal.at.returns-clause-ok c).After-root_over-place in
    let n = c.args.top.number in
    let s = c.self.inside.slots in
    let kept = c.self.inside.kept.items in
    let next = c.self.inside.next in
    let over = over-view c.make_way.new.slots c.root_over-place.new.slots n c.in-Some.at c.root_over-place.result next c.self.inside.count c.self.inside.bytes _ c.make_way.new.rows.items c.root_over-place.new.rows.items kept
    (reserved k) (standing-reserved k) (at-top k) c.root_over-place.ensures.answer in
    let before : keeping_of c.make_way.new.slots c.make_way.new.rows.items kept next ≡ c.args.self.now =
    moved-view s c.make_way.new.slots c.self.inside.rows.items c.make_way.new.rows.items kept kept next c.make_way.ensures.same c.make_way.ensures.items refl c.self.invariant.sound ∙ c.self.view_is in
    over ∙ ap (λ (q : Keeping). with_root n q.forest) before

pub returns-clause-kept : goal.returns-clause-kept
returns-clause-kept c =
    let s = c.self.inside.slots in
    let s1 = c.make_way.new.slots in
    let kept = c.self.inside.kept.items in
    let over = c.root_over-place.ensures.answer in
    let same = c.make_way.ensures.same in
    let texts = c.self.invariant.sound.kept_live in
    kept-same s1 c.root_over-place.new.slots kept (kept-texts s s1 kept texts (λ key some. same key)) (insert-keeps s1 c.root_over-place.new.slots c.root_over-place.result _ over.vacant over.slot)
    ∙ kept-same s s1 kept texts (λ key some. same key) ∙ ap (λ (q : Keeping). q.kept) c.self.view_is

use Rattle.std.proofs.Common.{◌≡◌, ◌-◌, ◌≤◌, List, length, map, take, drop, Some, false, sym, ap, ◌∙◌, subst, arith}
use Rattle.std.specs.Prelude.{filter}
use Rattle.std.proofs.lemmas.Bool.{true≢false}
use Rattle.xf_def_forest.specs.declared.node.NodeId.{NodeId}
use Rattle.xf_def_forest.specs.declared.content.Kind.TheVariants.{Element}
use Rattle.xf_def_forest.specs.Forest.{kind_at, has_number}
use Rattle.xf_def_forest.specs.Visit.{visits}
use Rattle.xf_def_forest.specs.Shape.{has_elements}
use Rattle.xf_def_forest.specs.Texts.{Keeping, element_texts, put_back}
use Rattle.xf_tree_walks.specs.Nodes.{StandsAt, node_of}
use Rattle.xf_tree_changes.specs.Texts.{numbers_in, places_of, is_wanted}
use Rattle.xf_tree.specs.State.{IsState, keeping_of}
use Rattle.xf_tree.proofs.DropLemmas.{rest-of}
use Rattle.xf_tree.proofs.MeansLemmas.{one_of}
use Rattle.xf_tree.proofs.ValueLemmas.{kind-live}
use Rattle.xf_tree.proofs.ChildlessLemmas.{run-flat}
use Rattle.xf_tree.proofs.SetLemmas.{depth-most}
use Rattle.xf_tree.proofs.SwappedLemmas.{count-few, size-few}
use Rattle.xf_tree.proofs.BackLemmas.{wanted-long, state-back, view-back}
use Rattle.xf_tree.proofs.forest.Forest.put_texts.Goals.{After-deref as Wanted}
use Rattle.xf_tree.proofs.forest.Forest.put_texts.Goals as goal

pub returns-in_default : goal.returns-in_default
returns-in_default c =
    let n = c.args.node.number in
    let s = c.self.inside.slots in
    let rows = c.self.inside.rows.items in
    let kind = ap (λ (k : Keeping). kind_at n k.forest.nodes) c.self.view_is ∙ c.requires.kind in
    let absent : has_number n (map (node_of s) rows) ≡ false = c.in_default.ensures in
    absurd (true≢false (sym (kind-live n Element (map (node_of s) rows) kind) ∙ absent))

stands-in : (c : Wanted) → StandsAt c.self.inside.slots c.self.inside.rows.items c.args.node.number c.in-Some.at
stands-in c = c.in-Some.ensures

kind-in : (c : Wanted) → kind_at c.args.node.number (map (node_of c.self.inside.slots) c.self.inside.rows.items) ≡ Some Element
kind-in c = ap (λ (k : Keeping). kind_at c.args.node.number k.forest.nodes) c.self.view_is ∙ c.requires.kind

childless-in : (c : Wanted) → has_elements (visits (map (node_of c.self.inside.slots) c.self.inside.rows.items)) c.args.node.number ≡ false
childless-in c = ap (λ (k : Keeping). has_elements (visits k.forest.nodes) c.args.node.number) c.self.view_is ∙ c.requires.childless

abbrev texts-in : (c : Wanted) → List NodeId
texts-in c = take (length c.deref.result.now - c.take_kept-first.result) (drop c.take_kept-first.result c.deref.result.now)

places-in : (c : Wanted) → places_of (texts-in c) ≡ filter (is_wanted c.self.inside.slots (numbers_in c.args.texts.items)) c.self.inside.kept.items
places-in c = ap places_of (rest-of c.take_kept-first.result c.deref.result.now c.take_kept-first.new.texts.items c.deref.ensures.value) ∙ c.take_kept-first.ensures.taken

long-in : (c : Wanted) → length (texts-in c) ≤ length c.self.inside.kept.items
long-in c = wanted-long c.self.inside.slots (numbers_in c.args.texts.items) c.self.inside.kept.items (texts-in c) (places-in c)

pub swap_back-requires-clause-counted : goal.swap_back-requires-clause-counted
swap_back-requires-clause-counted c = count-few c.self.inside.slots c.self.inside.rows.items c.self.inside.kept.items c.self.inside.next c.self.inside.count c.self.inside.bytes _ c.self.invariant

pub swap_back-requires-clause-small : goal.swap_back-requires-clause-small
swap_back-requires-clause-small c = size-few c.self.inside.slots c.self.inside.rows.items c.self.inside.kept.items c.self.inside.next c.self.inside.count c.self.inside.bytes _ c.self.invariant

pub swap_back-requires-clause-apart : goal.swap_back-requires-clause-apart
swap_back-requires-clause-apart c = λ n. one_of c.self.inside.slots c.self.inside.rows.items c.self.inside.kept.items c.self.inside.next n c.self.invariant.sound

pub swap_back-requires-clause-deep : goal.swap_back-requires-clause-deep
swap_back-requires-clause-deep c =
    depth-most c.in-Some.at c.self.inside.rows.items (stands-in (goal.at.swap_back-requires-clause-deep c).After-deref).within c.self.invariant.sound.steps (omega (arith, c.self.invariant.sound.few))

pub swap_back-requires-clause-flat : goal.swap_back-requires-clause-flat
swap_back-requires-clause-flat c =
    let p = (goal.at.swap_back-requires-clause-flat c).After-deref in
    run-flat c.self.inside.slots c.args.node.number c.in-Some.at c.self.inside.rows.items c.self.inside.kept.items c.self.inside.next c.self.invariant.sound (stands-in p) (kind-in p) (childless-in p)

pub swap_back-requires-clause-few : goal.swap_back-requires-clause-few
swap_back-requires-clause-few c = let h = long-in (goal.at.swap_back-requires-clause-few c).After-deref in omega (arith, h, c.self.invariant.sound.few)

pub swap_back-requires-clause-room : goal.swap_back-requires-clause-room
swap_back-requires-clause-room c = let h = long-in (goal.at.swap_back-requires-clause-room c).After-deref in omega (arith, h, c.self.invariant.room)

pub invariant_of-self : goal.invariant_of-self
invariant_of-self c =
    let p = (goal.at.invariant_of-self c).After-deref in
    let s = c.self.inside.slots in
    let t = c.swap_back.new.slots in
    let kept = c.self.inside.kept.items in
    let new = c.swap_back.new.rows.items in
    let ns = numbers_in c.args.texts.items in
    let most : c.self.inside.rows.capacity ≤ c.swap_back.new.rows.capacity = omega (arith, c.swap_back.ensures.room) in
    let state = state-back s t c.args.node.number c.in-Some.at c.self.inside.rows.items new kept ns (texts-in p) c.self.inside.next c.self.inside.count c.self.inside.bytes (c.self.inside.rows.capacity) c.self.invariant
    (stands-in p) (kind-in p) (childless-in p) (places-in p) c.swap_back.ensures.rest c.swap_back.ensures.kinds c.swap_back.ensures.less c.swap_back.ensures.rows c.swap_back.new.count c.swap_back.new.bytes
    c.swap_back.new.rows.capacity c.swap_back.ensures.sized c.swap_back.ensures.count c.swap_back.ensures.bytes most in
    subst (λ l. IsState t new l c.self.inside.next c.swap_back.new.count c.swap_back.new.bytes c.swap_back.new.rows.capacity) (sym c.take_kept-first.ensures.left) state

pub returns : goal.returns
returns c =
    let p = (goal.at.returns c).After-deref in
    let t = c.swap_back.new.slots in
    let n = c.args.node.number in
    let new = c.swap_back.new.rows.items in
    let ns = numbers_in c.args.texts.items in
    let view = view-back c.self.inside.slots t n c.in-Some.at c.self.inside.rows.items new c.self.inside.kept.items ns (texts-in p) c.self.inside.next c.self.inside.count c.self.inside.bytes (c.self.inside.rows.capacity)
    c.self.invariant (stands-in p) (kind-in p) (childless-in p) (places-in p) c.swap_back.ensures.rest c.swap_back.ensures.kinds c.swap_back.ensures.less c.swap_back.ensures.rows in
    ap (λ l. keeping_of t new l c.self.inside.next) c.take_kept-first.ensures.left ∙ view ∙ ap (put_back n (element_texts ns)) c.self.view_is

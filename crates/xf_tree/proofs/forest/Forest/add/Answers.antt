use Rattle.std.proofs.Common.{◌≡◌, ℕ, ◌+◌, ◌^◌, ◌<◌, ◌≤◌, length, Ok, refl, sym, ap, ◌∙◌, subst, arith}
use Rattle.xf_def_forest.specs.Forest.{Forest}
use Rattle.xf_def_forest.specs.Limits.{unless}
use Rattle.xf_def_forest.specs.Texts.{Keeping}
use Rattle.xf_tree_walks.specs.Nodes.{AllLive}
use Rattle.xf_tree_changes.specs.Trees.{size_of_all}
use Rattle.xf_tree_changes.proofs.PushLemmas.{kept-live}
use Rattle.xf_tree.specs.Calls.{with_contents}
use Rattle.xf_tree.specs.State.{IsState, keeping_of}
use Rattle.xf_tree.proofs.AddLemmas.{moved-state, moved-view, added-state, added-view, bytes-most}
use Rattle.xf_tree.proofs.forest.Forest.add.Goals.{After-push_tree}
use Rattle.xf_tree.proofs.forest.Forest.add.Goals as goal

pub admit-requires : goal.admit-requires
admit-requires c = omega (arith, c.len-kept.ensures, c.self.inside.kept.ok.0, c.self.invariant.sound.few)

pub invariant_of-self : goal.invariant_of-self
invariant_of-self c =
    moved-state c.self.inside.slots c.admit.new.slots c.self.inside.rows.items c.admit.new.rows.items c.self.inside.kept.items c.self.inside.kept.items c.self.inside.next c.self.inside.count c.self.inside.bytes _ _
    c.admit.ensures.same c.admit.ensures.items refl c.admit.ensures.spare c.self.invariant

pub push_tree-requires-clause-live : goal.push_tree-requires-clause-live
push_tree-requires-clause-live c =
    subst (AllLive c.admit.new.slots) (sym c.admit.ensures.items)
    (kept-live c.self.inside.slots c.admit.new.slots c.self.inside.rows.items c.self.invariant.sound.live (λ key some. c.admit.ensures.same key))

pub overflow_add-self-3 : goal.overflow_add-self-3
overflow_add-self-3 c =
    let b = bytes-most c.self.inside.slots c.self.inside.rows.items c.self.invariant.counted.small in
    omega (
      arith,
      b,
      c.self.invariant.counted.bytes,
      c.self.invariant.sound.few,
      c.size_of_tree-size.ensures.answer,
      c.size_of_tree-size.ensures.small,
      c.in_ok-admit.ensures.few,
      ap length c.deref.ensures.value,
      c.len-more.ensures,
      c.args.tree.ok.0,
    )

-- the state before the tree came in, with the room that was made
reserved : (c : After-push_tree) → IsState c.admit.new.slots c.admit.new.rows.items c.self.inside.kept.items c.self.inside.next c.self.inside.count c.self.inside.bytes c.admit.new.rows.capacity
reserved c =
    moved-state c.self.inside.slots c.admit.new.slots c.self.inside.rows.items c.admit.new.rows.items c.self.inside.kept.items c.self.inside.kept.items c.self.inside.next c.self.inside.count c.self.inside.bytes _ _
    c.admit.ensures.same c.admit.ensures.items refl c.admit.ensures.spare c.self.invariant

more-is : (c : After-push_tree) → c.len-more.result ≡ length c.args.tree.items
more-is c = c.len-more.ensures ∙ c.args.tree.ok.0

pub invariant_of-self-2 : goal.invariant_of-self-2
invariant_of-self-2 c =
    let k = (goal.at.invariant_of-self-2 c).After-push_tree in
    let cs = c.args.tree.items in
    let more = more-is k in
    let size : c.size_of_tree-size.result ≡ size_of_all cs = c.size_of_tree-size.ensures.answer ∙ ap size_of_all c.deref.ensures.value in
    let rows = c.admit.new.rows.items in
    let kept = c.self.inside.kept.items in
    let short = ap length c.admit.ensures.items in
    let few : length rows + length cs + length kept < 2 ^ 31 = omega (arith, c.in_ok-admit.ensures.few, short, c.len-kept.ensures, c.self.inside.kept.ok.0, more) in
    let most : length rows + length cs + length kept ≤ c.push_tree.new.rows.capacity =
    omega (arith, c.in_ok-admit.ensures.row, short, c.push_tree.ensures.room, c.len-kept.ensures, c.self.inside.kept.ok.0, more) in
    let state = added-state c.admit.new.slots c.push_tree.new.slots rows c.push_tree.new.rows.items kept c.self.inside.next c.self.inside.count c.self.inside.bytes _ cs (reserved k)
    c.push_tree.ensures.front c.push_tree.ensures.nodes c.push_tree.ensures.rest c.push_tree.new.rows.capacity c.requires.tree c.push_tree.ensures.sized c.push_tree.ensures.live few c.push_tree.ensures.small most in
    let numbers = subst (λ n. IsState c.push_tree.new.slots c.push_tree.new.rows.items kept (c.self.inside.next + n) (c.self.inside.count + n) (c.self.inside.bytes + size_of_all cs) c.push_tree.new.rows.capacity) (sym more) state in
    subst (λ z. IsState c.push_tree.new.slots c.push_tree.new.rows.items kept (c.self.inside.next + c.len-more.result) (c.self.inside.count + c.len-more.result) (c.self.inside.bytes + z) c.push_tree.new.rows.capacity) (sym size) numbers

-- the nodes and the kept texts with the tree
view-in : (c : After-push_tree) → keeping_of c.push_tree.new.slots c.push_tree.new.rows.items c.self.inside.kept.items (c.self.inside.next + c.len-more.result) ≡ with_contents c.args.tree.items c.args.self.now
view-in c =
    let cs = c.args.tree.items in
    let kept = c.self.inside.kept.items in
    let next = c.self.inside.next in
    let added = added-view c.admit.new.slots c.push_tree.new.slots c.admit.new.rows.items c.push_tree.new.rows.items kept next c.self.inside.count c.self.inside.bytes _ cs (reserved c)
    c.push_tree.ensures.front c.push_tree.ensures.nodes c.push_tree.ensures.rest in
    let before : keeping_of c.admit.new.slots c.admit.new.rows.items kept next ≡ c.args.self.now =
    moved-view c.self.inside.slots c.admit.new.slots c.self.inside.rows.items c.admit.new.rows.items kept kept next c.admit.ensures.same c.admit.ensures.items refl c.self.invariant.sound ∙ c.self.view_is in
    ap (λ n. keeping_of c.push_tree.new.slots c.push_tree.new.rows.items kept (next + n)) (more-is c) ∙ added ∙ ap (with_contents cs) before

pub returns-clause-answer : goal.returns-clause-answer
returns-clause-answer c =
    let k = (goal.at.returns-clause-answer c).After-push_tree in
    let next : c.self.inside.next ≡ c.args.self.now.forest.next = ap (λ (q : Keeping). q.forest.next) c.self.view_is in
    let value : ℕ × Forest = (c.args.self.now.forest.next, (with_contents c.args.tree.items c.args.self.now).forest) in
    ap (λ o. unless o value) c.in_ok-admit.ensures.none ∙ ap (λ n. Ok (n, value.1)) (sym next) ∙ ap (λ (q : Keeping). Ok (c.self.inside.next, q.forest)) (sym (view-in k))

pub returns-clause-kept : goal.returns-clause-kept
returns-clause-kept c = ap (λ (q : Keeping). q.kept) (view-in (goal.at.returns-clause-kept c).After-push_tree)

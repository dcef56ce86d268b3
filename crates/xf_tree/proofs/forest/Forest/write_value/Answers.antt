use Rattle.std.proofs.Common.{◌≡◌, ℕ, ◌+◌, ◌-◌, ◌≤◌, ◌^◌, map, get_or, List, true, Some, sym, ap, ◌∙◌, subst, arith}
use Rattle.std.specs.Prelude.{option_map}
use Rattle.slab.specs.Slab.{get, Updates}
use Rattle.xf_def_forest.specs.declared.content.Kind.TheVariants.{Attribute}
use Rattle.xf_def_forest.specs.Forest.{own_text, is_attribute, kind_at}
use Rattle.xf_def_forest.specs.Limits.{size_of}
use Rattle.xf_def_forest.specs.Texts.{Before, Keeping, attribute_text, with_attribute_text}
use Rattle.xf_def_forest.specs.Settle.{numbered_text_set}
use Rattle.xf_tree_rows.specs.declared.rows.Row.{Row}
use Rattle.xf_tree_rows.specs.Rows.{no_row}
use Rattle.xf_tree_contents.specs.Keys.{content_in, kept_of}
use Rattle.xf_tree_contents.specs.Slots.{valued_slot}
use Rattle.xf_tree_walks.specs.Nodes.{StandsAt, node_of}
use Rattle.xf_tree.proofs.AddLemmas.{bytes-most}
use Rattle.xf_tree.proofs.ValueLemmas.{value-state, value-written, is-attribute, value-view}
use Rattle.xf_tree.proofs.forest.Forest.write_value.Goals.{After-change_value-before as Written}
use Rattle.xf_tree.proofs.forest.Forest.write_value.Goals as goal

-- where the node's row stands, and what it is
stands-in : (c : Written) → StandsAt c.self.inside.slots c.self.inside.rows.items c.args.node.number c.in-Some.at
stands-in c = c.in-Some.ensures

kind-in : (c : Written) → kind_at c.args.node.number (map (node_of c.self.inside.slots) c.self.inside.rows.items) ≡ Some Attribute
kind-in c = ap (λ (k : Keeping). kind_at c.args.node.number k.forest.nodes) c.self.view_is ∙ c.requires

key-in : (c : Written) → c.at-key.result.key ≡ (get_or c.self.inside.rows.items c.in-Some.at no_row).key
key-in c = ap (λ (r : Row). r.key) (c.at-key.ensures)

-- the one slot that is changed
up-in : (c : Written) → Updates c.self.inside.slots c.change_value-before.new.slots (get_or c.self.inside.rows.items c.in-Some.at no_row).key
    (option_map (valued_slot c.args.text.now) (get c.self.inside.slots (get_or c.self.inside.rows.items c.in-Some.at no_row).key))
up-in c =
    let s = c.self.inside.slots in
    let s2 = c.change_value-before.new.slots in
    let up : Updates s s2 c.at-key.result.key (option_map (valued_slot c.in_ok-word.word) (get s c.at-key.result.key)) = c.change_value-before.ensures.slot in
    subst (λ k. Updates s s2 k (option_map (valued_slot c.args.text.now) (get s k))) (key-in c)
    (subst (λ t. Updates s s2 c.at-key.result.key (option_map (valued_slot t) (get s c.at-key.result.key))) c.in_ok-word.ensures up)

pub change_value-before-requires : goal.change_value-before-requires
change_value-before-requires c =
    let b = bytes-most c.self.inside.slots c.self.inside.rows.items c.self.invariant.counted.small in
    omega (arith, b, c.self.invariant.counted.bytes, c.self.invariant.sound.few)

pub invariant_of-self : goal.invariant_of-self
invariant_of-self c =
    let p = (goal.at.invariant_of-self c).After-change_value-before in
    let s = c.self.inside.slots in
    let s2 = c.change_value-before.new.slots in
    let bytes = subst (λ k. c.change_value-before.new.bytes ≡ c.self.inside.bytes - size_of (content_in (get s k)) + size_of (content_in (get s2 k))) (key-in p) c.change_value-before.ensures.bytes in
    let small = subst (λ k. size_of (content_in (get s2 k)) ≤ 2 ^ 66) (key-in p) c.change_value-before.ensures.small in
    value-state s c.args.node.number c.in-Some.at c.args.text.now c.self.inside.rows.items c.self.inside.kept.items c.self.inside.next c.self.inside.count c.self.inside.bytes _ c.self.invariant
    (stands-in p) (kind-in p) s2 (up-in p) c.change_value-before.new.bytes bytes small

pub returns-clause-ok : goal.returns-clause-ok
returns-clause-ok c number =
    let p = (goal.at.returns-clause-ok c).After-change_value-before in
    let s = c.self.inside.slots in
    let n = c.args.node.number in
    let at = c.in-Some.at in
    let rows = c.self.inside.rows.items in
    let kept = c.self.inside.kept.items in
    let next = c.self.inside.next in
    let text = c.args.text.now in
    let attribute = is-attribute s n at text rows kept next c.self.inside.count c.self.inside.bytes _ c.self.invariant (stands-in p) (kind-in p) in
    let had : c.change_value-before.result ≡ own_text (content_in (get s (get_or rows at no_row).key)) =
    c.change_value-before.ensures.answer (subst (λ k. is_attribute (content_in (get s k)) ≡ true) (sym (key-in p)) attribute) ∙ ap (λ k. own_text (content_in (get s k))) (key-in p) in
    let view = value-view s n at text rows kept next c.self.inside.count c.self.inside.bytes _ c.self.invariant (stands-in p) (kind-in p) c.change_value-before.new.slots (up-in p) in
    let written = value-written s n at text rows kept next c.self.inside.count c.self.inside.bytes _ c.self.invariant (stands-in p) (kind-in p) number in
    let pair : List ℕ → Keeping → Before × Keeping = λ t k. (attribute_text t, k) in
    ap (pair c.change_value-before.result) view
    ∙ ap (λ t. pair t (record { forest = record { nodes = with_attribute_text n text (map (node_of s) rows); next = next }; kept = map (kept_of s) kept })) had
    ∙ sym written ∙ ap (numbered_text_set number n text) c.self.view_is

use Rattle.std.proofs.Common.{◌≡◌, ◌+◌, ◌-◌, ◌≤◌, ◌^◌, map, get_or, false, Some, sym, ap, ◌∙◌, subst, arith}
use Rattle.std.specs.Prelude.{option_map}
use Rattle.std.proofs.lemmas.Bool.{true≢false}
use Rattle.slab.specs.Slab.{get, Updates}
use Rattle.xf_def_forest.specs.declared.content.Kind.TheVariants.{Attribute}
use Rattle.xf_def_forest.specs.Forest.{kind_at, has_number}
use Rattle.xf_def_forest.specs.Limits.{size_of}
use Rattle.xf_def_forest.specs.Texts.{Keeping, attribute_text, put_back}
use Rattle.xf_tree_rows.specs.declared.rows.Row.{Row}
use Rattle.xf_tree_rows.specs.Rows.{no_row}
use Rattle.xf_tree_contents.specs.Keys.{content_in}
use Rattle.xf_tree_contents.specs.Slots.{valued_slot}
use Rattle.xf_tree_walks.specs.Nodes.{StandsAt, node_of}
use Rattle.xf_tree.proofs.AddLemmas.{bytes-most}
use Rattle.xf_tree.proofs.ValueLemmas.{kind-live, value-state, value-view}
use Rattle.xf_tree.proofs.forest.Forest.put_value.Goals.{After-change_value}
use Rattle.xf_tree.proofs.forest.Forest.put_value.Goals as goal

pub returns-in_default : goal.returns-in_default
returns-in_default c =
    let n = c.args.node.number in
    let s = c.self.inside.slots in
    let rows = c.self.inside.rows.items in
    let kind = ap (λ (k : Keeping). kind_at n k.forest.nodes) c.self.view_is ∙ c.requires in
    let absent : has_number n (map (node_of s) rows) ≡ false = c.in_default.ensures in
    absurd (true≢false (sym (kind-live n Attribute (map (node_of s) rows) kind) ∙ absent))

-- where the node's row stands, and what it is
stands-in : (c : After-change_value) → StandsAt c.self.inside.slots c.self.inside.rows.items c.args.node.number c.in-Some.at
stands-in c = c.in-Some.ensures

kind-in : (c : After-change_value) → kind_at c.args.node.number (map (node_of c.self.inside.slots) c.self.inside.rows.items) ≡ Some Attribute
kind-in c = ap (λ (k : Keeping). kind_at c.args.node.number k.forest.nodes) c.self.view_is ∙ c.requires

key-in : (c : After-change_value) → c.at-key.result.key ≡ (get_or c.self.inside.rows.items c.in-Some.at no_row).key
key-in c = ap (λ (r : Row). r.key) (c.at-key.ensures)

up-in : (c : After-change_value) → Updates c.self.inside.slots c.change_value.new.slots (get_or c.self.inside.rows.items c.in-Some.at no_row).key
    (option_map (valued_slot c.args.text) (get c.self.inside.slots (get_or c.self.inside.rows.items c.in-Some.at no_row).key))
up-in c = subst (λ k. Updates c.self.inside.slots c.change_value.new.slots k (option_map (valued_slot c.args.text) (get c.self.inside.slots k))) (key-in c) c.change_value.ensures.slot

pub change_value-requires : goal.change_value-requires
change_value-requires c =
    let b = bytes-most c.self.inside.slots c.self.inside.rows.items c.self.invariant.counted.small in
    omega (arith, b, c.self.invariant.counted.bytes, c.self.invariant.sound.few)

pub invariant_of-self : goal.invariant_of-self
invariant_of-self c =
    let p = (goal.at.invariant_of-self c).After-change_value in
    let s = c.self.inside.slots in
    let s2 = c.change_value.new.slots in
    let bytes = subst (λ k. c.change_value.new.bytes ≡ c.self.inside.bytes - size_of (content_in (get s k)) + size_of (content_in (get s2 k))) (key-in p) c.change_value.ensures.bytes in
    let small = subst (λ k. size_of (content_in (get s2 k)) ≤ 2 ^ 66) (key-in p) c.change_value.ensures.small in
    value-state s c.args.node.number c.in-Some.at c.args.text c.self.inside.rows.items c.self.inside.kept.items c.self.inside.next c.self.inside.count c.self.inside.bytes _ c.self.invariant
    (stands-in p) (kind-in p) s2 (up-in p) c.change_value.new.bytes bytes small

pub returns : goal.returns
returns c =
    let p = (goal.at.returns c).After-change_value in
    let n = c.args.node.number in
    value-view c.self.inside.slots n c.in-Some.at c.args.text c.self.inside.rows.items c.self.inside.kept.items c.self.inside.next c.self.inside.count c.self.inside.bytes _ c.self.invariant
    (stands-in p) (kind-in p) c.change_value.new.slots (up-in p)
    ∙ ap (put_back n (attribute_text c.args.text)) c.self.view_is

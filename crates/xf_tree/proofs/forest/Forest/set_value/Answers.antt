use Rattle.std.proofs.Common.{◌≡◌, ℕ, ◌+◌, ◌-◌, ◌≤◌, ◌^◌, length, map, get_or, List, true, Some, Result, Ok, inr, sym, ap, ◌∙◌, subst, arith}
use Rattle.std.specs.Prelude.{option_map}
use Rattle.slab.specs.Slab.{get, Updates}
use Rattle.xf_def_forest.specs.declared.content.Kind.TheVariants.{Attribute}
use Rattle.xf_def_forest.specs.declared.fault.TreeFault.{TreeFault}
use Rattle.xf_def_forest.specs.Forest.{own_text, is_attribute, kind_at}
use Rattle.xf_def_forest.specs.Limits.{limits, unless, size_of}
use Rattle.xf_def_forest.specs.Texts.{text_set, Before, Keeping, attribute_text, with_attribute_text}
use Rattle.xf_tree_rows.specs.declared.rows.Row.{Row}
use Rattle.xf_tree_rows.specs.Rows.{no_row}
use Rattle.xf_tree_contents.specs.Keys.{content_in, kept_of}
use Rattle.xf_tree_contents.specs.Slots.{valued_slot}
use Rattle.xf_tree_walks.specs.Nodes.{StandsAt, node_of}
use Rattle.xf_tree_changes.specs.Texts.{passed_by}
use Rattle.xf_tree.proofs.AddLemmas.{bytes-most}
use Rattle.xf_tree.proofs.ValueLemmas.{value-state, value-set, is-attribute, value-view}
use Rattle.xf_tree.proofs.forest.Forest.set_value.Goals.{In-Some-passed, After-passed as Passed, After-change_value-before}
use Rattle.xf_tree.proofs.forest.Forest.set_value.Goals as goal

-- where the node's row stands, what it is, and what its bytes would be
stands-in : (c : Passed) → StandsAt c.self.inside.slots c.self.inside.rows.items c.args.node.number c.in-Some.at
stands-in c = c.in-Some.ensures

kind-in : (c : Passed) → kind_at c.args.node.number (map (node_of c.self.inside.slots) c.self.inside.rows.items) ≡ Some Attribute
kind-in c = ap (λ (k : Keeping). kind_at c.args.node.number k.forest.nodes) c.self.view_is ∙ c.requires

row-in : (c : Passed) → c.at-key.result ≡ get_or c.self.inside.rows.items c.in-Some.at no_row
row-in c = c.at-key.ensures

old-in : (c : Passed) → c.own.result.now ≡ own_text (content_in (get c.self.inside.slots (get_or c.self.inside.rows.items c.in-Some.at no_row).key))
old-in c = c.own.ensures ∙ ap (λ (r : Row). own_text (content_in (get c.self.inside.slots r.key))) (row-in c)

bytes-in : (c : Passed) → c.saturating_add-bytes.result ≡ c.self.inside.bytes - length (own_text (content_in (get c.self.inside.slots (get_or c.self.inside.rows.items c.in-Some.at no_row).key))) + length c.args.text.now
bytes-in c =
    let b = bytes-most c.self.inside.slots c.self.inside.rows.items c.self.invariant.counted.small in
    omega (arith, c.saturating_add-bytes.ensures, c.saturating_sub-rest.ensures, ap length (old-in c), b, c.self.invariant.counted.bytes, c.self.invariant.sound.few)

abbrev value-in : (c : Passed) → Before × Keeping
value-in c = (
  attribute_text (own_text (content_in (get c.self.inside.slots (get_or c.self.inside.rows.items c.in-Some.at no_row).key))),
  record {
    forest = record { nodes = with_attribute_text c.args.node.number c.args.text.now (map (node_of c.self.inside.slots) c.self.inside.rows.items); next = c.self.inside.next };
    kept = map (kept_of c.self.inside.slots) c.self.inside.kept.items;
  },
)

set-in : (c : Passed) → text_set limits c.args.node.number c.args.text.now c.args.self.now ≡ unless c.passed.result (value-in c)
set-in c =
    ap (text_set limits c.args.node.number c.args.text.now) (sym c.self.view_is)
    ∙ value-set c.self.inside.slots c.args.node.number c.in-Some.at c.args.text.now c.self.inside.rows.items c.self.inside.kept.items c.self.inside.next c.self.inside.count c.self.inside.bytes _
    c.self.invariant (stands-in c) (kind-in c)
    ∙ ap (λ b. unless (passed_by c.self.inside.count (length c.args.text.now) b) (value-in c)) (sym (bytes-in c))
    ∙ ap (λ o. unless o (value-in c)) (sym c.passed.ensures)

pub returns-in-Some-passed-clause-answer : goal.returns-in-Some-passed-clause-answer
returns-in-Some-passed-clause-answer c =
    let p = (goal.at.returns-in-Some-passed-clause-answer c).After-passed in
    inr (set-in p ∙ ap (λ o. unless o (value-in p)) c.in-Some-passed.is)

-- the one slot that is changed
up-in : (c : After-change_value-before) → c.at-key.result.key ≡ (get_or c.self.inside.rows.items c.in-Some.at no_row).key → Updates c.self.inside.slots c.change_value-before.new.slots (get_or c.self.inside.rows.items c.in-Some.at no_row).key
    (option_map (valued_slot c.args.text.now) (get c.self.inside.slots (get_or c.self.inside.rows.items c.in-Some.at no_row).key))
up-in c key =
    let s = c.self.inside.slots in
    let s2 = c.change_value-before.new.slots in
    let up : Updates s s2 c.at-key.result.key (option_map (valued_slot c.in_ok-word.word) (get s c.at-key.result.key)) = c.change_value-before.ensures.slot in
    subst (λ k. Updates s s2 k (option_map (valued_slot c.args.text.now) (get s k))) key
    (subst (λ t. Updates s s2 c.at-key.result.key (option_map (valued_slot t) (get s c.at-key.result.key))) c.in_ok-word.ensures up)

pub invariant_of-self : goal.invariant_of-self
invariant_of-self c =
    let p = (goal.at.invariant_of-self c).After-passed in
    let s = c.self.inside.slots in
    let s2 = c.change_value-before.new.slots in
    let key : c.at-key.result.key ≡ (get_or c.self.inside.rows.items c.in-Some.at no_row).key = ap (λ (r : Row). r.key) (row-in p) in
    let bytes = subst (λ k. c.change_value-before.new.bytes ≡ c.self.inside.bytes - size_of (content_in (get s k)) + size_of (content_in (get s2 k))) key c.change_value-before.ensures.bytes in
    let small = subst (λ k. size_of (content_in (get s2 k)) ≤ 2 ^ 66) key c.change_value-before.ensures.small in
    value-state s c.args.node.number c.in-Some.at c.args.text.now c.self.inside.rows.items c.self.inside.kept.items c.self.inside.next c.self.inside.count c.self.inside.bytes _ c.self.invariant
    (stands-in p) (kind-in p) s2 (up-in (goal.at.invariant_of-self c).After-change_value-before key) c.change_value-before.new.bytes bytes small

pub returns-clause-answer : goal.returns-clause-answer
returns-clause-answer c =
    let p = (goal.at.returns-clause-answer c).After-passed in
    let s = c.self.inside.slots in
    let n = c.args.node.number in
    let at = c.in-Some.at in
    let rows = c.self.inside.rows.items in
    let kept = c.self.inside.kept.items in
    let next = c.self.inside.next in
    let text = c.args.text.now in
    let key : c.at-key.result.key ≡ (get_or rows at no_row).key = ap (λ (r : Row). r.key) (row-in p) in
    let attribute = is-attribute s n at text rows kept next c.self.inside.count c.self.inside.bytes _ c.self.invariant (stands-in p) (kind-in p) in
    let had : c.change_value-before.result ≡ own_text (content_in (get s (get_or rows at no_row).key)) =
    c.change_value-before.ensures.answer (subst (λ k. is_attribute (content_in (get s k)) ≡ true) (sym key) attribute) ∙ ap (λ k. own_text (content_in (get s k))) key in
    let view = value-view s n at text rows kept next c.self.inside.count c.self.inside.bytes _ c.self.invariant (stands-in p) (kind-in p) c.change_value-before.new.slots (up-in (goal.at.returns-clause-answer c).After-change_value-before key) in
    let pair : List ℕ → Keeping → Result (Before × Keeping) TreeFault = λ t k. Ok (attribute_text t, k) in
    set-in p ∙ ap (λ o. unless o (value-in p)) c.in_default-passed.is ∙ ap (λ t. pair t (value-in p).1) (sym had) ∙ ap (pair c.change_value-before.result) (sym view)

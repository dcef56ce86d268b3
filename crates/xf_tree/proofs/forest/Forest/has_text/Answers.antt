use Rattle.std.proofs.Common.{◌≡◌, ◌+◌, ◌-◌, map, length, take, drop, get_or, sym, ap, ◌∙◌, arith}
use Rattle.std.specs.Str.{bytes_eq}
use Rattle.slab.specs.Slab.{get}
use Rattle.xf_def_forest.specs.Forest.{is_attribute, own_text}
use Rattle.xf_def_forest.specs.Shape.{as_texts}
use Rattle.xf_def_forest.specs.Texts.{Keeping, texts_in}
use Rattle.xf_def_forest.specs.Settle.{are_texts, has_text}
use Rattle.xf_tree_rows.specs.declared.rows.Row.{Row}
use Rattle.xf_tree_rows.specs.Rows.{tree_of, no_row}
use Rattle.xf_tree_contents.specs.Keys.{content_in}
use Rattle.xf_tree_walks.specs.Nodes.{StandsAt, node_of}
use Rattle.xf_tree_walks.proofs.StandLemmas.{none-texts}
use Rattle.xf_tree.proofs.StandLemmas.{stands-absent, stands-value, stands-texts}
use Rattle.xf_tree.proofs.forest.Forest.has_text.Goals.{After-is_attribute_at as Seen}
use Rattle.xf_tree.proofs.forest.Forest.has_text.Goals as goal

pub returns-in_default : goal.returns-in_default
returns-in_default c =
    let n = c.args.node.number in
    let s = c.self.inside.slots in
    let absent = c.in_default.ensures in
    c.is_empty.ensures ∙ sym (none-texts c.args.text.now) ∙ sym (stands-absent n c.args.text.now (map (node_of s) c.self.inside.rows.items) absent)
    ∙ ap (λ (k : Keeping). has_text n c.args.text.now k.forest.nodes) c.self.view_is

-- where the node's row stands
stands-in : (c : Seen) → StandsAt c.self.inside.slots c.self.inside.rows.items c.args.node.number c.in-Some.at
stands-in c = c.in-Some.ensures

key-in : (c : Seen) → c.at-key.result.key ≡ (get_or c.self.inside.rows.items c.in-Some.at no_row).key
key-in c = ap (λ (r : Row). r.key) (c.at-key.ensures)

kind-in : (c : Seen) → c.is_attribute_at.result ≡ is_attribute (content_in (get c.self.inside.slots (get_or c.self.inside.rows.items c.in-Some.at no_row).key))
kind-in c = c.is_attribute_at.ensures ∙ ap (λ k. is_attribute (content_in (get c.self.inside.slots k))) (key-in c)

pub returns-then-is_attribute_at : goal.returns-then-is_attribute_at
returns-then-is_attribute_at c =
    let p = (goal.at.returns-then-is_attribute_at c).After-is_attribute_at in
    let n = c.args.node.number in
    let s = c.self.inside.slots in
    let text = c.args.text.now in
    c.eq.ensures ∙ ap (λ l. bytes_eq l text) (c.own.ensures ∙ ap (λ k. own_text (content_in (get s k))) (key-in p))
    ∙ sym (stands-value s n c.in-Some.at text c.self.inside.rows.items c.self.inside.kept.items c.self.inside.next c.self.invariant.sound (stands-in p) (sym (kind-in p) ∙ c.if-is_attribute_at.true))
    ∙ ap (λ (k : Keeping). has_text n text k.forest.nodes) c.self.view_is

pub returns : goal.returns
returns c =
    let p = (goal.at.returns c).After-is_attribute_at in
    let n = c.args.node.number in
    let at = c.in-Some.at in
    let s = c.self.inside.slots in
    let rows = c.self.inside.rows.items in
    let text = c.args.text.now in
    let end : c.end_of.result ≡ at + length (tree_of (drop at rows)) = c.end_of.ensures.answer in
    let long : c.end_of.result - at ≡ length (tree_of (drop at rows)) = omega (arith, end) in
    c.are_texts.ensures ∙ ap (λ l. are_texts (as_texts text) (texts_in (map (node_of s) l))) c.slice.ensures
    ∙ ap (λ k. are_texts (as_texts text) (texts_in (map (node_of s) (take k (drop at rows))))) long
    ∙ sym (stands-texts s n at text rows c.self.inside.kept.items c.self.inside.next c.self.invariant.sound (stands-in p) (sym (kind-in p) ∙ c.if-is_attribute_at.false))
    ∙ ap (λ (k : Keeping). has_text n text k.forest.nodes) c.self.view_is

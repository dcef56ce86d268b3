use Rattle.std.proofs.Common.{◌≡◌, ◌+◌, ◌∷◌, ◌++◌, codes, length, suc, sym, ap, ◌∙◌, add-one, append-nil}
use Rattle.std.specs.Prelude.{string_bytes}
use Rattle.xf_def_forest.specs.Forest.{written}
use Rattle.xf_def_forest.specs.Path.{bracketed}
use Rattle.xf_tree_rows.specs.Rows.{parent_row_of}
use Rattle.xf_tree_contents.specs.Seen.{seen_content}
use Rattle.xf_tree_walks.specs.Siblings.{index_text, like_before}
use Rattle.xf_tree_walks.proofs.PathLemmas.{root-step, attribute-step, text-step, element-step}
use Rattle.xf_tree_walks.proofs.PathTextLemmas.{on-ok}
use Rattle.xf_tree_walks.proofs.path.push_step.Goals as goal

pub returns-in-Root : goal.returns-in-Root
returns-in-Root c =
    let content = rw c.at.ensures at (sym c.shown_at-content.ensures ∙ ap seen_content c.in-Root.is) in
    sym (ap (λ l. string_bytes c.args.text.now ++ l) (root-step c.args.slots.now c.args.rows.now.items c.args.at c.requires.nodes c.requires.within content) ∙ append-nil (string_bytes c.args.text.now))

pub returns-in-Element : goal.returns-in-Element
returns-in-Element c =
    let s = c.args.slots.now in
    let rows = c.args.rows.now.items in
    let at = c.args.at in
    let name = c.in-Element.name.now in
    let content = rw c.at.ensures at (sym c.shown_at-content.ensures ∙ ap seen_content c.in-Element.is) in
    let step = element-step s rows at name c.requires.nodes c.requires.within content in
    on-ok c.push_element.result (λ e. e ∙ ap (λ o. string_bytes c.args.text.now ++ (47 ∷ (written name ++ index_text o))) c.index_of-index.ensures ∙ ap (λ l. string_bytes c.args.text.now ++ l) (sym step)) c.push_element.ensures

pub returns-in-Attribute : goal.returns-in-Attribute
returns-in-Attribute c =
    let content = rw c.at.ensures at (sym c.shown_at-content.ensures ∙ ap seen_content c.in-Attribute.is) in
    let step = attribute-step c.args.slots.now c.args.rows.now.items c.args.at c.in-Attribute.name.now _ c.requires.nodes c.requires.within content in
    on-ok c.push_attribute.result (λ e. e ∙ ap (λ l. string_bytes c.args.text.now ++ l) (sym step)) c.push_attribute.ensures

pub returns-in-Text : goal.returns-in-Text
returns-in-Text c =
    let s = c.args.slots.now in
    let rows = c.args.rows.now.items in
    let at = c.args.at in
    let p = parent_row_of rows at in
    let content = rw c.at.ensures at (sym c.shown_at-content.ensures ∙ ap seen_content c.in-Text.is) in
    let step = text-step s rows at c.in-Text.field-0.now c.requires.nodes c.requires.within content in
    let count = c.count_before-earlier.ensures.answer ∙ ap (λ l. length (like_before s rows (seen_content l) at p)) c.in-Text.is in
    let more : c.count_before-earlier.result + 1 ≡ suc c.count_before-earlier.result = add-one c.count_before-earlier.result in
    on-ok c.push_text.result (λ e. e ∙ ap (λ n. string_bytes c.args.text.now ++ (codes "/text()" ++ bracketed n)) (more ∙ ap suc count) ∙ ap (λ l. string_bytes c.args.text.now ++ l) (sym step)) c.push_text.ensures

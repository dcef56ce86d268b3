use Rattle.std.proofs.Common.{◌≡◌, ◌∙◌, ◌+◌, ◌++◌, [], ap, sym, rules, arith, option_map, Some, None, inl, inr}
use Rattle.serde_json.specs.Data.{item}
use Rattle.serde_json.specs.View.{view, items_view}
use Rattle.serde_json.specs.declared.value.Value.{the_lemmas}
use Rattle.xf_json.specs.Element.{element, element_in, children_in}
use Rattle.xf_json.specs.Part.{items_from}
use Rattle.xf_json.proofs.Parts.{here, here_text, here_array, step_text, step_element, step_none, inner_none, failed_within, items_end}
use Rattle.xf_json.proofs.reading.+element.Goals as goal

pub returns-in-Err : goal.returns-in-Err
returns-in-Err t c =
    let vs = c.args.items.now in
    let i = c.loop-i.i in
    let rest = items_from (i + 1) (items_view vs) in
    let stands = here_array vs i c.index-items-i.result c.in-Array.inner c.loop-i-test.true c.index-items-i.is c.in-Array.is in
    let failed = simp c.deref.ensures.value at c.in-Err.ensures in
    failed_within c.in-Err.fault _ _ (element_in (items_view c.in-Array.inner.items)) _ c.in_ok-name.ensures
    (λ none. step_none _ c.loop-i.children c.loop-i.text (items_from i (items_view vs)) c.loop-i.invariant (ap (children_in c.loop-i.text) stands ∙ inner_none c.loop-i.text (items_view c.in-Array.inner.items) rest none)) failed

pub loop-i-preserved-in-String : goal.loop-i-preserved-in-String
loop-i-preserved-in-String t c =
    let vs = c.args.items.now in
    let i = c.loop-i.i in
    let stands = here_text vs i c.index-items-i.result c.in-String.more c.loop-i-test.true c.index-items-i.is c.in-String.is in
    let pushed = c.in_ok-push_str-in-String.ensures.ok ∙ ap (λ s. c.loop-i.text ++ s) c.as_str.ensures.value in
    step_text _ c.loop-i.children c.loop-i.text _ (items_from i (items_view vs)) _ c.loop-i.invariant stands
    ∙ ap (λ s. option_map (λ r. c.loop-i.children ++ r) (children_in s (items_from (i + 1) (items_view vs)))) (sym pushed)

pub returns : goal.returns
returns t c =
    let vs = c.args.items.now in
    let ended = c.loop-i.invariant ∙ ap (λ items. option_map (λ r. c.loop-i.children ++ r) (children_in c.loop-i.text items)) (items_end vs c.loop-i.i (omega arith)) in
    c.in_ok-name.ensures ∙ ap (option_map (element c.in_ok-name.field-0.name c.in_ok-name.field-0.attributes)) (ended ∙ ap Some (sym c.in_ok-push_text.ensures))

pub loop-i-preserved : goal.loop-i-preserved
loop-i-preserved t c =
    let vs = c.args.items.now in
    let i = c.loop-i.i in
    let rest = items_from (i + 1) (items_view vs) in
    let stands = here_array vs i c.index-items-i.result c.in-Array.inner c.loop-i-test.true c.index-items-i.is c.in-Array.is in
    let found = simp c.deref.ensures.value at c.in-Ok.ensures in
    step_element _ c.loop-i.children c.loop-i.text c.in-Ok.child (items_from i (items_view vs)) (items_view c.in-Array.inner.items) _ c.loop-i.invariant stands found
    ∙ ap (λ l. option_map (λ r. l ++ r) (children_in [] rest)) (sym c.in_ok-push_child-in-Array.ensures)
    ∙ ap (λ s. option_map (λ r. c.push_child.new.children ++ r) (children_in s rest)) (sym c.new-text-in-Array.ensures)

pub returns-in-Null : goal.returns-in-Null
returns-in-Null t c =
    let vs = c.args.items.now in
    let i = c.loop-i.i in
    let rest = items_from (i + 1) (items_view vs) in
    let text = c.loop-i.text in
    let v = c.index-items-i.result in
    let none : children_in text (item (view v) rest) ≡ None =
    elim c.in-Null.is [
      | inl e ↦ ap (λ x. children_in text (item (view x) rest)) e ∙ search (rules, the_lemmas)
      | inr r ↦ elim r [
        | inl e ↦ ap (λ x. children_in text (item (view x) rest)) e.1 ∙ search (rules, the_lemmas)
        | inr q ↦ elim q [
          | inl e ↦ ap (λ x. children_in text (item (view x) rest)) e.1 ∙ search (rules, the_lemmas)
          | inr e ↦ ap (λ x. children_in text (item (view x) rest)) e.1 ∙ search (rules, the_lemmas)
        ]
      ]
    ] in
    c.in_ok-name.ensures ∙ ap (option_map _) (step_none _ c.loop-i.children text (items_from i (items_view vs)) c.loop-i.invariant (ap (children_in text) (here vs i v c.loop-i-test.true c.index-items-i.is) ∙ none))

use Rattle.std.proofs.Common.{◌++◌, length, sym, ap, ◌∙◌}
use Rattle.xf_form_elements.proofs.ElementLemmas.{as-many}
use Rattle.xf_def_ui.specs.Interface.{interface_of}
use Rattle.xf_events.specs.Inner.{words_through}
use Rattle.xf_events.proofs.inner.words_at.Goals as goal

pub returns : goal.returns
returns c =
    let f = interface_of c.args.form.now in
    let found = c.parts_at.result.now in
    c.in_ok-push_words.ensures ∙ ap (λ l. l ++ words_through c.len.result f found) c.new-all.ensures
    ∙ ap (λ n. words_through n f found) (c.len.ensures ∙ sym (as-many c.args.form.now)) ∙ ap (λ ps. words_through (length f.elements) f ps) c.parts_at.ensures

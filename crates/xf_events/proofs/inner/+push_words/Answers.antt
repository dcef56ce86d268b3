use Rattle.std.proofs.Common.{◌≡◌, ◌++◌, ◌+◌, ◌-◌, suc, drop, refl, ap, ◌∙◌, arith}
use Rattle.std.proofs.lemmas.List.{drop_all}
use Rattle.xf_def_ui.specs.Interface.{interface_of}
use Rattle.xf_form_elements.specs.Parts.{host_parts, own_text}
use Rattle.xf_events.specs.Inner.{words_through}
use Rattle.xf_events.proofs.InnerLaws.{all-told, carried, no-words, no-words-further, unchanged, words-more}
use Rattle.xf_events.proofs.inner.+push_words.Goals as goal

pub returns-then-most-eq0 : goal.returns-then-most-eq0
returns-then-most-eq0 t c = unchanged refl (no-words-further (interface_of c.args.form.now) c.args.most c.args.parts.now c.if-most-eq0.true)

pub loop-part-preserved : goal.loop-part-preserved
loop-part-preserved t c =
    let f = interface_of c.args.form.now in
    let m = c.args.most - 1 in
    let ps = c.args.parts.now in
    let i = c.loop-part.part-index in
    let part = c.part-item.result in
    let now = c.loop-part.all in
    let mid = c.push_str.new.self in
    let more : c.args.most ≡ suc (c.args.most - 1) = omega (arith, c.if-most-eq0.false) in
    c.loop-part.invariant
    ∙ carried now mid c.push_words.new.all (own_text part) (words_through m f (host_parts f part)) (words_through c.args.most f (drop (i + 1) ps)) (words_through c.args.most f (drop i ps))
    (c.in_ok-push_str.ensures.ok ∙ ap (λ l. now ++ l) (c.own_text.ensures))
    (c.in_ok-push_words.ensures ∙ ap (λ l. mid ++ words_through m f l) c.host_parts.ensures)
    (words-more f c.args.most m ps i part c.loop-part-test.true c.part-item.is more)

pub returns : goal.returns
returns t c =
    let f = interface_of c.args.form.now in
    let ps = c.args.parts.now in
    let i = c.loop-part.part-index in
    all-told c.args.all.now c.loop-part.all (words_through c.args.most f ps) (words_through c.args.most f (drop i ps)) c.loop-part.invariant
    (ap (λ l. words_through c.args.most f l) (drop_all i ps c.loop-part-test.false) ∙ no-words f c.args.most)

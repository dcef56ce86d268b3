use Rattle.std.proofs.Common.{◌∙◌, ◌++◌, ap, map}
use Rattle.std.proofs.lemmas.Result.{on_ok_weaker}
use Rattle.xf_name.specs.Shown.{shown, shown_by, walk_of_all}
use Rattle.xf_name.proofs.WalkLemmas.{element_shown, same_shown}
use Rattle.xf_name.proofs.form_names.+elements.Goals as goal

pub push_element-returns : goal.push_element-returns
push_element-returns t c =
    let pushed = c.push.new.self.items in
    on_ok_weaker c.push_all.result (λ below. element_shown c.args.elements.now.items pushed c.push_all.new.elements.items c.args.element c.in_ok-push.ensures.items
    (λ above depth. below above depth ∙ ap (λ xs. map shown_by pushed ++ map shown (walk_of_all xs above depth)) c.as_slice.ensures)) c.push_all.ensures

pub push_elements-returns-in-Element : goal.push_elements-returns-in-Element
push_elements-returns-in-Element t c =
    on_ok_weaker c.push_element.result (λ below. same_shown c.args.elements.now.items c.push_element.new.elements.items c.args.lit.now c.in-Element.element c.in-Element.is below) c.push_element.ensures

use Rattle.std.proofs.Common.{◌<◌, length, sym, ap, ◌∙◌, subst}
use Rattle.xf_controls.specs.Former.{with_value_at}
use Rattle.xf_controls.proofs.ShownLaws.{set-value}
use Rattle.xf_controls.proofs.copy.ControlList.swap_value.Goals as goal

pub returns-clause-new : goal.returns-clause-new
returns-clause-new c =
    let items = c.self.inside.copies.items in
    let less : c.args.place < length items = subst (λ l. c.args.place < length l) (sym c.self.view_is) c.requires in
    set-value items c.args.place c.index_mut.result.now c.replace.new.dest less c.index_mut.ensures.value
    ∙ ap (λ v. with_value_at c.args.place v items) c.replace.ensures.after ∙ ap (with_value_at c.args.place c.args.value) c.self.view_is

use Rattle.std.proofs.Common.{Some, None, ap, ◌∙◌, slice_get}
use Rattle.xf_binds.proofs.Items.{entry-at}
use Rattle.xf_binds.proofs.applied.Applied.entry.Goals as goal

pub returns-in-Some : goal.returns-in-Some
returns-in-Some c =
    entry-at c.self.inside.items.items c.args.self.now c.args.at (Some c.in-Some.item.now) c.self.view_is (c.in-Some.ensures ∙ ap (λ l. slice_get l c.args.at) c.deref.ensures.value)

pub returns-in-None : goal.returns-in-None
returns-in-None c = entry-at c.self.inside.items.items c.args.self.now c.args.at None c.self.view_is (c.in-None.ensures ∙ ap (λ l. slice_get l c.args.at) c.deref.ensures.value)

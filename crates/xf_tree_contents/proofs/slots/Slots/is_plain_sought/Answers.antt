use Rattle.std.proofs.Common.{Some, None, Option, sym, ap, ◌∙◌, subst, not, ◌&&◌}
use Rattle.xf_tree_contents.specs.Keys.{content_in}
use Rattle.xf_tree_contents.specs.Slot.{Slot}
use Rattle.xf_tree_contents.specs.Slots.{IsNamed}
use Rattle.xf_tree_contents.specs.Sought.{is_sought}
use Rattle.xf_def_forest.specs.Forest.{is_attribute}
use Rattle.xf_tree_contents.proofs.SlotLemmas.{slots-at}
use Rattle.xf_tree_contents.proofs.slots.Slots.is_plain_sought.Goals as goal

pub is_plain_entry_sought-requires : goal.is_plain_entry_sought-requires
is_plain_entry_sought-requires c = subst (IsNamed c.self.inside.names.names) (sym c.in-Some.ensures) (c.self.invariant.named c.args.key)

pub returns-in-Some : goal.returns-in-Some
returns-in-Some c =
    let here = slots-at c.self.inside.slab c.self.inside.names c.args.self.now c.args.key (Some c.in-Some.entry.now) c.self.view_is c.in-Some.ensures in
    c.is_plain_entry_sought.ensures ∙ ap (λ (s : Option Slot). not (is_attribute (content_in s)) && is_sought c.args.sought (content_in s)) (sym here)

pub returns-in-None : goal.returns-in-None
returns-in-None c =
    let here = slots-at c.self.inside.slab c.self.inside.names c.args.self.now c.args.key None c.self.view_is c.in-None.ensures in
    c.is_root_sought.ensures ∙ ap (λ (s : Option Slot). not (is_attribute (content_in s)) && is_sought c.args.sought (content_in s)) (sym here)

use Rattle.std.proofs.Common.{Some, sym, ap, ◌∙◌, subst}
use Rattle.xf_tree_contents.specs.Slot.{Slot}
use Rattle.xf_tree_contents.specs.Bearers.{IsNoted}
use Rattle.xf_tree_contents.proofs.SlotLemmas.{seen-updated, room-there, counted}
use Rattle.xf_tree_contents.proofs.BearerLemmas.{held-updated}
use Rattle.xf_tree_contents.proofs.slots.Slots.insert.Goals as goal

pub entry_for-entry-requires : goal.entry_for-entry-requires
entry_for-entry-requires c = room-there c.self.inside.slab c.self.inside.names c.args.self.now c.self.view_is c.requires

pub returns-clause-slot : goal.returns-clause-slot
returns-clause-slot c =
    let made = c.entry_for-entry in
    seen-updated c.self.inside.slab c.insert_reserved.new.self c.self.inside.names made.new.names c.insert_reserved.result (Some made.result) made.ensures.kept c.self.invariant.named c.insert_reserved.ensures.updates c.args.self.now _ c.self.view_is (ap Some made.ensures.slot)

pub returns-clause-count : goal.returns-clause-count
returns-clause-count c = counted c.self.inside.slab c.insert_reserved.new.self c.self.inside.names c.entry_for-entry.new.names c.args.self.now c.self.view_is c.insert_reserved.ensures.len

pub invariant_of-self : goal.invariant_of-self
invariant_of-self c =
    let made = c.entry_for-entry in
    let key = c.insert_reserved.result in
    let noted : IsNoted made.new.bearers c.args.content key = subst (IsNoted made.new.bearers c.args.content) (c.vacant_key-key.ensures.value ∙ sym c.insert_reserved.ensures.key) made.ensures.noted in
    held-updated c.self.inside.slab c.insert_reserved.new.self c.self.inside.names made.new.names c.self.inside.bearers made.new.bearers key (Some made.result) made.ensures.kept c.self.invariant made.ensures.rest c.insert_reserved.ensures.updates
    made.ensures.named (subst (λ (s : Slot). IsNoted made.new.bearers s.content key) (sym made.ensures.slot) noted)

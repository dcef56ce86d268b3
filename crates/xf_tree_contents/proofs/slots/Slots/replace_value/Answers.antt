use Rattle.std.proofs.Common.{option_map, sym, ap, ◌∙◌, subst}
use Rattle.std.specs.Option.{option_copied_mut}
use Rattle.slab.specs.Slab.{get, Updates}
use Rattle.xf_tree_contents.specs.declared.slots.Slots.TheInside.{Inside}
use Rattle.xf_tree_contents.specs.Slots.{slot_of, slots_of, valued_slot, AreHeld}
use Rattle.xf_tree_contents.proofs.SlotLemmas.{written, absent, valued-slot, unvalued-slot}
use Rattle.xf_tree_contents.proofs.BearerLemmas.{held-written}
use Rattle.xf_tree_contents.proofs.slots.Slots.replace_value.Goals.{in-Some+in-Attribute, in-Some+in_default, in-None}
use Rattle.xf_tree_contents.proofs.slots.Slots.replace_value.Goals as goal

pub returns-clause-slot : goal.returns-clause-slot
returns-clause-slot c =
    let slab = c.self.inside.slab in
    let names = c.self.inside.names in
    let seen = c.args.self.now in
    let key = c.args.key in
    let change = valued_slot c.args.text in
    elim c.match-get_mut.branch [
      | in-Some+in-Attribute w ↦
          let e = w.in-Some.entry.now in
          let is = sym (ap option_copied_mut w.in-Some.is) ∙ c.get_mut.ensures.value in
          let changes = valued-slot names.names e w.replace.new.dest w.in-Attribute.is ∙ ap (λ t. valued_slot t (slot_of names.names e)) w.replace.ensures.after in
          subst (λ (i : Inside). Updates seen (slots_of i.slab i.names) key (option_map change (get seen key))) (sym w.self-inside-is)
          (written slab names seen key c.self.view_is change e _ c.self.invariant.named is changes)
      | in-Some+in_default w ↦
          let e = w.in-Some.entry.now in
          let is = sym (ap option_copied_mut w.in-Some.is) ∙ c.get_mut.ensures.value in
          subst (λ (i : Inside). Updates seen (slots_of i.slab i.names) key (option_map change (get seen key))) (sym w.self-inside-is)
          (written slab names seen key c.self.view_is change e e c.self.invariant.named is (unvalued-slot names.names e c.args.text w.in_default.not-Attribute))
      | in-None w ↦
          let is = sym (ap option_copied_mut w.in-None.is) ∙ c.get_mut.ensures.value in
          subst (λ (i : Inside). Updates seen (slots_of i.slab i.names) key (option_map change (get seen key))) (sym w.self-inside-is)
          (absent slab names seen key c.self.view_is change is)
    ]

pub invariant_of-self : goal.invariant_of-self
invariant_of-self c =
    let slab = c.self.inside.slab in
    let names = c.self.inside.names in
    let bearers = c.self.inside.bearers in
    let key = c.args.key in
    elim c.match-get_mut.branch [
      | in-Some+in-Attribute w ↦
          let e = w.in-Some.entry.now in
          let is = sym (ap option_copied_mut w.in-Some.is) ∙ c.get_mut.ensures.value in
          subst (λ (i : Inside). AreHeld i.slab i.names i.bearers) (sym w.self-inside-is) (held-written slab names bearers key c.self.invariant e e.number e.owner w.replace.new.dest is)
      | in-Some+in_default w ↦
          let e = w.in-Some.entry.now in
          let is = sym (ap option_copied_mut w.in-Some.is) ∙ c.get_mut.ensures.value in
          subst (λ (i : Inside). AreHeld i.slab i.names i.bearers) (sym w.self-inside-is) (held-written slab names bearers key c.self.invariant e e.number e.owner e.text is)
      | in-None w ↦ subst (λ (i : Inside). AreHeld i.slab i.names i.bearers) (sym w.self-inside-is) c.self.invariant
    ]

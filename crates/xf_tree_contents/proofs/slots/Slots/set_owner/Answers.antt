use Rattle.std.proofs.Common.{option_map, refl, sym, ap, ◌∙◌, subst}
use Rattle.std.specs.Option.{option_copied_mut}
use Rattle.slab.specs.Slab.{get, Updates}
use Rattle.xf_tree_contents.specs.declared.slots.Slots.TheInside.{Inside}
use Rattle.xf_tree_contents.specs.Slots.{slots_of, owned_slot, AreHeld}
use Rattle.xf_tree_contents.proofs.SlotLemmas.{written, absent}
use Rattle.xf_tree_contents.proofs.BearerLemmas.{held-written}
use Rattle.xf_tree_contents.proofs.slots.Slots.set_owner.Goals.{in-Some, in_default}
use Rattle.xf_tree_contents.proofs.slots.Slots.set_owner.Goals as goal

pub returns : goal.returns
returns c =
    let slab = c.self.inside.slab in
    let names = c.self.inside.names in
    let seen = c.args.self.now in
    let key = c.args.key in
    let change = owned_slot c.args.owner in
    elim c.match-get_mut.branch [
      | in-Some w ↦
          let is = sym (ap option_copied_mut w.in-Some.is) ∙ c.get_mut.ensures.value in
          subst (λ (i : Inside). Updates seen (slots_of i.slab i.names) key (option_map change (get seen key))) (sym w.self-inside-is)
          (written slab names seen key c.self.view_is change w.in-Some.entry.now _ c.self.invariant.named is refl)
      | in_default w ↦
          let is = sym (ap option_copied_mut w.in_default.is) ∙ c.get_mut.ensures.value in
          subst (λ (i : Inside). Updates seen (slots_of i.slab i.names) key (option_map change (get seen key))) (sym w.self-inside-is)
          (absent slab names seen key c.self.view_is change is)
    ]

pub invariant_of-self : goal.invariant_of-self
invariant_of-self c =
    let slab = c.self.inside.slab in
    let names = c.self.inside.names in
    let bearers = c.self.inside.bearers in
    let key = c.args.key in
    elim c.match-get_mut.branch [
      | in-Some w ↦
          let e = w.in-Some.entry.now in
          let is = sym (ap option_copied_mut w.in-Some.is) ∙ c.get_mut.ensures.value in
          subst (λ (i : Inside). AreHeld i.slab i.names i.bearers) (sym w.self-inside-is) (held-written slab names bearers key c.self.invariant e e.number c.args.owner e.text is)
      | in_default w ↦ subst (λ (i : Inside). AreHeld i.slab i.names i.bearers) (sym w.self-inside-is) c.self.invariant
    ]

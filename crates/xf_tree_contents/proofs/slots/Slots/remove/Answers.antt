use Rattle.std.proofs.Common.{None, refl}
use Rattle.xf_tree_contents.proofs.SlotLemmas.{same-names, seen-updated}
use Rattle.xf_tree_contents.proofs.BearerLemmas.{held-updated}
use Rattle.xf_tree_contents.proofs.slots.Slots.remove.Goals as goal

pub returns : goal.returns
returns c =
    let names = c.self.inside.names in
    seen-updated c.self.inside.slab c.try_remove.new.self names names c.args.key None (same-names names.names) c.self.invariant.named c.try_remove.ensures.updates c.args.self.now None c.self.view_is refl

pub invariant_of-self : goal.invariant_of-self
invariant_of-self c =
    let names = c.self.inside.names in
    held-updated c.self.inside.slab c.try_remove.new.self names names c.self.inside.bearers c.self.inside.bearers c.args.key None (same-names names.names) c.self.invariant (λ name k h. h) c.try_remove.ensures.updates tt tt

use Rattle.std.proofs.Common.{◌≡◌, List, Option, Some, None, option_map, slice_get, refl, ap, ◌∙◌}
use Rattle.std.specs.Borrow.{Bor}
use Rattle.xf_binds.specs.declared.entry.Item.{Item}
use Rattle.xf_binds.specs.Held.{held_of, held_on, passes}
use Rattle.xf_binds.proofs.Singles.{likely-item}
use Rattle.xf_binds.proofs.applied.Applied.seat_by.Goals as goal

looked : (o : Option (Bor Item)) → option_map (λ (i : Bor Item). held_of i.now) o ≡ option_map held_of (option_map (λ (i : Bor Item). i.now) o)
looked None = refl
looked (Some i) = refl

pub returns-then-is_on : goal.returns-then-is_on
returns-then-is_on c =
    likely-item c.self.inside.items.items c.args.self.now c.self.inside.seats c.args.node.number c.args.property c.args.likely
    (option_map (λ (i : Bor Item). i.now) c.item_at.result) c.is_on.result c.self.view_is c.self.invariant.0
    (c.item_at.ensures ∙ ap (λ (l : List Item). slice_get l c.args.likely) c.deref.ensures.value)
    (c.is_on.ensures ∙ ap (passes (held_on c.args.node.number c.args.property)) (looked c.item_at.result)) c.if-is_on.true

use Rattle.std.proofs.Common.{nat_eq, slice_get, sym, ap, ◌∙◌}
use Rattle.indexmap.specs.IndexMap.{get}
use Rattle.xf_binds.specs.Held.{held_on, is_seat, passes, seat_of}
use Rattle.xf_binds.proofs.Places.{seat-or}
use Rattle.xf_binds.proofs.applied.Applied.found.Goals as goal

pub returns-in-Some : goal.returns-in-Some
returns-in-Some c = λ i.
    let n = c.args.node.number in
    let p = c.args.property in
    ap (λ o. is_seat o i) (c.at.ensures ∙ ap (λ t. seat_of t p) (c.self.invariant.1 n c.in-Some.seats.now (sym (ap (λ l. slice_get l n) c.deref.ensures.value) ∙ c.in-Some.ensures)) ∙ seat-or (get nat_eq c.self.inside.seats n) p)
    ∙ c.self.invariant.0 n p i ∙ ap (λ l. passes (held_on n p) (slice_get l i)) c.self.view_is

pub returns-in-None : goal.returns-in-None
returns-in-None c = λ i.
    let n = c.args.node.number in
    let p = c.args.property in
    ap (λ o. is_seat o i) c.seat_in.ensures ∙ c.self.invariant.0 n p i ∙ ap (λ l. passes (held_on n p) (slice_get l i)) c.self.view_is

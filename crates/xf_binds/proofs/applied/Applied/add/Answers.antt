use Rattle.std.proofs.Common.{◌≡◌, length, sym, subst, ◌∙◌, ap, arith}
use Rattle.xf_binds.specs.Held.{AreNear, entry_of, seats_with}
use Rattle.xf_binds.proofs.Items.{added, added-not, added-new, set-added}
use Rattle.xf_binds.proofs.Nears.{near-none}
use Rattle.xf_binds.proofs.applied.Applied.add.Goals as goal

pub returns-then-is_some-clause-new : goal.returns-then-is_some-clause-new
returns-then-is_some-clause-new c =
    added-not c.self.inside.items.items c.args.self.now (entry_of c.args.entry) c.self.inside.seats c.seats_in-seats.result c.at.result c.self.view_is c.self.invariant.0 c.seats_in-seats.ensures c.at.ensures
    (sym c.is_some.ensures ∙ c.if-is_some.true)

pub returns-in-Ok-clause-new : goal.returns-in-Ok-clause-new
returns-in-Ok-clause-new c =
    added-new c.self.inside.items.items c.args.self.now (entry_of c.args.entry) c.self.inside.seats c.seats_in-seats.result c.at.result c.self.view_is c.self.invariant.0 c.seats_in-seats.ensures c.at.ensures
    (sym c.is_some.ensures ∙ c.if-is_some.false)

pub invariant_of-self-in-Ok : goal.invariant_of-self-in-Ok
invariant_of-self-in-Ok c =
    let size : c.len-at.result ≡ length c.self.inside.items.items = omega (arith, c.len-at.ensures, c.self.inside.items.ok) in (
      added c.self.inside.items.items c.push.new.self.items c.args.self.now c.args.entry c.self.inside.seats c.insert.new.self c.seats_in-seats.result c.set.new.self c.at.result
          c.self.view_is c.self.invariant.0 c.in_ok-push.ensures.items c.seats_in-seats.ensures c.at.ensures (sym c.is_some.ensures ∙ c.if-is_some.false) (c.set.ensures ∙ ap (seats_with c.seats_in-seats.result c.args.entry.property) size) (λ q. c.in-Ok.ensures.updates.0 q),
      subst (λ l. AreNear c.insert.new.self l) (sym c.clear.ensures.items) (near-none c.insert.new.self),
      set-added c.self.inside.items.items c.push.new.self.items c.args.entry c.self.inside.last c.set-in-Ok.new.self c.len-at.result c.in_ok-push.ensures.items c.set-in-Ok.ensures c.self.invariant.2,
    )

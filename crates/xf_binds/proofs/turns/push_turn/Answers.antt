use Rattle.std.proofs.Common.{◌++◌, ◌∙◌, map, slice_get, ap, sym, append-nil}
use Rattle.std.proofs.lemmas.Result.{on_ok_weaker}
use Rattle.xf_binds.specs.Held.{entries_in}
use Rattle.xf_binds.specs.Placed.{placed_at, placed_of}
use Rattle.xf_binds.proofs.Placings.{placed-none, placed-some, seat-kept}
use Rattle.xf_binds.proofs.turns.push_turn.Goals as goal

pub push_at-requires : goal.push_at-requires
push_at-requires c = seat-kept (entries_in c.args.applied.now) c.args.node.number c.in-Some.at (sym c.place.ensures ∙ c.in-Some.is)

pub returns-in-Some-clause-placed : goal.returns-in-Some-clause-placed
returns-in-Some-clause-placed c =
    let entries = entries_in c.args.applied.now in
    let at = c.in-Some.at in
    on_ok_weaker c.push_at.result (λ h.
    h ∙ ap (λ l. map placed_of c.args.turns.now.items ++ l)
    (ap (λ ps. placed_at (slice_get entries at) (slice_get ps at)) c.requires ∙ placed-some 0 entries c.args.node.number at (sym c.place.ensures ∙ c.in-Some.is))) c.push_at.ensures.placed

pub returns-in-None-clause-placed : goal.returns-in-None-clause-placed
returns-in-None-clause-placed c =
    sym (append-nil (map placed_of c.args.turns.now.items))
    ∙ ap (λ l. map placed_of c.args.turns.now.items ++ l) (sym (placed-none 0 (entries_in c.args.applied.now) c.args.node.number (sym c.place.ensures ∙ c.in-None.is)))

use Rattle.std.proofs.Common.{◌≡◌, ◌++◌, ◌∙◌, Some, map, slice_get, ap, sym, append-nil}
use Rattle.xf_binds.specs.Held.{entries_in, entry_of}
use Rattle.xf_binds.specs.Placed.{placed_at, placed_of}
use Rattle.xf_binds.proofs.Placings.{got-past, placed-nowhere}
use Rattle.xf_binds.proofs.turns.push_at.Goals as goal

pub returns-in-None-get-clause-placed : goal.returns-in-None-get-clause-placed
returns-in-None-get-clause-placed c =
    let entry = slice_get (entries_in c.args.applied.now) c.args.at in
    sym (append-nil (map placed_of c.args.turns.now.items))
    ∙ ap (λ l. map placed_of c.args.turns.now.items ++ l)
    (sym (ap (placed_at entry) (got-past c.args.places.now c.args.at c.in-None-get.ensures.lookup.3) ∙ placed-nowhere entry))

pub returns-in-Some-get-clause-seated : goal.returns-in-Some-get-clause-seated
returns-in-Some-get-clause-seated c =
    c.push_placed.ensures.seated (entries_in c.args.applied.now) (c.requires (entry_of c.in-Some.entry) (sym c.in-Some.ensures))

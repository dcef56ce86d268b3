use Rattle.std.proofs.Common.{sym, ap, ◌∙◌, Ok}
use Rattle.xf_engine_world.specs.State.{state_of}
use Rattle.xf_engine_world.proofs.NoteLaws.{note-added}
use Rattle.xf_engine_world.proofs.noting.add_note.Goals as goal

pub returns-in-Ok-clause-done : goal.returns-in-Ok-clause-done
returns-in-Ok-clause-done c =
    let s = state_of c.args.world.now in
    note-added s c.args.note c.in-Ok.ensures.done.1 ∙ ap (λ ns. Ok (record s { notes = ns })) (sym c.in-Ok.ensures.done.0)

use Rattle.std.proofs.Common.{true, [], Ok, sym, ap, ◌∙◌}
use Rattle.xf_def_machine.specs.Events.{fired}
use Rattle.xf_engine_world.proofs.telling.event_at.Goals as goal

pub returns-in-Ok : goal.returns-in-Ok
returns-in-Ok c =
    ap (λ rows. Ok (fired c.args.name.now true true [] c.args.target rows)) (sym c.in_ok-rows.ensures)
    ∙ ap (λ e. Ok e) (sym c.in-Ok.ensures)

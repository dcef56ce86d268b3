use Rattle.std.proofs.Common.{◌≡◌, ◌-◌, suc, length, Ok, sym, ap, ◌∙◌, arith}
use Rattle.xf_events.proofs.AskLaws.{last-is}
use Rattle.xf_engine_world.proofs.asking.last_one.Goals as goal

pub returns-in-Ok : goal.returns-in-Ok
returns-in-Ok c =
    let ns = c.args.set.now in
    let count = c.len-count.result in
    let many : length ns ≡ suc (count - 1) = omega (arith, c.len-count.ensures, c.if-count-eq0.false) in
    ap (λ l. Ok l) (last-is ns c.at.result.number (count - 1) many c.at.ensures ∙ sym c.in-Ok.ensures)

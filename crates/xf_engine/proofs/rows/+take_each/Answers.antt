use Rattle.std.proofs.Common.{◌≡◌, ◌<◌, length, arith}
use Rattle.std.proofs.lemmas.Bool.Decides.{nat_tests}
use Rattle.xf_actions.proofs.Flow.{same-runs, stopped}
use Rattle.xf_engine.proofs.RowLaws.{around-as, none-left, none-named, one-taken, untaken-refuses}
use Rattle.xf_engine.proofs.rows.+take_each.Goals as goal

pub returns-then-is_empty-clause-done : goal.returns-then-is_empty-clause-done
returns-then-is_empty-clause-done g t c =
    let end : length c.args.repeats.now ≡ 0 = grind (arith, nat_tests, c.if-is_empty.ensures) in
    none-left (g.W.World.state c.args.world.now) c.args.repeats.now c.args.numbers.now end

pub returns-then-is_empty-2-clause-done : goal.returns-then-is_empty-2-clause-done
returns-then-is_empty-2-clause-done g t c =
    let end : length c.args.numbers.now ≡ 0 = grind (arith, nat_tests, c.if-is_empty-2.ensures) in
    none-named (g.W.World.state c.args.world.now) c.args.repeats.now c.args.numbers.now end

pub returns-in_err-set_index-clause-done : goal.returns-in_err-set_index-clause-done
returns-in_err-set_index-clause-done g t c =
    let s = g.W.World.state c.args.world.now in
    let some : 0 < length c.args.repeats.now = grind (arith, nat_tests, c.if-is_empty.ensures) in
    let more : 0 < length c.args.numbers.now = grind (arith, nat_tests, c.if-is_empty-2.ensures) in
    stopped _ _ _ _ _ c.from_residual.ensures.1
    (untaken-refuses s c.args.repeats.now c.args.numbers.now _ _ c.model_at-model.result _ _ some more
    (around-as c.form.result.now s _ _ c.form.ensures c.model_at-model.ensures) c.in_err-set_index.ensures.done)

pub returns-clause-done : goal.returns-clause-done
returns-clause-done g t c =
    let s = g.W.World.state c.args.world.now in
    let some : 0 < length c.args.repeats.now = grind (arith, nat_tests, c.if-is_empty.ensures) in
    let more : 0 < length c.args.numbers.now = grind (arith, nat_tests, c.if-is_empty-2.ensures) in
    same-runs _ _ _ _ _
    (one-taken s (g.W.World.state c.set_index.new.world) c.args.repeats.now c.args.numbers.now _ _ c.model_at-model.result some more
    (around-as c.form.result.now s _ _ c.form.ensures c.model_at-model.ensures) c.in_ok-set_index.ensures.done)
    c.take_each.ensures.done
